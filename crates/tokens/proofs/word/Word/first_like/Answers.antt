use Rattle.std.proofs.Common.{◌≡◌, [], ◌∷◌, rules, sym, ap}
use Rattle.tokens.specs.Words.{word_of}
use Rattle.tokens.proofs.Words.{six}
use Rattle.tokens.proofs.word.Word.first_like.Goals as goal

pub returns-in-output : goal.returns-in-output
returns-in-output c =
    let e : c.args.run.now ≡ 111 ∷ 117 ∷ 116 ∷ 112 ∷ 117 ∷ 116 ∷ [] = six c.args.run.now 111 117 116 112 117 116 c.in-output.len_at_least c.in-output.len_below (search rules) (search rules) (search rules) (search rules) (search rules) (search rules) in
    sym (ap word_of e)
