use Rattle.std.proofs.Common.{is_ok, ap, arith}
use Rattle.std.proofs.ResultArms.{chosen}
use Rattle.tokens.proofs.Resumed.{added, push_placed, length_placed}
use Rattle.tokens.proofs.told.Told.add.Goals as goal

pub returns : goal.returns
returns c =
    let tokens = c.args.self.now.tokens in
    let pushed = chosen _ _ _ _ c.push.ensures.items (ap is_ok c.in_ok-push.was) in
    added _ _ _ _ (omega (arith, length_placed tokens, c.len.ensures)) (push_placed tokens c.push.new.self _ pushed)
