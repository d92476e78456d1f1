use Rattle.std.proofs.Common.{◌≡◌, ℕ, zero, suc, ◌+◌, ◌++◌, codes, sym, refl, ap, ◌∙◌, append_assoc, add-one, rules}
use Rattle.judge_report.specs.Report.{refs_text}
use Rattle.std.proofs.Output.{has_written_append, has_written_of_eq}
use Rattle.judge_report.proofs.ModeDisplay.fmt.Goals as goal

refs_end : (k : ℕ) → refs_text k ++ codes "ref " ≡ refs_text (suc k)
refs_end zero = refl
refs_end (suc k) = append_assoc (codes "ref ") (refs_text k) (codes "ref ") ∙ ap (λ l. codes "ref " ++ l) (refs_end k)

one_more : (k : ℕ) → refs_text k ++ codes "ref " ≡ refs_text (k + 1)
one_more k = refs_end k ∙ ap refs_text (sym (add-one k))

pub loop-written-preserved : goal.loop-written-preserved
loop-written-preserved g c p =
    has_written_of_eq _ _ _ _ _ (one_more c.loop-written._written) (has_written_append _ _ _ _ _ _ (c.loop-written.invariant p) (search rules))
