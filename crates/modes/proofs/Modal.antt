-- The judgements mean what the law says.
use Rattle.modes.proofs.Flattened.{flattened_train}
use Rattle.modes.proofs.Judged.{allowed_train, given_mode, judged_mode, one_mode, passed_train}
use Rattle.modes.proofs.Named.{distinct, first_wrong, none_wrong}
use Rattle.modes.specs.Law as law

pub stands : law.Modal
stands = record {
  sound = distinct;
  whole = none_wrong;
  earliest = first_wrong;
  given = given_mode;
  judged = λ ds e m h. judged_mode h;
  allowed = allowed_train;
  passed = λ ds t a. passed_train a;
  unique = λ ds e m n h k. one_mode h k;
  flattened = flattened_train;
}
