use Rattle.std.proofs.Common.{arith}
use Rattle.std.proofs.lemmas.Bool.Decides.{nat_tests}
use Rattle.tokens.proofs.Runs.{parsed}
use Rattle.tokens.proofs.kind.constant_kind.Goals as goal

pub returns-in-Ok : goal.returns-in-Ok
returns-in-Ok c =
    let p = rw c.in-Ok.is at (parsed c.args.bytes.now c.parse.result c.requires (rw c.run_text.ensures at c.parse.ensures.value.0)) in
    grind (arith, nat_tests)

pub returns-in_default : goal.returns-in_default
returns-in_default c =
    let p = parsed c.args.bytes.now c.parse.result c.requires (rw c.run_text.ensures at c.parse.ensures.value.0) in
    grind (arith, nat_tests)
