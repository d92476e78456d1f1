use Rattle.std.proofs.Common.{List, length, map, rules, Err}
use Rattle.grammar.specs.Tree.{Declared}
use Rattle.outline.specs.Code.{Op}
use Rattle.parser.specs.Answer.{Answers}
use Rattle.parser.specs.Declarations.{declared}
use Rattle.parser.specs.Parsing.{Verdict, parsing}
use Rattle.parser.specs.Progress.{code}
use Rattle.parser.specs.Trains.{Ended}
use Rattle.parser.specs.declared.fault.Fault.{Fault}
use Rattle.refusals.specs.declared.failure.Failure.{Failure}
use Rattle.refusals.specs.declared.failure.Failure.TheVariants.{Refused, Memory}
use Rattle.std.proofs.lemmas.Result.{err_from_is_err_and}
use Rattle.tokens.specs.Tokens.{token_of}
use Rattle.parser.proofs.program.parse_tokens.Goals as goal

not_ended : (all : Verdict) (ds : List Declared) (e : Failure Fault) (now : List Op) → Ended all ds (Err e) now → Answers all (Err e)
not_ended all ds (Refused x) now h = h
not_ended all ds (Memory x) now h = tt

pub returns-in_err-statements : goal.returns-in_err-statements
returns-in_err-statements c =
    let p = err_from_is_err_and c.from_residual-in_err-statements.result c.from_residual-in_err-statements.ensures.1 in
    let all = parsing (length c.args.memory.now) c.args.end (map token_of c.args.tokens.now) in
    let ds = declared c.declarations.new.self in
    rw (p.1, p.2) (not_ended all ds c.in_err-statements.field-0.0 (code c.statements.new.self) (c.in_err-statements.ensures all ds (search rules)))
