-- What a source is judged to be: a program, or the one refusal. Each phase begins only if those before it found nothing.
use Rattle.std.specs.Prelude.{ℕ, cond, List, length, Some, None, nat_lt}
use Rattle.grammar.specs.Machine.{opening}
use Rattle.grammar.specs.Tree.{Program}
use Rattle.modes.specs.Declaring as declarations
use Rattle.modes.specs.Judging.{judge_train}
use Rattle.parser.specs.Parsing as parsing
use Rattle.parser.specs.declared.fault.Fault.TheVariants.{MemoryShort}
use Rattle.tokens.specs.Reading as texts
use Rattle.tokens.specs.Tokens.{Placed}
use Rattle.sheet.specs.declared.fault.Fault.{Fault}
use Rattle.sheet.specs.declared.fault.Fault.TheVariants.{Text, Grammar, Modes}

-- a program with its tokens, or a refusal
pub data Verdict : Type 0 where
  passed : Program → List Placed → Verdict
  refused : Fault → ℕ → Verdict

-- the fourth phase: statements
abbrev pub after_declaring : declarations.Verdict → Program → List Placed → Verdict
after_declaring None p ts = passed p ts
after_declaring (Some x) p ts = refused (Modes x.0) x.1

-- the third: declarations, and then the fourth
abbrev pub after_parsing : parsing.Verdict → List Placed → Verdict
after_parsing (parsing.passed p) ts = after_declaring (declarations.first (declarations.declaring p.declared) (judge_train p.declared p.body)) p ts
after_parsing (parsing.refused f p) ts = refused (Grammar f) p

-- the second: grammar and nesting
abbrev pub after_reading : texts.Reading → ℕ → Verdict
after_reading (texts.read ts) end = after_parsing (parsing.parse end opening ts) ts
after_reading (texts.refused f p) end = refused (Text f) p

-- all of them, with memory for so many open parts, which is tested before everything else
abbrev pub judging : ℕ → List ℕ → Verdict
judging memory source =
    cond (nat_lt memory parsing.most_parts) (refused (Grammar MemoryShort) 0) (after_reading (texts.reading source) (length source))
