-- What tokens parse as: a program, or the one refusal.
use Rattle.std.specs.Prelude.{ℕ, ◌+◌, Bool, cond, ◌||◌, List, [], ◌∷◌, length, Some, None, Option, nat_lt}
use Rattle.grammar.specs.Machine.{Purpose, for_assign, for_choose, for_loop, for_output, Point, wanted, target, operand, operand_read, input_name, complete, State, opening, moding, naming, named, between, inside, finished, advance, program_of}
use Rattle.grammar.specs.Tree.{Program}
use Rattle.tokens.specs.Tokens.{Placed}
use Rattle.parser.specs.declared.fault.Fault.{Fault}
use Rattle.parser.specs.declared.fault.Fault.TheVariants.{NotAllowed, TooDeep, MemoryShort}

-- the limits: open parentheses, open parts, and `ref` in a mode
abbrev pub most_parentheses : ℕ
most_parentheses = 16

abbrev pub most_parts : ℕ
most_parts = 16

abbrev pub most_refs : ℕ
most_refs = 7

-- a part is open from its `if` or `while` on
abbrev pub begun : Purpose → ℕ
begun (for_assign p n) = 0
begun (for_choose p) = 1
begun (for_loop p) = 1
begun (for_output p) = 0

abbrev pub parentheses_at : Point → ℕ
parentheses_at wanted = 0
parentheses_at (target p n) = 0
parentheses_at (operand u l ls) = length ls
parentheses_at (operand_read u l ls e) = length ls
parentheses_at (input_name p) = 0
parentheses_at (complete s) = 0

abbrev pub part_at : Point → ℕ
part_at wanted = 0
part_at (target p n) = 0
part_at (operand u l ls) = begun u
part_at (operand_read u l ls e) = begun u
part_at (input_name p) = 0
part_at (complete s) = 0

-- more is open than the limits allow
abbrev pub deep : State → Bool
deep opening = nat_lt most_refs 0
deep (moding ds refs) = nat_lt most_refs refs
deep (naming ds refs m) = nat_lt most_refs 0
deep (named ds refs m) = nat_lt most_refs 0
deep (between ds) = nat_lt most_refs 0
deep (inside ds parts before pt) = nat_lt most_parentheses (parentheses_at pt) || nat_lt most_parts (length parts + part_at pt)
deep (finished ds body) = nat_lt most_refs 0

pub data Verdict : Type 0 where
  passed : Program → Verdict
  refused : Fault → ℕ → Verdict

-- a program where the tokens end; otherwise the source, which has so many bytes, ends early
abbrev pub at_end : Option Program → ℕ → Verdict
at_end None end = refused NotAllowed end
at_end (Some p) end = passed p

-- the state after a token at a place, and what the rest then parses as
abbrev pub met : ℕ → Option State → (State → Verdict) → Verdict
met p None rest = refused NotAllowed p
met p (Some s) rest = cond (deep s) (refused TooDeep p) (rest s)

-- from a state, with the length of the source
abbrev pub parse : ℕ → State → List Placed → Verdict
parse end s [] = at_end (program_of (Some s)) end
parse end s (t ∷ ts) = met t.place (advance s t) (λ next. parse end next ts)

-- all tokens of a source of so many bytes, with memory for so many open parts
abbrev pub parsing : ℕ → ℕ → List Placed → Verdict
parsing memory end ts = cond (nat_lt memory most_parts) (refused MemoryShort 0) (parse end opening ts)
