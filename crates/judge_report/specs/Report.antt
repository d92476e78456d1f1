-- The report of a judgement, byte for byte.
use Rattle.std.specs.Prelude.{ℕ, zero, suc, List, [], ◌∷◌, ◌++◌, codes, decimal}
use Rattle.grammar.specs.Tree.{Declared, Primitive, int, bool}
use Rattle.refusals.specs.Text.{refusal_text}
use Rattle.sheet.specs.Faults.{number_of}
use Rattle.sheet.specs.Judging.{Verdict, passed, refused}
use Rattle.sheet.specs.Sizes.{size}

-- so many `ref`, each with a space behind it
abbrev pub refs_text : ℕ → List ℕ
refs_text zero = []
refs_text (suc k) = codes "ref " ++ refs_text k

abbrev pub primitive_text : Primitive → List ℕ
primitive_text int = codes "int"
primitive_text bool = codes "bool"

-- a mode, `ref` and all
abbrev pub mode_text : ℕ → Primitive → List ℕ
mode_text refs m = refs_text refs ++ primitive_text m

-- one declared name with its mode, `NAME MODE`
abbrev pub name_line : Declared → List ℕ
name_line d = d.letters ++ (codes " " ++ (mode_text d.refs d.primitive ++ codes "\n"))

abbrev pub name_lines : List Declared → List ℕ
name_lines [] = []
name_lines (d ∷ ds) = name_line d ++ name_lines ds

-- `passed`, a line for each declared name, and `COUNT statements`; or only `refused NUMBER PLACE`
abbrev pub report_of : Verdict → List ℕ
report_of (passed p ts) = codes "passed\n" ++ (name_lines p.declared ++ (decimal (size p.body) ++ codes " statements\n"))
report_of (refused f q) = refusal_text (number_of f) q ++ codes "\n"
