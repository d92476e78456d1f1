-- From each state of the machine some tokens lead to the end of a program.
use Rattle.std.proofs.Common.{◌≡◌, ℕ, List, [], ◌∷◌, ◌++◌, Some, refl, ap, ◌∙◌}
use Rattle.grammar.specs.Bnf.{at, declare}
use Rattle.grammar.specs.Law.{Viable}
use Rattle.grammar.specs.Machine.{Level, value_of, closed, Purpose, for_assign, for_choose, for_loop, for_output, Part, then_part, else_part, loop_part, Point, wanted, target, operand, operand_read, input_name, complete, State, opening, moding, naming, named, between, inside, finished, fresh, train_of, go, program_of, runs}
use Rattle.grammar.specs.Tree.{Primitive, int, Expr, variable, Stmt, assign, choose, choose_else, loop, input, output, Declared, Program}
use Rattle.grammar.proofs.Programs.{go_append}
use Rattle.grammar.proofs.Steps.{program_sound}
use Rattle.tokens.specs.Tokens.{word, sign, name, Placed}
use Rattle.tokens.specs.declared.sign.Sign.TheVariants.{Semicolon, Becomes, Close}
use Rattle.tokens.specs.declared.word.Word.TheVariants.{Begin, End, Int, Then, Fi, Do, Input}

abbrev Ending : State → Type 0
Ending s = (rest : List Placed) × (p : Program) × (runs (Some s) rest ≡ Some p)

-- some name
abbrev a_name : Placed
a_name = at 0 (name [])

module _ (ds : List Declared) where
  -- after a statement, each open part can be closed
  after_statement : (parts : List Part) (before : List Stmt) (s : Stmt) → Ending (inside ds parts before (complete s))
  after_statement [] before s = (at 0 (word End) ∷ [], record { declared = ds; body = train_of before s }, refl)
  after_statement (then_part q c outer ∷ parts) before s = let r = after_statement parts outer (choose q c (train_of before s)) in (at 0 (word Fi) ∷ r.0, r.1, r.2)
  after_statement (else_part q c t outer ∷ parts) before s = let r = after_statement parts outer (choose_else q c t (train_of before s)) in (at 0 (word Fi) ∷ r.0, r.1, r.2)
  after_statement (loop_part q c outer ∷ parts) before s = let r = after_statement parts outer (loop q c (train_of before s)) in (at 0 (word End) ∷ r.0, r.1, r.2)

  -- where a statement is wanted, `input` and a name are one
  at_statement : (parts : List Part) (before : List Stmt) → Ending (inside ds parts before wanted)
  at_statement parts before = let r = after_statement parts before (input 0 0 []) in (at 0 (word Input) ∷ a_name ∷ r.0, r.1, r.2)

  module _ (parts : List Part) (before : List Stmt) where
    after_operand : (u : Purpose) (l : Level) (ls : List Level) (e : Expr) → Ending (inside ds parts before (operand_read u l ls e))
    after_operand u l (m ∷ ls) e = let r = after_operand u m ls (closed l e) in (at 0 (sign Close) ∷ r.0, r.1, r.2)
    after_operand (for_assign p n) l [] e = let r = at_statement parts (before ++ assign p n (value_of l e) ∷ []) in (at 0 (sign Semicolon) ∷ r.0, r.1, r.2)
    after_operand (for_choose p) l [] e = let r = at_statement (then_part p (value_of l e) before ∷ parts) [] in (at 0 (word Then) ∷ r.0, r.1, r.2)
    after_operand (for_loop p) l [] e = let r = at_statement (loop_part p (value_of l e) before ∷ parts) [] in (at 0 (word Do) ∷ r.0, r.1, r.2)
    after_operand (for_output p) l [] e = let r = at_statement parts (before ++ output p (value_of l e) ∷ []) in (at 0 (sign Semicolon) ∷ r.0, r.1, r.2)

    at_operand : (u : Purpose) (l : Level) (ls : List Level) → Ending (inside ds parts before (operand u l ls))
    at_operand u l ls = let r = after_operand u l ls (variable 0 []) in (a_name ∷ r.0, r.1, r.2)

    at_a_point : (pt : Point) → Ending (inside ds parts before pt)
    at_a_point wanted = at_statement parts before
    at_a_point (target p n) = let r = at_operand (for_assign p n) fresh [] in (at 0 (sign Becomes) ∷ r.0, r.1, r.2)
    at_a_point (operand u l ls) = at_operand u l ls
    at_a_point (operand_read u l ls e) = after_operand u l ls e
    at_a_point (input_name p) = let r = after_statement parts before (input p 0 []) in (a_name ∷ r.0, r.1, r.2)
    at_a_point (complete s) = after_statement parts before s

  after_declaration : Ending (between ds)
  after_declaration = let r = after_statement [] [] (input 0 0 []) in (at 0 (word Input) ∷ a_name ∷ r.0, r.1, r.2)

after_name : (ds : List Declared) (refs : ℕ) (m : Primitive) → Ending (named ds refs m)
after_name ds refs m = let r = after_declaration ds in (at 0 (sign Semicolon) ∷ r.0, r.1, r.2)

at_a_name : (ds : List Declared) (refs : ℕ) (m : Primitive) → Ending (naming ds refs m)
at_a_name ds refs m = let r = after_name (ds ++ declare 0 [] refs m ∷ []) refs m in (a_name ∷ r.0, r.1, r.2)

at_a_mode : (ds : List Declared) (refs : ℕ) → Ending (moding ds refs)
at_a_mode ds refs = let r = at_a_name ds refs int in (at 0 (word Int) ∷ r.0, r.1, r.2)

ending : (s : State) → Ending s
ending opening = let r = at_a_mode [] 0 in (at 0 (word Begin) ∷ r.0, r.1, r.2)
ending (moding ds refs) = at_a_mode ds refs
ending (naming ds refs m) = at_a_name ds refs m
ending (named ds refs m) = after_name ds refs m
ending (between ds) = after_declaration ds
ending (inside ds parts before pt) = at_a_point ds parts before pt
ending (finished ds body) = ([], record { declared = ds; body = body }, refl)

pub can_end : (ts : List Placed) (s : State) → go (Some opening) ts ≡ Some s → Viable ts
can_end ts s e =
    let r = ending s in
    (r.0, r.1, program_sound (ts ++ r.0) r.1 (ap program_of (go_append (Some opening) ts r.0 ∙ ap (λ o. go o r.0) e) ∙ r.2))
