-- The law of the grammar.
use Rattle.grammar.specs.Law.{Grammatical}
use Rattle.grammar.proofs.Endings.{can_end}
use Rattle.grammar.proofs.Programs.{program_whole, one_tree, no_program}
use Rattle.grammar.proofs.Steps.{program_sound}

pub grammatical : Grammatical
grammatical = record {
  sound = program_sound;
  whole = λ ts p d. program_whole d;
  unique = λ ts p q d f. one_tree d f;
  viable = can_end;
  stuck = no_program;
}
