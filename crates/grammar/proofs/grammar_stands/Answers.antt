use Rattle.grammar.proofs.Grammatical.{grammatical}
use Rattle.grammar.proofs.grammar_stands.Goals as goal

pub returns : goal.returns
returns c = grammatical
