use Rattle.std.proofs.Common.{refl, rules}
use Rattle.tokens.specs.Tokens.{token_of}
use Rattle.parser.proofs.Looks.{first_left}
use Rattle.parser.proofs.parser.Parser.take_sign.Goals as goal

pub returns : goal.returns
returns g c = (token_of c.in-Some.token.now, first_left c.args.self.now.rest.now _ c.in-Some.ensures.value, search rules, refl, (refl, refl))
