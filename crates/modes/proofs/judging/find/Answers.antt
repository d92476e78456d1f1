-- What is found is the first name with these letters.
use Rattle.std.proofs.Common.{refl, ap, rules, tests}
use Rattle.modes.specs.Judging.{named}
use Rattle.modes.proofs.Letters.{has_letters, mode_found, mode_missing}
use Rattle.std.proofs.lemmas.Iterator.{YieldsList-from_slice}
use Rattle.std.proofs.lemmas.Iterator.Search.{find_from_yields_List}
use Rattle.modes.proofs.judging.find.Goals as goal

pub returns-in_default : goal.returns-in_default
returns-in_default c =
    let found = find_from_yields_List (has_letters c.args.name.now) _ _ c.find.result c.find.ensures.ran (YieldsList-from_slice c.args.declared.now cc) (λ x b q k. search (rules, tests)) in
    ap (named c.args.place) (mode_missing c.args.declared.now c.args.name.now c.find.result found c.in_default.is)

pub returns : goal.returns
returns c =
    let found = find_from_yields_List (has_letters c.args.name.now) _ _ c.find.result c.find.ensures.ran (YieldsList-from_slice c.args.declared.now cc) (λ x b q k. search (rules, tests)) in
    (ap (named c.args.place) (mode_found c.args.declared.now c.args.name.now c.find.result found c.in-Some.one c.in-Some.is), refl)
