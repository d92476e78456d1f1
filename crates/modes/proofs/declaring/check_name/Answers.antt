-- The names before are searched, and counted.
use Rattle.std.proofs.Common.{rules, tests}
use Rattle.modes.proofs.Letters.{has_letters, named_before, too_many, with_room}
use Rattle.std.proofs.lemmas.Iterator.{YieldsList-from_slice}
use Rattle.std.proofs.lemmas.Iterator.Search.{any_from_yields_List}
use Rattle.modes.proofs.declaring.check_name.Goals as goal

pub returns-then-any : goal.returns-then-any
returns-then-any c =
    let found = any_from_yields_List (has_letters c.args.name.name.now) _ _ c.any.result c.any.ensures.ran (YieldsList-from_slice c.args.before.now cc) (λ x b q k. search (rules, tests)) in
    named_before c.args.before.now c.args.name c.any.result found c.if-any.true

pub returns-then-before-ge-MOST_NAMES : goal.returns-then-before-ge-MOST_NAMES
returns-then-before-ge-MOST_NAMES c =
    let found = any_from_yields_List (has_letters c.args.name.name.now) _ _ c.any.result c.any.ensures.ran (YieldsList-from_slice c.args.before.now cc) (λ x b q k. search (rules, tests)) in
    too_many c.args.before.now c.args.name c.any.result found c.if-any.false c.if-before-ge-MOST_NAMES.true

pub returns : goal.returns
returns c =
    let found = any_from_yields_List (has_letters c.args.name.name.now) _ _ c.any.result c.any.ensures.ran (YieldsList-from_slice c.args.before.now cc) (λ x b q k. search (rules, tests)) in
    with_room c.args.before.now c.args.name c.any.result found c.if-any.false c.if-before-ge-MOST_NAMES.false
