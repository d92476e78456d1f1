use Rattle.std.proofs.Common.{is_ok, sym, ap, ◌∙◌}
use Rattle.parser.specs.declared.train.Part.TheVariants.{Else}
use Rattle.stack.proofs.Uses.{popped_room, push_done}
use Rattle.parser.proofs.parts.OpenParts.turn.Goals as goal

pub unwrap-requires : goal.unwrap-requires
unwrap-requires c =
    let space = popped_room c.args.self.now.stack c.pop.result c.pop.new.self c.pop.ensures.popped (sym c.is_some.ensures ∙ c.if-is_some.true) c.pop.ensures.kept in
    ap is_ok (push_done c.pop.new.self Else c.push.result c.push.new.self space c.push.ensures.pushed).0
