use Rattle.std.proofs.Common.{◌≡◌, ◌+◌, ◌-◌, length, ◌∙◌, arith}
use Rattle.text_host.proofs.Memory.{behind_after, text_after}
use Rattle.text_host.proofs.line.write_text.Goals as goal

pub returns-clause-text : goal.returns-clause-text
returns-clause-text c =
    let wide : c.args.at + length c.args.text.now - c.args.at ≡ length c.args.text.now = omega arith in
    rw (c.copy_from_slice.ensures.after ∙ c.as_bytes.ensures.value, wide) (text_after c.args.output.now c.args.text.now c.args.at 10 c.requires.room)

pub returns-clause-behind : goal.returns-clause-behind
returns-clause-behind c =
    let wide : c.args.at + length c.args.text.now - c.args.at ≡ length c.args.text.now = omega arith in
    rw (c.copy_from_slice.ensures.after ∙ c.as_bytes.ensures.value, wide) (behind_after c.args.output.now c.args.text.now c.args.at 10 c.requires.room)
