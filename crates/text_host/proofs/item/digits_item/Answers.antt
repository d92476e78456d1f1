use Rattle.text_host.proofs.Digits.{all_digits, parsed, some_digit, too_large}
use Rattle.text_host.proofs.item.digits_item.Goals as goal

pub returns-in_default-2 : goal.returns-in_default-2
returns-in_default-2 c =
    let p = rw c.in_default.is at (parsed c.args.digits.now c.parse.result (all_digits c.args.digits.now c.requires) (some_digit c.args.digits.now c.requires) c.parse.ensures.value.0) in
    too_large c.args.digits.now c.requires p
