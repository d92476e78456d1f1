-- Which class each byte value has.
use Rattle.std.specs.Prelude.{ℕ, Bool, cond, ◌&&◌, ◌||◌, ◌==◌, nat_le}
use Rattle.tokens.specs.declared.class.Class.{Class}
use Rattle.tokens.specs.declared.class.Class.TheVariants.{Blank, Capital, Small, Digit, Sign, Colon, Other}
use Rattle.tokens.specs.declared.sign.Sign.TheVariants.{Semicolon, Comma, Plus, Star, Equals, Differs, Open, Close}

-- b lies between two byte values, both included
abbrev pub within : ℕ → ℕ → ℕ → Bool
within low high b = nat_le low b && nat_le b high

-- the sign bytes: `;` `,` `+` `*` `=` `#` `(` `)` are signs by themselves, `:` is not; any other byte is in no class above
abbrev pub sign_byte : ℕ → Class
sign_byte b =
    cond (b == 0x3b) (Sign Semicolon)
    (cond (b == 0x2c) (Sign Comma)
    (cond (b == 0x2b) (Sign Plus)
    (cond (b == 0x2a) (Sign Star)
    (cond (b == 0x3d) (Sign Equals)
    (cond (b == 0x23) (Sign Differs)
    (cond (b == 0x28) (Sign Open)
    (cond (b == 0x29) (Sign Close)
    (cond (b == 0x3a) Colon Other))))))))

-- blanks are the space and the line feed; letters and digits are those of ASCII
abbrev pub class : ℕ → Class
class b =
    cond (b == 0x20 || b == 0x0a) Blank
    (cond (within 0x41 0x5a b) Capital
    (cond (within 0x61 0x7a b) Small
    (cond (within 0x30 0x39 b) Digit (sign_byte b))))
