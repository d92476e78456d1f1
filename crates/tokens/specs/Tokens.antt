-- What a token says, apart from where its letters lie in memory.
use Rattle.std.specs.Prelude.{ℕ, List, map, vec_items, Vec}
use Rattle.std.specs.declared.alloc.Global.{Global}
use Rattle.tokens.specs.declared.sign.Sign.{Sign}
use Rattle.tokens.specs.declared.token.Token.{Token}
use Rattle.tokens.specs.declared.token.TokenKind.{TokenKind}
use Rattle.tokens.specs.declared.token.TokenKind.TheVariants as code
use Rattle.tokens.specs.declared.word.Word.{Word}

pub data Kind : Type 0 where
  word : Word → Kind
  sign : Sign → Kind
  name : List ℕ → Kind
  constant : ℕ → Kind

-- a token with the offset of its first byte
pub record Placed : Type 0 where
  pub place : ℕ
  pub kind : Kind

abbrev pub kind_of : TokenKind → Kind
kind_of (code.Word w) = word w
kind_of (code.Sign s) = sign s
kind_of (code.Name n) = name n.now
kind_of (code.Constant n) = constant n

abbrev pub token_of : Token → Placed
token_of t = record { place = t.place; kind = kind_of t.kind }

-- the tokens that a vector holds
abbrev pub placed : Vec Token Global → List Placed
placed v = map token_of (vec_items v)
