-- The tokens told so far, before what the rest reads as.
use Rattle.std.proofs.Common.{◌≡◌, ℕ, ◌<◌, List, [], ◌∷◌, ◌++◌, map, length, Ok, vec_items, vec_len, Vec, sym, refl, ap, ◌∙◌}
use Rattle.std.proofs.lemmas.List.{length_push, length-map, map_push}
use Rattle.std.proofs.lemmas.Bool.{cond-true, lt-ltb}
use Rattle.std.specs.declared.alloc.Global.{Global}
use Rattle.tokens.specs.Progress.{Takes, resume}
use Rattle.tokens.specs.Reading.{token, Reading, read, refused, before, most_tokens}
use Rattle.tokens.specs.Tokens.{Kind, Placed, placed, token_of}
use Rattle.tokens.specs.declared.fault.Fault.{Fault}
use Rattle.tokens.specs.declared.token.Token.{Token}

pub resume_refused : (ts : List Placed) (f : Fault) (p : ℕ) → resume ts (refused f p) ≡ refused f p
resume_refused [] f p = refl
resume_refused (t ∷ ts) f p = ap (before t) (resume_refused ts f p)

pub resume_read : (ts : List Placed) → resume ts (read []) ≡ read ts
resume_read [] = refl
resume_read (t ∷ ts) = ap (before t) (resume_read ts)

pub resume_push : (ts : List Placed) (t : Placed) (rest : Reading) → resume (ts ++ t ∷ []) rest ≡ resume ts (before t rest)
resume_push [] t rest = refl
resume_push (u ∷ ts) t rest = ap (before u) (resume_push ts t rest)

-- a token that has its place among the 512
pub added : (ts us : List Placed) (k : Kind) (p : ℕ) → length ts < most_tokens → us ≡ ts ++ record { place = p; kind = k } ∷ [] → Takes ts (token k) p (Ok tt) us
added ts us k p room e = (
  λ rest. ap (resume ts) (cond-true _ _ _ (lt-ltb (length ts) most_tokens room)) ∙ sym (resume_push ts _ rest) ∙ ap (λ l. resume l rest) (sym e),
  ap length e ∙ length_push ts _,
)

-- the same of the vector that holds the tokens
pub push_placed : (v w : Vec Token Global) (t : Token) → vec_items w ≡ vec_items v ++ t ∷ [] → placed w ≡ placed v ++ token_of t ∷ []
push_placed v w t e = ap (map token_of) e ∙ map_push token_of (vec_items v) t

pub length_placed : (v : Vec Token Global) → length (placed v) ≡ vec_len v
length_placed v = length-map (vec_items v) token_of ∙ sym v.ok.0
