-- The law of a host: each number among its items is one that can be read. It stands here since the `impl` cites its proof.
use Rattle.std.specs.Prelude.{◌≡◌, ℕ, ◌≤◌, Bool, true, false, cond, ◌&&◌, List, [], ◌∷◌, map, codes, Some, None, Ok, Err, Option, nat_le, refl}
use Rattle.std.proofs.Common.{arith}
use Rattle.std.proofs.lemmas.Bool.Decides.{nat_tests}
use Rattle.std.specs.Str.{bytes_eq}
use Rattle.std.specs.Str.Parse.{digits_value}
use Rattle.hosts.specs.Meaning.{Item, Readable, most_read}
use Rattle.hosts.specs.declared.exchange.Value.TheVariants.{Truth, Number}
use Rattle.text_host.specs.Held.{left}
use Rattle.text_host.specs.Items.{ahead, is_digits, item_of, items, number_of, runs}
use Rattle.text_host.specs.declared.TextHost.{TextHost}

module _ (is : List Item) (others : Readable is) where
  number_readable : (run : List ℕ) (digits small : Bool) → nat_le (digits_value 10 run) most_read ≡ small → Readable (cond (digits && small) (Ok (Number (digits_value 10 run))) (Err (record {})) ∷ is)
  number_readable run true true e = let within : digits_value 10 run ≤ most_read = grind (arith, nat_tests) in (within, others)
  number_readable run true false e = others
  number_readable run false small e = others

  item_readable : (run : List ℕ) (yes also : Bool) → Readable (cond yes (Ok (Truth true)) (cond also (Ok (Truth false)) (number_of run)) ∷ is)
  item_readable run true also = others
  item_readable run false true = others
  item_readable run false false = number_readable run (is_digits run) (nat_le (digits_value 10 run) most_read) refl

  first_readable : (first : Option Item) → ((n : ℕ) → first ≡ Some (Ok (Number n)) → n ≤ most_read) → Readable (ahead first is)
  first_readable None small = tt
  first_readable (Some (Ok (Number n))) small = (small n refl, others)
  first_readable (Some (Ok (Truth b))) small = others
  first_readable (Some (Err e)) small = others

all_readable : (rs : List (List ℕ)) → Readable (map item_of rs)
all_readable [] = tt
all_readable (r ∷ rs) = item_readable (map item_of rs) (all_readable rs) r (bytes_eq r (codes "true")) (bytes_eq r (codes "false"))

pub readable : (h : TextHost) → Readable (left h)
readable h = first_readable (items h.rest.now) (all_readable (runs h.rest.now)) h.first h.readable
