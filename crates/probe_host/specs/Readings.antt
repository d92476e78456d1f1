-- The law of a host's items, for the items that a probe host reads.
use Rattle.std.specs.Prelude.{◌≡◌, ℕ, List, [], ◌∷◌, map, Bool, true, false, cond, Ok, Err, nat_le, refl}
use Rattle.std.proofs.lemmas.Bool.{leb-true}
use Rattle.hosts.specs.Meaning.{Item, Readable, most_read}
use Rattle.hosts.specs.declared.exchange.Value.TheVariants.{Number}
use Rattle.probe_host.specs.Codes.{item_of}

one_more : (n : ℕ) (small : Bool) (items : List Item) → nat_le n most_read ≡ small → Readable items → Readable (cond small (Ok (Number n)) (Err (record {})) ∷ items)
one_more n true items is readable = (leb-true n most_read is, readable)
one_more n false items is readable = readable

-- no number among them is above the greatest that can be read
pub readable_items : (ns : List ℕ) → Readable (map item_of ns)
readable_items [] = tt
readable_items (n ∷ ns) = one_more n (nat_le n most_read) (map item_of ns) refl (readable_items ns)
