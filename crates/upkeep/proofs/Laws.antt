-- Laws of live ids: an id is live exactly if it is at its seat among the names' ids.
-- Assumes nothing.
use mathlib.Core.Path.{◌≡◌, sym, ap, ◌∙◌}
use mathlib.Core.Bool.{true, false}
use mathlib.Core.List.{List}
use Prim.Native.Nat.{ℕ}
use Rattle.laws.specs.Lists.{member}
use Rattle.laws.proofs.Images.{map_tabulate}
use Rattle.binary_search.specs.declared.Seat.{Seat}
use Rattle.binary_search.specs.declared.Seat.TheVariants.{At, Before}
use Rattle.binary_search.specs.Seats.{seat_of}
use Rattle.binary_search.proofs.Seats.{seat_there, seat_missing}
use Rattle.words.specs.Words.{name_count}
use Rattle.index.specs.Good.{ids_in}
use Rattle.index_writer.specs.Built.{Entry}
use Rattle.index_writer.specs.Contents.{entry_in, entries_in}
use Rattle.changes.specs.Names.{ids_of}
use Rattle.upkeep.specs.Upkeep.{is_live}

-- the ids of the names in words, in order
pub ids_in_lem : (w : List ℕ) → ids_of (entries_in w) ≡ ids_in w
unfolding entries_in ids_in
ids_in_lem w = map_tabulate (λ (e : Entry). e.id) (entry_in w) (name_count w)

module _ (w : List ℕ) (id i : ℕ) where
  pub seat_live : seat_of (ids_in w) id ≡ At i → is_live w id ≡ true
  seat_live e = ap (member id) (ids_in_lem w) ∙ (seat_there (ids_in w) id i e).0

  pub seat_unused : seat_of (ids_in w) id ≡ Before i → is_live w id ≡ false
  seat_unused e = ap (member id) (ids_in_lem w) ∙ (seat_missing (ids_in w) id i e).0

-- what a seat that was sought for an id under another number tells
pub sought : (ids : List ℕ) (n id : ℕ) (s t : Seat) → n ≡ id → s ≡ seat_of ids n → s ≡ t → seat_of ids id ≡ t
sought ids n id s t e f g = ap (seat_of ids) (sym e) ∙ sym f ∙ g
