-- Words put behind others, and where an id stands in a row's list. Cited by the proof of `note_row`.
-- Assumes nothing.
use mathlib.Core.Path.{◌≡◌, sym, ap, ◌∙◌}
use mathlib.Core.Bool.{true}
use mathlib.Core.List.{List, [], ◌∷◌, ◌++◌}
use Prim.Native.Nat.{ℕ, ◌+◌, ◌≤◌, ◌<◌}
use native.Mathlib.Numerals.{add-one}
use native.Mathlib.Omega.{arith}
use lib.ListN.{length, take, drop, set, length-append, length-take, length-drop}
use lib.Seq.{sets, sets-eq, take_at, take-suc-set, length-take-le}
use Rattle.words.specs.Words.{row_length, list_at}
use Rattle.binary_search.specs.declared.Seat.TheVariants.{At}
use Rattle.binary_search.specs.Seats.{place_of, seat_of}
use Rattle.binary_search.proofs.Seats.{seat_there, seat_stands}
use Rattle.vacancies.specs.Steps.{RowLies, holds_id}

-- ---- behind others

pub take_behind : (l : List ℕ) (n x : ℕ) → n < length l → take (n + 1) (set l n x) ≡ take n l ++ (x ∷ [])
take_behind l n x h = rw (add-one n) (take-suc-set l n x h)

pub take_sets : (l k : List ℕ) (n : ℕ) (vs : List ℕ) → k ≡ sets l n vs → n + length vs ≤ length l → take (n + length vs) k ≡ take n l ++ vs
take_sets l k n vs e h =
    let a = length-append (take n l) vs in
    let t = length-take-le n l (omega arith) in
    ap (take (n + length vs)) (e ∙ sets-eq vs l n h) ∙ take_at (take n l ++ vs) (drop (n + length vs) l) (n + length vs) (omega arith)

-- ---- where the id stands

module _ (w : List ℕ) (r id : ℕ) (lies : RowLies w r) where
  length_list : length (list_at w r) ≡ row_length w r
  unfolding list_at
  length_list = let h = lies.list in simp (length-take, length-drop) (omega arith)

  -- an id at its seat is in the list, at its place, which is before the row's count
  pub held : (place : ℕ) → seat_of (list_at w r) id ≡ At place
      → (holds_id w r id ≡ true) × (place ≡ place_of id (list_at w r)) × (place < row_length w r)
  held place e =
      let t = seat_there (list_at w r) id place e in
      let h = (seat_stands (list_at w r) id place lies.up e).0 in
      let l = length_list in
      (t.0, sym t.1, omega arith)
