-- `id_seat` meets its contract: what is searched is the row's list.
use mathlib.Core.Path.{◌≡◌, ap, ap₂, ◌∙◌}
use mathlib.Core.List.{List}
use Prim.Native.Nat.{ℕ, ◌+◌, ◌-◌}
use native.Mathlib.Omega.{arith}
use lib.ListN.{take, drop}
use Rattle.words.specs.Words.{row_place, row_length, postings_start, list_start, list_at}
use Rattle.binary_search.specs.Seats.{seat_of}
use Rattle.lists.proofs.id_seat.Goals as goal

-- a row's list, by the numbers that the code reads
part : (w : List ℕ) (r s p l : ℕ) → s ≡ postings_start w → p ≡ row_place w r → l ≡ row_length w r → take (s + p + l - (s + p)) (drop (s + p) w) ≡ list_at w r
unfolding list_at
part w r s p l es ep el =
    let n : s + p + l - (s + p) ≡ row_length w r = omega arith in
    let k : s + p ≡ list_start w r = omega arith in
    ap₂ (λ (m i : ℕ). take m (drop i w)) n k

pub seat_in-requires : goal.seat_in-requires
seat_in-requires c =
    let a = c.args in
    let e = part a.words.now a.r _ _ _ c.postings_start.ensures.0 c.row_place.ensures.0 c.row_length.ensures.0 in
    rw e c.requires.2

pub returns : goal.returns
returns c =
    let a = c.args in
    let e = part a.words.now a.r _ _ _ c.postings_start.ensures.0 c.row_place.ensures.0 c.row_length.ensures.0 in
    c.seat_in.ensures ∙ ap (λ (l : List ℕ). seat_of l a.id) e
