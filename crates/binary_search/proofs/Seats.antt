-- Laws of a seat: what its two cases tell, and how each is come by.
-- Assumes nothing.
use mathlib.Core.Path.{◌≡◌, refl, sym, ap, ◌∙◌}
use mathlib.Core.Logic.{⊎_elim}
use mathlib.Core.Bool.{Bool, true, false, false≢true}
use mathlib.Core.List.{List}
use Prim.Native.Nat.{ℕ, ◌≤◌, ◌<◌}
use lib.ListN.{length, get_or}
use borrow.Author.Tests.{eqb-true, ne_eqb}
use Rattle.laws.specs.Lists.{member, Ascending}
use Rattle.laws.proofs.Ascending.{member_get_d}
use Rattle.laws.proofs.Order.{le_or_lt}
use Rattle.binary_search.specs.declared.Seat.TheVariants.{At, Before}
use Rattle.binary_search.specs.Seats.{place_of, seat_if, seat_of, seat_place, is_at}
use Rattle.binary_search.proofs.Search.{place_holds, place_past, place_met}

-- ---- of any seat

-- the place is the same either way
place_either : (b : Bool) (i : ℕ) → seat_place (seat_if b i) ≡ i
unfolding seat_place
place_either true i = refl
place_either false i = refl

at_either : (b : Bool) (i : ℕ) → is_at (seat_if b i) ≡ b
unfolding is_at
at_either true i = refl
at_either false i = refl

-- and its case tells whether it is there
at_there : (b : Bool) (i j : ℕ) → seat_if b i ≡ At j → (b ≡ true) × (i ≡ j)
unfolding seat_place is_at
at_there b i j e = (sym (at_either b i) ∙ ap is_at e, sym (place_either b i) ∙ ap seat_place e)

before_missing : (b : Bool) (i j : ℕ) → seat_if b i ≡ Before j → (b ≡ false) × (i ≡ j)
unfolding seat_place is_at
before_missing b i j e = (sym (at_either b i) ∙ ap is_at e, sym (place_either b i) ∙ ap seat_place e)

-- ---- of a seat in a list

pub seat_place_lem : (l : List ℕ) (x : ℕ) → seat_place (seat_of l x) ≡ place_of x l
unfolding seat_of
seat_place_lem l x = place_either (member x l) (place_of x l)

pub seat_there : (l : List ℕ) (x i : ℕ) → seat_of l x ≡ At i → (member x l ≡ true) × (place_of x l ≡ i)
unfolding seat_of
seat_there l x i = at_there (member x l) (place_of x l) i

pub seat_missing : (l : List ℕ) (x i : ℕ) → seat_of l x ≡ Before i → (member x l ≡ false) × (place_of x l ≡ i)
unfolding seat_of
seat_missing l x i = before_missing (member x l) (place_of x l) i

-- ---- and in a list that ascends

module _ (l : List ℕ) (x i : ℕ) (up : Ascending l) where
  -- where x stands is its seat
  pub seat_met : i < length l → get_or l i 0 ≡ x → At i ≡ seat_of l x
  unfolding seat_of
  seat_met h e = rw (member_get_d x l i h e) (ap At (place_met l x i up h e))

  -- and where what has its place is another, or nothing, x is missing
  pub seat_not_met : i ≡ place_of x l → (i < length l → get_or l i 0 ≡ x → ⊥) → Before i ≡ seat_of l x
  unfolding seat_of
  seat_not_met p n =
      rw missing (ap Before p)
    where
      missing : member x l ≡ false
      missing =
          ⊎_elim
          (λ (h : length l ≤ i). place_past l x i up p h)
          (λ (h : i < length l). sym (place_holds l x i up p h) ∙ ne_eqb (get_or l i 0) x (n h))
          (le_or_lt (length l) i)

  -- x stands at its seat
  pub seat_stands : seat_of l x ≡ At i → (i < length l) × (get_or l i 0 ≡ x)
  seat_stands e =
      let t = seat_there l x i e in
      ⊎_elim
      (λ (h : length l ≤ i). absurd (false≢true (sym (place_past l x i up (sym t.1) h) ∙ t.0)))
      (λ (h : i < length l). (h, eqb-true (get_or l i 0) x (place_holds l x i up (sym t.1) h ∙ t.0)))
      (le_or_lt (length l) i)
