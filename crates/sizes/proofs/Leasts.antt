-- The table of least counts that a search makes is one that all sizes can go by, and by it they are the method's: the touches, and the
-- names that are listed. Cited by `search`.
-- Assumes nothing.
use mathlib.Core.Path.{◌≡◌, refl, sym, ap, ◌∙◌}
use mathlib.Core.Logic.{⊎_elim}
use mathlib.Core.Bool.{Bool, true, false, cond, ◌&&◌, false≢true}
use mathlib.Core.List.{List}
use Prim.Native.Nat.{ℕ, ◌≤◌, ◌<◌}
use native.Mathlib.Omega.{arith}
use lib.ListN.{length, get_or}
use lib.Dec.{eqb, leb}
use borrow.Author.Tests.{le-leb, leb-true, leb-false, eq-eqb}
use Rattle.laws.specs.Below.{sum_below}
use Rattle.laws.proofs.Lists.{length_tabulate, get_d_tabulate}
use Rattle.laws.proofs.Below.{and_left, sum_below_ext, count_below_more}
use Rattle.laws.proofs.Order.{eq_or_ne}
use Rattle.likeness.specs.Sizes.{is_searched}
use Rattle.likeness.specs.Least.{least_count}
use Rattle.likeness.proofs.Least.{least_pos, least_within}
use Rattle.likeness.proofs.Sizes.{searched_good}
use Rattle.words.specs.Words.{name_count, name_id, name_size}
use Rattle.index.specs.Good.{Good}
use Rattle.index.proofs.Laws.{good_name_within}
use Rattle.candidates.specs.Method.{remains, later_count}
use Rattle.sizes.specs.Method.{names_of, lists_for, touches_at, sizes_end, touches_of_size, touches_of, listed}
use Rattle.sizes.specs.Tables.{least_at, leasts_of, Reachable, touches_for, touches_by, listed_by}
use Rattle.sizes.proofs.Work.{touches_absent, nobody_zero}

module _ (w : List ℕ) (good : Good w) (m p q : ℕ) (f : List ℕ) where
  abbrev x : ℕ
  x = length f

  abbrev leasts : List ℕ
  leasts = leasts_of w m p q x

  entry : (y : ℕ) → y < sizes_end → get_or leasts y 0 ≡ least_at w m p q x y
  entry y h = get_d_tabulate (least_at w m p q x) sizes_end y 0 h

  -- a size that is searched has a least count that is not 0
  searched_least : (y : ℕ) → is_searched m p q x y ≡ true → leb 1 (least_count m p q x y) ≡ true
  searched_least y s = let g = searched_good m p q x y s in le-leb 1 (least_count m p q x y) (least_pos m p q x y g.0 g.1)

  -- a least count is at most the features: no name has size 0
  least_most : 1 ≤ x → (y : ℕ) → least_at w m p q x y ≤ x
  unfolding least_at
  least_most some y = by_tests (leb 1 (names_of w y)) refl (is_searched m p q x y) refl
    where
      by_tests : (b : Bool) → leb 1 (names_of w y) ≡ b → (s : Bool) → is_searched m p q x y ≡ s → cond (b && s) (least_count m p q x y) 0 ≤ x
      by_tests true e true h =
          let n = leb-true 1 (names_of w y) e in
          let pos : 0 < y =
          ⊎_elim
          (λ (z : y ≡ 0). let k = ap (names_of w) z ∙ nobody_zero w good in absurd (omega arith))
          (λ (z : y ≡ 0 → ⊥). omega arith)
          (eq_or_ne y 0)
          in
          let k = least_within m p q x y some pos h in
          omega arith
      by_tests true e false h = omega arith
      by_tests false e s h = omega arith

  pub leasts_reachable : 1 ≤ x → Reachable f leasts
  leasts_reachable some =
      record {
        long = length_tabulate (least_at w m p q x) sizes_end;
        most = λ y h. rw (entry y h) (least_most some y);
      }

  -- the touches of a size
  touches_entry : (y : ℕ) → y < sizes_end → touches_by w leasts f y ≡ touches_of_size w m p q f y
  unfolding touches_by touches_for touches_of_size least_at
  touches_entry y h = rw (entry y h) (by_tests (leb 1 (names_of w y)) refl (is_searched m p q x y) refl)
    where
      by_tests : (b : Bool) → leb 1 (names_of w y) ≡ b → (s : Bool) → is_searched m p q x y ≡ s
          → let t = cond (b && s) (least_count m p q x y) 0 in
          cond (leb 1 t) (touches_at w y (lists_for w y f) t) 0 ≡ cond s (touches_at w y (lists_for w y f) (least_count m p q x y)) 0
      by_tests true e true k = rw (searched_least y k)
      by_tests true e false k = refl
      by_tests false e true k =
          let n = leb-false 1 (names_of w y) e in
          sym (touches_absent w good y f (least_count m p q x y) (omega arith))
      by_tests false e false k = refl

  pub touches_leasts : sum_below sizes_end (touches_by w leasts f) ≡ touches_of w m p q f
  unfolding touches_of
  touches_leasts = sum_below_ext sizes_end (touches_by w leasts f) (touches_of_size w m p q f) touches_entry

  -- a name's size is one that a name has
  somebody : (i : ℕ) → i < name_count w → leb 1 (names_of w (name_size w i)) ≡ true
  somebody i h =
      let y = name_size w i in
      let c = count_below_more (name_count w) (λ (j : ℕ). false) (λ (j : ℕ). eqb (name_size w j) y) (λ j k e. absurd (false≢true e)) i h refl (eq-eqb y y refl) in
      le-leb 1 (names_of w y) (omega arith)

  pub listed_leasts : (i : ℕ) → i < name_count w → listed_by w leasts f i ≡ listed w m p q f i
  unfolding listed_by listed least_at
  listed_leasts i h =
      let g = good_name_within w good i h in
      let k : name_size w i < sizes_end = (let z = g.2 in omega arith) in
      rw (entry (name_size w i) k, somebody i h) (by_test (is_searched m p q x (name_size w i)) refl)
    where
      by_test : (s : Bool) → is_searched m p q x (name_size w i) ≡ s
          → let ls = lists_for w (name_size w i) f in
          let t = cond s (least_count m p q x (name_size w i)) 0 in
          let l = least_count m p q x (name_size w i) in
          leb 1 t && remains ls t (later_count ls t) (name_id w i) ≡ s && remains ls l (later_count ls l) (name_id w i)
      by_test true e = rw (searched_least (name_size w i) e)
      by_test false e = refl

  -- the least count of a listed name's size stands in the table
  pub least_listed : (i : ℕ) → i < name_count w → listed w m p q f i ≡ true → get_or leasts (name_size w i) 0 ≡ least_count m p q x (name_size w i)
  unfolding listed least_at
  least_listed i h e =
      let g = good_name_within w good i h in
      let k : name_size w i < sizes_end = (let z = g.2 in omega arith) in
      entry (name_size w i) k ∙ (rw (somebody i h, and_left (is_searched m p q x (name_size w i)) _ e))
