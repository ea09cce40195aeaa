-- What the binary search needs: what is below x comes first, and x is in an ascending list if it stands at its place.
-- Assumes nothing.
use mathlib.Core.Path.{◌≡◌, refl, sym, ap, ◌∙◌}
use mathlib.Core.Logic.{⊎_elim}
use mathlib.Core.Bool.{Bool, true, false, cond}
use mathlib.Core.List.{List}
use Prim.Native.Nat.{ℕ, ◌+◌, ◌-◌, ◌*◌, ◌^◌, ◌≤◌, ◌<◌}
use native.Mathlib.Nat.{eq-or-lt_of_le, zero-add, one-mul}
use native.Mathlib.Omega.{arith}
use lib.ListN.{length, get_or}
use lib.Dec.{ltb, eqb}
use borrow.Author.Tests.{lt-ltb, le-ltb, ltb-true, ltb-false, eqb-true, eqb-false}
use Rattle.laws.specs.Lists.{member, Ascending, count_of}
use Rattle.laws.proofs.Ascending.{ascending_at, member_get_d, member_nowhere}
use Rattle.laws.proofs.BinarySearch.{Stretch, digit_within, Falling, falling_count, count_index, count_below_place}
use Rattle.laws.specs.Below.{count_below}
use Rattle.laws.proofs.Below.{sum_below_ext}
use Rattle.laws.proofs.Order.{le_or_lt}
use Rattle.binary_search.specs.Column.{column_at, Rising}

-- whether the i-th of the list is below x
abbrev pub below_at : List ℕ → ℕ → ℕ → Bool
below_at l x i = ltb (get_or l i 0) x

pub below_falls : (l : List ℕ) (x : ℕ) → Ascending l → Falling (below_at l x) (length l)
below_falls l x a i j h m e =
    let u = ltb-true (get_or l j 0) x e in
    ⊎_elim
    (λ (p : i ≡ j). ap (below_at l x) p ∙ e)
    (λ (p : i < j). let v = ascending_at l a i j p m in lt-ltb (get_or l i 0) x (omega arith))
    (eq-or-lt_of_le h)

-- how many ids are below x: those before the place are, those from it on are not
pub place_split : (l : List ℕ) (x r : ℕ) → Ascending l → r ≡ count_of (λ (y : ℕ). ltb y x) l
    → (r ≤ length l) × ((i : ℕ) → i < r → get_or l i 0 < x) × ((i : ℕ) → r ≤ i → i < length l → x ≤ get_or l i 0)
place_split l x r a e =
    let s = falling_count (below_at l x) (length l) (below_falls l x a) in
    let q = count_index (λ (y : ℕ). ltb y x) l in
    let w = s.within in (
      omega arith,
      λ i h. ltb-true (get_or l i 0) x (s.below i (omega arith)),
      λ i h m. ltb-false (get_or l i 0) x (s.above i (omega arith) m),
    )

-- x is in the list where it stands at its place
pub place_holds : (l : List ℕ) (x r : ℕ) → Ascending l → r ≡ count_of (λ (y : ℕ). ltb y x) l → r < length l
    → eqb (get_or l r 0) x ≡ member x l
place_holds l x r a e h = by_test (eqb (get_or l r 0) x) refl
  where
    apart : (get_or l r 0 ≡ x → ⊥) → (i : ℕ) → i < length l → get_or l i 0 ≡ x → ⊥
    apart n i m q =
        let s = place_split l x r a e in
        ⊎_elim
        (λ (p : r ≤ i).
        ⊎_elim
        (λ (o : r ≡ i). n (ap (λ (j : ℕ). get_or l j 0) o ∙ q))
        (λ (o : r < i). let u = ascending_at l a r i o m in let v = s.2 r (omega arith) h in omega arith)
        (eq-or-lt_of_le p))
        (λ (p : i < r). let u = s.1 i p in omega arith)
        (le_or_lt r i)

    by_test : (b : Bool) → eqb (get_or l r 0) x ≡ b → b ≡ member x l
    by_test true q = sym (member_get_d x l r h (eqb-true (get_or l r 0) x q))
    by_test false q = sym (member_nowhere x l (apart (eqb-false (get_or l r 0) x q)))

-- x is not in the list where its place is past the end
pub place_past : (l : List ℕ) (x r : ℕ) → Ascending l → r ≡ count_of (λ (y : ℕ). ltb y x) l → length l ≤ r → member x l ≡ false
place_past l x r a e h =
    member_nowhere x l (λ i m q. let u = (place_split l x r a e).1 i (omega arith) in omega arith)

-- where x stands is its place
pub place_met : (l : List ℕ) (x i : ℕ) → Ascending l → i < length l → get_or l i 0 ≡ x → i ≡ count_of (λ (y : ℕ). ltb y x) l
place_met l x i a h e =
    sym
    (count_index (λ (y : ℕ). ltb y x) l
    ∙ count_below_place (below_at l x) (length l) i (omega arith)
    (λ j k. let u = ascending_at l a j i k h in lt-ltb (get_or l j 0) x (omega arith))
    (λ j k m.
    ⊎_elim
    (λ (q : i ≡ j). let u = ap (λ (n : ℕ). get_or l n 0) q in le-ltb (get_or l j 0) x (omega arith))
    (λ (q : i < j). let u = ascending_at l a i j q m in le-ltb (get_or l j 0) x (omega arith))
    (eq-or-lt_of_le k)))

-- ---- columns

-- what is below x comes first
pub column_falls : (f : ℕ → ℕ) (n x : ℕ) → Rising f n → Falling (λ (i : ℕ). ltb (f i) x) n
unfolding Rising
column_falls f n x rises i j h m e =
    let u = ltb-true (f j) x e in
    let v = rises i j h m in
    lt-ltb (f i) x (omega arith)

-- so those before the place are below x, and those from it on are not
pub column_split : (f : ℕ → ℕ) (n x r : ℕ) → Rising f n → r ≡ count_below n (λ (i : ℕ). ltb (f i) x)
    → (r ≤ n) × ((i : ℕ) → i < r → f i < x) × ((i : ℕ) → r ≤ i → i < n → x ≤ f i)
column_split f n x r rises e =
    let s = falling_count (λ (i : ℕ). ltb (f i) x) n (column_falls f n x rises) in
    let w = s.within in (
      omega arith,
      λ i h. ltb-true (f i) x (s.below i (omega arith)),
      λ i h m. ltb-false (f i) x (s.above i (omega arith) m),
    )

-- a list is its own column of width 1
pub column_list : (l : List ℕ) (i : ℕ) → column_at l 0 1 i ≡ get_or l i 0
unfolding column_at
column_list l i = ap (λ (k : ℕ). get_or l k 0) (zero-add (1 * i) ∙ one-mul i)

pub ascending_rising : (l : List ℕ) → Ascending l → Rising (column_at l 0 1) (length l)
unfolding Rising
ascending_rising l a i j h m =
    rw (column_list l i, column_list l j)
    (⊎_elim
    (λ (p : i ≡ j). let e = ap (λ (k : ℕ). get_or l k 0) p in omega arith)
    (λ (p : i < j). let v = ascending_at l a i j p m in omega arith)
    (eq-or-lt_of_le h))

pub count_column : (l : List ℕ) (x : ℕ) → count_below (length l) (λ (i : ℕ). ltb (column_at l 0 1 i) x) ≡ count_of (λ (y : ℕ). ltb y x) l
count_column l x =
    sum_below_ext (length l) (λ (i : ℕ). cond (ltb (column_at l 0 1 i) x) 1 0) (λ (i : ℕ). cond (ltb (get_or l i 0) x) 1 0)
    (λ i h. ap (λ (v : ℕ). cond (ltb v x) 1 0) (column_list l i))
    ∙ sym (count_index (λ (y : ℕ). ltb y x) l)

-- ---- the numbers that a search asks

-- the first, where the numbers are not one less than p, which is the power of two within their count and one
pub asked_first : (len first width n p q : ℕ) → ((i : ℕ) → i < n → first + width * i < len) → 0 < q → p ≡ q → 0 < n + 1 - p
    → first + width * (n + 1 - p - 1) < len
asked_first len first width n p q h a e r = h (n + 1 - p - 1) (omega arith)

-- and the one of each turn
pub asked : (b : ℕ → Bool) (n base k p len first width : ℕ) → 0 < k → Stretch b n base (2 ^ k - 1) → p ≡ 2 ^ (k - 1)
    → ((i : ℕ) → i < n → first + width * i < len) → (base + p - 1 < n) × (first + width * (base + p - 1) < len)
asked b n base k p len first width q s e h =
    let d = digit_within b n base k q s in
    let i : base + p - 1 < n = omega arith in
    (i, h (base + p - 1) i)
