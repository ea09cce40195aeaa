-- The steps over sorted entries: what the pairs, the sum and the count come to after each, and what is written where.
-- Assumes nothing.
use mathlib.Core.Path.{◌≡◌, refl, sym, ap, ap₂, ◌∙◌}
use mathlib.Core.Logic.{⊎_elim}
use mathlib.Core.Bool.{Bool, true, false, cond, not, ◌&&◌, true≢false}
use mathlib.Core.List.{List, [], ◌∷◌, ◌++◌, map, map-append, append_assoc}
use Prim.Native.Nat.{ℕ, zero, suc, ◌+◌, ◌-◌, ◌*◌, ◌≤◌, ◌<◌}
use native.Mathlib.Numerals.{add-one}
use native.Mathlib.Nat.{eq-or-lt_of_le}
use native.Mathlib.Omega.{arith}
use lib.ListN.{length, get_or, set, take, drop, length-append, length-drop, length-map}
use lib.Seq.{take-suc, take_all, drop-cons, set_at, set-set, length-take-le, get_or-take, get_or-drop}
use lib.Dec.{eqb}
use borrow.Author.Tests.{le-leb, lt-leb, eqb-true, eqb-false, not-true, not-false}
use Rattle.laws.specs.Lists.{member, Ascending, sum_of}
use Rattle.laws.specs.Sort.{Sorted, sort_of}
use Rattle.laws.proofs.Members.{member_nil, member_head, member_tail, member_cases, member_one, member_map, member_map_place, member_place}
use Rattle.laws.proofs.Ascending.{member_get_d}
use Rattle.laws.proofs.Sort.{sorted_sort, length_sort, sorted_least, above_member, ascending_above, ascending_rest}
use Rattle.weeks.specs.declared.Tally.{Tally}
use Rattle.weeks.specs.Pairs.{id_in, week_in, pair_in, pairs_of, reading_in, present, amount, tally, sum_for, count_for, Columns, as_columns, room_of, columns_of, over, columns_over, fits, paired_of, columns_after}
use Rattle.weeks.specs.Steps.{first_at, with_entry, tallied_to}
use Rattle.weeks.proofs.Laws.{member_pairs, ascending_pairs, pairs_known, pairs_new, pairs_nil, amount_other, tally_other, sum_snoc, sum_none, sum_other, pairs_sort, columns_sort}

abbrev pub pair_at : List ℕ → ℕ → ℕ
pair_at s i = pair_in (get_or s i 0)

-- ---- the order

-- later entries have no smaller pair
rise : (s : List ℕ) → Sorted s → (j i : ℕ) → j ≤ i → i < length s → pair_at s j ≤ pair_at s i
rise s o j i h l =
    let d : get_or (drop j s) (i - j) 0 ≡ get_or s i 0 = get_or-drop j s (i - j) 0 ∙ ap (λ (n : ℕ). get_or s n 0) (the_place) in
    let n : i - j < length (drop j s) = omega (arith, length_drop_of) in
    let m = member_get_d (get_or s i 0) (drop j s) (i - j) n d in
    let k = sorted_least s j o (omega arith) (get_or s i 0) m in
    omega arith
  where
    the_place : j + (i - j) ≡ i
    the_place = omega arith

    length_drop_of : length (drop j s) ≡ length s - j
    length_drop_of = length-drop j s

-- a pair of the entries before place i stands at one of their places
placed : (s : List ℕ) (i : ℕ) → i ≤ length s → (k : ℕ) → member k (map pair_in (take i s)) ≡ true → (j : ℕ) × (j < i) × (pair_at s j ≡ k)
placed s i h k m =
    let x = member_map_place pair_in k (take i s) m in
    let p = member_place x.0 (take i s) x.1 in
    let t = length-take-le i s h in
    let b : p.0 < i = omega arith in
    (p.0, b, ap pair_in (sym (get_or-take i s p.0 0 b) ∙ p.2) ∙ x.2)

-- so none is above that of the entry at i
none_above : (s : List ℕ) → Sorted s → (i : ℕ) → i < length s → (k : ℕ) → member k (map pair_in (take i s)) ≡ true → k ≤ pair_at s i
none_above s o i h k m =
    let p = placed s i (omega arith) k m in
    let r = rise s o p.0 i (omega arith) h in
    let e = p.2 in
    omega arith

-- and all are below that of a first one
first_above : (s : List ℕ) → Sorted s → (i : ℕ) → i < length s → first_at s i ≡ true → (k : ℕ) → member k (map pair_in (take i s)) ≡ true → k < pair_at s i
unfolding first_at
first_above s o zero h f k m = absurd (member_nil k m)
first_above s o (suc i) h f k m =
    let p = placed s (suc i) (omega arith) k m in
    let e = p.2 in
    let r = rise s o p.0 i (omega arith) (omega arith) in
    let u = rise s o i (suc i) (omega arith) h in
    let n = eqb-false (pair_at s (suc i)) (pair_at s i) (not-true _ f) in
    ⊎_elim (λ (w : pair_at s i ≡ pair_at s (suc i)). absurd (n (sym w))) (λ (w : pair_at s i < pair_at s (suc i)). omega arith)
    (eq-or-lt_of_le u)

-- any other has the pair of the one before it
later_same : (s : List ℕ) (i : ℕ) → first_at s (suc i) ≡ false → pair_at s (suc i) ≡ pair_at s i
unfolding first_at
later_same s i f = eqb-true _ _ (not-false _ f)

later_known : (s : List ℕ) (i : ℕ) → i < length s → first_at s i ≡ false → member (pair_at s i) (map pair_in (take i s)) ≡ true
unfolding first_at
later_known s zero h f = absurd (true≢false f)
later_known s (suc i) h f =
    let t = length-take-le (suc i) s (omega arith) in
    let g : get_or (take (suc i) s) i 0 ≡ get_or s i 0 = get_or-take (suc i) s i 0 (omega arith) in
    let m = member_get_d (get_or s i 0) (take (suc i) s) i (omega arith) g in
    rw (later_same s i f) (member_map pair_in (get_or s i 0) (take (suc i) s) m)

-- ---- one step, as the code takes it

pub first_start : (s : List ℕ) (i : ℕ) → i ≡ 0 → true ≡ first_at s i
unfolding first_at
first_start s i e = rw e

pub first_next : (s : List ℕ) (i : ℕ) → (i ≡ 0 → ⊥) → not (eqb (pair_at s i) (pair_at s (i - 1))) ≡ first_at s i
unfolding first_at
first_next s zero n = absurd (n refl)
first_next s (suc i) n = let e : suc i - 1 ≡ i = omega arith in rw e

module _ (s : List ℕ) (i : ℕ) (t : Tally) (a b : ℕ) (sum : a ≡ amount (pair_at s i) (get_or s i 0)) (count : b ≡ tally (pair_at s i) (get_or s i 0)) where
  pub with_first : first_at s i ≡ true → record { pairs = t.pairs + 1; sum = a; count = b } ≡ with_entry s i t
  unfolding with_entry
  with_first f = rw (f, sum, count)

  pub with_later : first_at s i ≡ false → record { pairs = t.pairs; sum = t.sum + a; count = t.count + b } ≡ with_entry s i t
  unfolding with_entry
  with_later f = rw (f, sum, count)

pub tallied_start : (s : List ℕ) → record { pairs = 0; sum = 0; count = 0 } ≡ tallied_to s 0
unfolding tallied_to
tallied_start s = refl

pub tallied_next : (s : List ℕ) (i : ℕ) (t r : Tally) → t ≡ tallied_to s i → r ≡ with_entry s i t → r ≡ tallied_to s (i + 1)
unfolding tallied_to
tallied_next s i t r e f = f ∙ ap (with_entry s i) e ∙ (rw add-one)

-- ---- the pairs so far

pub pairs_first : (s : List ℕ) → Sorted s → (i : ℕ) → i < length s → first_at s i ≡ true → pairs_of (take (suc i) s) ≡ pairs_of (take i s) ++ (pair_at s i ∷ [])
pairs_first s o i h f = ap pairs_of (take-suc s i 0 h) ∙ pairs_new (take i s) (get_or s i 0) (first_above s o i h f)

pub pairs_later : (s : List ℕ) (i : ℕ) → i < length s → first_at s i ≡ false → pairs_of (take (suc i) s) ≡ pairs_of (take i s)
pairs_later s i h f = ap pairs_of (take-suc s i 0 h) ∙ pairs_known (take i s) (get_or s i 0) (later_known s i h f)

-- they are as many as the steps count
pub tallied_pairs : (s : List ℕ) → Sorted s → (i : ℕ) → i ≤ length s → (tallied_to s i).pairs ≡ length (pairs_of (take i s))
unfolding tallied_to with_entry
tallied_pairs s o zero h = ap length (sym pairs_nil)
tallied_pairs s o (suc i) h = by_test (first_at s i) refl (tallied_pairs s o i (omega arith))
  where
    by_test : (b : Bool) → first_at s i ≡ b → (tallied_to s i).pairs ≡ length (pairs_of (take i s)) → (with_entry s i (tallied_to s i)).pairs ≡ length (pairs_of (take (suc i) s))
    by_test true f e = rw (f, pairs_first s o i h f) (let a = length-append (pairs_of (take i s)) (pair_at s i ∷ []) in omega arith)
    by_test false f e = rw (f, pairs_later s i h f) e

-- ---- the sum and the count so far

-- of the last pair, over what an entry adds
unfoldable run_to : (ℕ → ℕ → ℕ) → List ℕ → ℕ → ℕ
run_to g s zero = 0
run_to g s (suc i) = cond (first_at s i) (g (pair_at s i) (get_or s i 0)) (run_to g s i + g (pair_at s i) (get_or s i 0))

tallied_sum : (s : List ℕ) (i : ℕ) → (tallied_to s i).sum ≡ run_to amount s i
unfolding tallied_to with_entry run_to
tallied_sum s zero = refl
tallied_sum s (suc i) = by_test (first_at s i) refl (tallied_sum s i)
  where
    by_test : (b : Bool) → first_at s i ≡ b → (tallied_to s i).sum ≡ run_to amount s i → (with_entry s i (tallied_to s i)).sum ≡ run_to amount s (suc i)
    by_test true f e = rw f
    by_test false f e = rw f (ap (λ (n : ℕ). n + amount (pair_at s i) (get_or s i 0)) e)

tallied_count : (s : List ℕ) (i : ℕ) → (tallied_to s i).count ≡ run_to tally s i
unfolding tallied_to with_entry run_to
tallied_count s zero = refl
tallied_count s (suc i) = by_test (first_at s i) refl (tallied_count s i)
  where
    by_test : (b : Bool) → first_at s i ≡ b → (tallied_to s i).count ≡ run_to tally s i → (with_entry s i (tallied_to s i)).count ≡ run_to tally s (suc i)
    by_test true f e = rw f
    by_test false f e = rw f (ap (λ (n : ℕ). n + tally (pair_at s i) (get_or s i 0)) e)

module _ (g : ℕ → ℕ → ℕ) (own : (k e : ℕ) → (pair_in e ≡ k → ⊥) → g k e ≡ 0) where
  run_first : (s : List ℕ) → Sorted s → (i : ℕ) → i < length s → first_at s i ≡ true
      → sum_of (map (g (pair_at s i)) (take (suc i) s)) ≡ g (pair_at s i) (get_or s i 0)
  run_first s o i h f =
      let a = sum_none g own (pair_at s i) (take i s) (λ x m q. let b = first_above s o i h f x m in omega arith) in
      let b = sum_snoc (g (pair_at s i)) (take i s) (get_or s i 0) in
      ap (λ (l : List ℕ). sum_of (map (g (pair_at s i)) l)) (take-suc s i 0 h) ∙ (omega arith)

  run_later : (s : List ℕ) (i : ℕ) → i < length s
      → sum_of (map (g (pair_at s i)) (take (suc i) s)) ≡ sum_of (map (g (pair_at s i)) (take i s)) + g (pair_at s i) (get_or s i 0)
  run_later s i h = ap (λ (l : List ℕ). sum_of (map (g (pair_at s i)) l)) (take-suc s i 0 h) ∙ sum_snoc (g (pair_at s i)) (take i s) (get_or s i 0)

  run_step : (s : List ℕ) → Sorted s → (i : ℕ) → i < length s → (first_at s i ≡ false → run_to g s i ≡ sum_of (map (g (pair_at s i)) (take i s)))
      → run_to g s (suc i) ≡ sum_of (map (g (pair_at s i)) (take (suc i) s))
  unfolding run_to
  run_step s o i h again = by_test (first_at s i) refl
    where
      by_test : (b : Bool) → first_at s i ≡ b
          → cond b (g (pair_at s i) (get_or s i 0)) (run_to g s i + g (pair_at s i) (get_or s i 0)) ≡ sum_of (map (g (pair_at s i)) (take (suc i) s))
      by_test true f = sym (run_first s o i h f)
      by_test false f = ap (λ (n : ℕ). n + g (pair_at s i) (get_or s i 0)) (again f) ∙ sym (run_later s i h)

  -- it is what all entries so far add to that pair
  run_total : (s : List ℕ) → Sorted s → (i : ℕ) → i < length s → run_to g s (suc i) ≡ sum_of (map (g (pair_at s i)) (take (suc i) s))
  unfolding first_at
  run_total s o zero h = run_step s o zero h (λ f. absurd (true≢false f))
  run_total s o (suc i) h =
      let before = run_total s o i (omega arith) in
      run_step s o (suc i) h (λ f. rw (later_same s i f) before)

pub sum_so_far : (s : List ℕ) → Sorted s → (i : ℕ) → i < length s → (tallied_to s (suc i)).sum ≡ sum_of (map (amount (pair_at s i)) (take (suc i) s))
sum_so_far s o i h = tallied_sum s (suc i) ∙ run_total amount amount_other s o i h

pub count_so_far : (s : List ℕ) → Sorted s → (i : ℕ) → i < length s → (tallied_to s (suc i)).count ≡ sum_of (map (tally (pair_at s i)) (take (suc i) s))
count_so_far s o i h = tallied_count s (suc i) ∙ run_total tally tally_other s o i h

-- ---- what is written where

-- the value of one pair more, after the others
put_new : (f f' : ℕ → ℕ) (q : List ℕ) (k : ℕ) (a : List ℕ) → ((x : ℕ) → member x q ≡ true → f' x ≡ f x) → length q < length a
    → set (over (map f q) a) (length q) (f' k) ≡ over (map f' (q ++ (k ∷ []))) a
put_new f f' q k a e h =
    let n : length (map f q) ≡ length q = simp length-map in
    let m : length (map f' (q ++ (k ∷ []))) ≡ suc (length q) = simp (length-map, length-append) (omega arith) in
    rw (n, m, drop-cons a (length q) 0 h, set_at (map f q) (get_or a (length q) 0) (drop (suc (length q)) a) (f' k) (length q) n)
    (rw (map-append f' q (k ∷ []), append_assoc) (ap (λ (l : List ℕ). l ++ f' k ∷ drop (suc (length q)) a) (same q e)))
  where
    same : (l : List ℕ) → ((x : ℕ) → member x l ≡ true → f' x ≡ f x) → map f l ≡ map f' l
    same [] d = refl
    same (x ∷ l) d = ap₂ ◌∷◌ (sym (d x (member_head x l))) (same l (λ y m. d y (member_tail x y l m)))

-- the value of the last pair again
put_again : (f f' : ℕ → ℕ) (q : List ℕ) (k : ℕ) (a : List ℕ) → ((x : ℕ) → member x q ≡ true → f' x ≡ f x) → length q < length a
    → set (over (map f (q ++ (k ∷ []))) a) (length q) (f' k) ≡ over (map f' (q ++ (k ∷ []))) a
put_again f f' q k a e h =
    ap (λ (l : List ℕ). set l (length q) (f' k)) (sym (put_new f f q k a (λ x m. refl) h))
    ∙ set-set (over (map f q) a) (length q) (f k) (f' k)
    ∙ put_new f f' q k a e h

put_last : (f f' : ℕ → ℕ) (p q : List ℕ) (k : ℕ) (a : List ℕ) → p ≡ q ++ (k ∷ []) → ((x : ℕ) → member x q ≡ true → f' x ≡ f x) → length p ≤ length a
    → set (over (map f p) a) (length p - 1) (f' k) ≡ over (map f' p) a
put_last f f' p q k a e h r =
    let n : length (q ++ (k ∷ [])) ≡ length q + 1 = length-append q (k ∷ []) in
    let l = ap length e in
    let m : length p - 1 ≡ length q = omega arith in
    rw (m, e) (put_again f f' q k a h (omega arith))

-- the largest of an ascending list is its last
last_of : (p : List ℕ) (k : ℕ) → Ascending p → member k p ≡ true → ((x : ℕ) → member x p ≡ true → x ≤ k)
    → (q : List ℕ) × (p ≡ q ++ (k ∷ [])) × ((x : ℕ) → member x q ≡ true → x < k)
last_of [] k a m h = absurd (member_nil k m)
last_of (x ∷ []) k a m h = ([], ap (λ (n : ℕ). n ∷ []) (sym (member_one x k m)), λ y n. absurd (member_nil y n))
last_of (x ∷ y ∷ l) k a m h =
    let up = above_member x (y ∷ l) (ascending_above x (y ∷ l) a) in
    let n : member k (y ∷ l) ≡ true = ⊎_elim (λ (e : k ≡ x). absurd (let b = up y (member_head y l) in let c = h y (member_tail x y (y ∷ l) (member_head y l)) in omega arith)) (λ (w : member k (y ∷ l) ≡ true). w) (member_cases x k (y ∷ l) m) in
    let r = last_of (y ∷ l) k (ascending_rest x (y ∷ l) a) n (λ z w. h z (member_tail x z (y ∷ l) w)) in (
      x ∷ r.0,
      ap (λ (t : List ℕ). x ∷ t) r.1,
      λ z w. ⊎_elim (λ (e : z ≡ x). let b = up k n in omega arith) (λ (v : member z r.0 ≡ true). r.2 z v) (member_cases x z r.0 w),
    )

-- one step of a column: f is what it held of each pair, and f' what it holds then, which differs for the entry's own pair alone
pub put_step : (s : List ℕ) → Sorted s → (i : ℕ) → i < length s → (f f' : ℕ → ℕ) (a : List ℕ)
    → ((x : ℕ) → (pair_at s i ≡ x → ⊥) → f' x ≡ f x) → length (pairs_of (take (suc i) s)) ≤ length a
    → set (over (map f (pairs_of (take i s))) a) (length (pairs_of (take (suc i) s)) - 1) (f' (pair_at s i)) ≡ over (map f' (pairs_of (take (suc i) s))) a
put_step s o i h f f' a e r = by_test (first_at s i) refl
  where
    by_test : (b : Bool) → first_at s i ≡ b
        → set (over (map f (pairs_of (take i s))) a) (length (pairs_of (take (suc i) s)) - 1) (f' (pair_at s i)) ≡ over (map f' (pairs_of (take (suc i) s))) a
    by_test true w =
        let t = pairs_first s o i h w in
        let n : length (pairs_of (take i s) ++ (pair_at s i ∷ [])) ≡ length (pairs_of (take i s)) + 1 = length-append (pairs_of (take i s)) (pair_at s i ∷ []) in
        let b = ap length t in
        let m : length (pairs_of (take (suc i) s)) - 1 ≡ length (pairs_of (take i s)) = omega arith in
        rw (m, t)
        (put_new f f' (pairs_of (take i s)) (pair_at s i) a
        (λ x v. e x (λ q. let u = first_above s o i h w x (sym (member_pairs x (take i s)) ∙ v) in omega arith)) (omega arith))
    by_test false w =
        let t = pairs_later s i h w in
        let l = last_of (pairs_of (take i s)) (pair_at s i) (ascending_pairs (take i s)) (member_pairs (pair_at s i) (take i s) ∙ later_known s i h w)
        (λ x v. none_above s o i h x (sym (member_pairs x (take i s)) ∙ v)) in
        let v : length (pairs_of (take i s)) ≤ length a = rw t at r in
        let w = put_last f f' (pairs_of (take i s)) l.0 (pair_at s i) a l.1 (λ x y. e x (λ q. let u = l.2 x y in omega arith)) v in
        rw t w

-- ---- bounds

pub amount_most : (k e : ℕ) → amount k e ≤ 65535
unfolding amount
amount_most k e = by_test (eqb (pair_in e) k && present e)
  where
    by_test : (b : Bool) → cond b (reading_in e) 0 ≤ 65535
    by_test true = omega arith
    by_test false = omega arith

pub tally_most : (k e : ℕ) → tally k e ≤ 1
unfolding tally
tally_most k e = by_test (eqb (pair_in e) k && present e)
  where
    by_test : (b : Bool) → cond b 1 0 ≤ 1
    by_test true = omega arith
    by_test false = omega arith

pub tallied_most : (s : List ℕ) (i : ℕ) → ((tallied_to s i).pairs ≤ i) × ((tallied_to s i).sum ≤ 65535 * i) × ((tallied_to s i).count ≤ i)
unfolding tallied_to with_entry
tallied_most s zero = (omega arith, omega arith, omega arith)
tallied_most s (suc i) = by_test (first_at s i) refl (tallied_most s i)
  where
    by_test : (b : Bool) → first_at s i ≡ b → ((tallied_to s i).pairs ≤ i) × ((tallied_to s i).sum ≤ 65535 * i) × ((tallied_to s i).count ≤ i)
        → ((with_entry s i (tallied_to s i)).pairs ≤ suc i) × ((with_entry s i (tallied_to s i)).sum ≤ 65535 * suc i) × ((with_entry s i (tallied_to s i)).count ≤ suc i)
    by_test true f h =
        let a = amount_most (pair_at s i) (get_or s i 0) in
        let b = tally_most (pair_at s i) (get_or s i 0) in
        rw f (omega arith, omega arith, omega arith)
    by_test false f h =
        let a = amount_most (pair_at s i) (get_or s i 0) in
        let b = tally_most (pair_at s i) (get_or s i 0) in
        rw f (omega arith, omega arith, omega arith)

-- ---- the loops

module _ (s : List ℕ) (i : ℕ) (t : Tally) (so : t ≡ tallied_to s i) where
  -- what taking in the entry at i requires
  pub tallied_within : i < length s → length s ≤ 1024 → (i < length s) × (i ≤ 1024) × (t.pairs ≤ i) × (t.sum ≤ 65535 * i) × (t.count ≤ i)
  tallied_within h m =
      let b = tallied_most s i in
      (h, omega arith, rw so b.0, rw so b.1, rw so b.2)

  pub tallied_all : Sorted s → i ≤ length s → length s ≤ i → t.pairs ≡ length (pairs_of s)
  tallied_all o h l =
      ap (λ (x : Tally). x.pairs) so ∙ tallied_pairs s o i h ∙ ap (λ (p : List ℕ). length (pairs_of p)) (take_all i s l)

-- pairs are not lost
grown : (s : List ℕ) (i : ℕ) → (tallied_to s i).pairs ≤ (tallied_to s (suc i)).pairs
unfolding tallied_to with_entry
grown s i = by_test (first_at s i) refl
  where
    by_test : (b : Bool) → first_at s i ≡ b → (tallied_to s i).pairs ≤ (with_entry s i (tallied_to s i)).pairs
    by_test true f = rw f (omega arith)
    by_test false f = rw f (omega arith)

pairs_grow : (s : List ℕ) (i n : ℕ) → (tallied_to s i).pairs ≤ (tallied_to s (i + n)).pairs
pairs_grow s i zero = let e : i + 0 ≡ i = omega arith in rw e (omega arith)
pairs_grow s i (suc n) =
    let e : i + suc n ≡ suc (i + n) = omega arith in
    let h = pairs_grow s i n in
    let g = grown s (i + n) in
    rw e (omega arith)

-- an entry has a pair
some_pair : (s : List ℕ) → Sorted s → (i : ℕ) → i < length s → 1 ≤ length (pairs_of (take (suc i) s))
some_pair s o i h = by_test (first_at s i) refl
  where
    by_test : (b : Bool) → first_at s i ≡ b → 1 ≤ length (pairs_of (take (suc i) s))
    by_test true f = rw (pairs_first s o i h f) (let a = length-append (pairs_of (take i s)) (pair_at s i ∷ []) in omega arith)
    by_test false f =
        let m = member_place (pair_at s i) (pairs_of (take i s)) (member_pairs (pair_at s i) (take i s) ∙ later_known s i h f) in
        rw (pairs_later s i h f) (omega arith)

length_over : (l a : List ℕ) → length l ≤ length a → length (over l a) ≡ length a
length_over l a h = let m = length-append l (drop (length l) a) in let n = length-drop (length l) a in omega arith

module _ (s : List ℕ) (o : Sorted s) (i : ℕ) (h : i < length s) (c₀ : Columns) (room : length (pairs_of s) ≤ room_of c₀) where
  -- the pairs so far have room, and there is one
  roomy : (length (pairs_of (take i s)) ≤ room_of c₀) × (1 ≤ length (pairs_of (take (suc i) s))) × (length (pairs_of (take (suc i) s)) ≤ room_of c₀)
  roomy =
      let a = tallied_pairs s o i (omega arith) in
      let b = tallied_pairs s o (suc i) h in
      let c = tallied_pairs s o (length s) (omega arith) in
      let d : (tallied_to s (length s)).pairs ≡ length (pairs_of s) = c ∙ ap (λ (p : List ℕ). length (pairs_of p)) (take_all (length s) s (omega arith)) in
      let e : suc i + (length s - suc i) ≡ length s = omega arith in
      let f : (tallied_to s (suc i)).pairs ≤ (tallied_to s (length s)).pairs = rw e at (pairs_grow s (suc i) (length s - suc i)) in
      let g = grown s i in
      let k = some_pair s o i h in
      (omega arith, k, omega arith)

  module _ (c : Columns) (so : c ≡ columns_over (columns_of (take i s)) c₀) (t : Tally) (now : t ≡ tallied_to s (i + 1)) where
    counted : t.pairs ≡ length (pairs_of (take (suc i) s))
    counted = ap (λ (x : Tally). x.pairs) now ∙ (rw add-one (tallied_pairs s o (suc i) h))

    pub some_counted : 1 ≤ t.pairs
    some_counted = let a = roomy.1 in let b = counted in omega arith

    -- the place of the pair lies within each column
    pub place_within : (t.pairs - 1 < length c.ids) × (t.pairs - 1 < length c.weeks) × (t.pairs - 1 < length c.sums) × (t.pairs - 1 < length c.counts)
    place_within =
        let r = roomy in
        let b = counted in
        let p = pairs_of (take i s) in
        rw so (
          within id_in c₀.ids (omega arith),
          within week_in c₀.weeks (omega arith),
          within (sum_for (take i s)) c₀.sums (omega arith),
          within (count_for (take i s)) c₀.counts (omega arith),
        )
      where
        within : (f : ℕ → ℕ) (a : List ℕ) → room_of c₀ ≤ length a → t.pairs - 1 < length (over (map f (pairs_of (take i s))) a)
        within f a l =
            let r = roomy in
            let b = counted in
            let n : length (map f (pairs_of (take i s))) ≡ length (pairs_of (take i s)) = simp length-map in
            rw (length_over (map f (pairs_of (take i s))) a (omega arith)) (omega arith)

    -- and what is put there makes the columns of one entry more
    pub put_all : as_columns (set c.ids (t.pairs - 1) (id_in (pair_at s i))) (set c.weeks (t.pairs - 1) (week_in (pair_at s i))) (set c.sums (t.pairs - 1) t.sum) (set c.counts (t.pairs - 1) t.count)
        ≡ columns_over (columns_of (take (i + 1) s)) c₀
    put_all =
        let a : t.sum ≡ sum_for (take (suc i) s) (pair_at s i) = ap (λ (x : Tally). x.sum) now ∙ (rw add-one (sum_so_far s o i h)) in
        let b : t.count ≡ count_for (take (suc i) s) (pair_at s i) = ap (λ (x : Tally). x.count) now ∙ (rw add-one (count_so_far s o i h)) in
        let r = roomy in
        rw (a, b, counted, so, add-one)
        (ap₄
        (put_step s o i h id_in id_in c₀.ids (λ x n. refl) (omega arith))
        (put_step s o i h week_in week_in c₀.weeks (λ x n. refl) (omega arith))
        (put_step s o i h (sum_for (take i s)) (sum_for (take (suc i) s)) c₀.sums
        (λ x n. ap (λ (l : List ℕ). sum_for l x) (take-suc s i 0 h) ∙ sum_other amount amount_other x (take i s) (get_or s i 0) n) (omega arith))
        (put_step s o i h (count_for (take i s)) (count_for (take (suc i) s)) c₀.counts
        (λ x n. ap (λ (l : List ℕ). count_for l x) (take-suc s i 0 h) ∙ sum_other tally tally_other x (take i s) (get_or s i 0) n) (omega arith)))
      where
        ap₄ : {a a' b b' c c' d d' : List ℕ} → a ≡ a' → b ≡ b' → c ≡ c' → d ≡ d' → as_columns a b c d ≡ as_columns a' b' c' d'
        ap₄ e f g k = cc

-- nothing is put before the first entry
pub put_none : (c₀ : Columns) → c₀ ≡ columns_over (columns_of []) c₀
put_none c₀ = rw pairs_nil

-- and after the last it is the columns of all
pub put_every : (s : List ℕ) (i : ℕ) (c₀ c : Columns) → c ≡ columns_over (columns_of (take i s)) c₀ → length s ≤ i → c ≡ columns_over (columns_of s) c₀
put_every s i c₀ c e l = e ∙ ap (λ (p : List ℕ). columns_over (columns_of p) c₀) (take_all i s l)

pub lengths_kept : (s : List ℕ) (i : ℕ) (c₀ c : Columns) → c ≡ columns_over (columns_of (take i s)) c₀ → length (pairs_of s) ≤ room_of c₀ → length s ≤ i
    → (length c.ids ≡ length c₀.ids) × (length c.weeks ≡ length c₀.weeks) × (length c.sums ≡ length c₀.sums) × (length c.counts ≡ length c₀.counts)
lengths_kept s i c₀ c e room l =
    rw (put_every s i c₀ c e l) (kept id_in c₀.ids (omega arith), kept week_in c₀.weeks (omega arith), kept (sum_for s) c₀.sums (omega arith), kept (count_for s) c₀.counts (omega arith))
  where
    kept : (f : ℕ → ℕ) (a : List ℕ) → room_of c₀ ≤ length a → length (over (map f (pairs_of s)) a) ≡ length a
    kept f a m = let n : length (map f (pairs_of s)) ≡ length (pairs_of s) = simp length-map in length_over (map f (pairs_of s)) a (omega arith)

-- ---- the whole

-- what sorted entries are, whatever their order was
pub sorted_entries : (l s : List ℕ) → s ≡ sort_of l → length l ≤ 1024 → Sorted s × (length s ≤ 1024)
sorted_entries l s e h = (rw e (sorted_sort l), rw (e, length_sort l) h)

pub pairs_few : (s : List ℕ) → Sorted s → length (pairs_of s) ≤ length s
pairs_few s o =
    let a = tallied_pairs s o (length s) (omega arith) in
    let b = (tallied_most s (length s)).0 in
    let c = ap (λ (p : List ℕ). length (pairs_of p)) (take_all (length s) s (omega arith)) in
    omega arith

module _ (l s : List ℕ) (e : s ≡ sort_of l) (n room : ℕ) (counted : n ≡ length (pairs_of s)) (c : Columns) (lent : room ≡ room_of c) where
  as_many : n ≡ length (pairs_of l)
  as_many = counted ∙ ap (λ (p : List ℕ). length (pairs_of p)) e ∙ ap length (pairs_sort l)

  pub pairs_refused : room < n → (record { number = 8; pairs = 0 } ≡ paired_of l (room_of c)) × ((c ≡ columns_after l c) × (s ≡ sort_of l))
  unfolding paired_of columns_after
  pairs_refused h =
      let a = as_many in
      let f : fits l (room_of c) ≡ false = lt-leb (length (pairs_of l)) (room_of c) (omega arith) in
      (rw f, (rw f, e))

  pub pairs_written : (c' : Columns) → n ≤ room → c' ≡ columns_over (columns_of s) c
      → (record { number = 0; pairs = n } ≡ paired_of l (room_of c)) × ((c' ≡ columns_after l c) × (s ≡ sort_of l))
  unfolding paired_of columns_after
  pairs_written c' h p =
      let a = as_many in
      let f : fits l (room_of c) ≡ true = le-leb (length (pairs_of l)) (room_of c) (omega arith) in
      (rw (f, a), (rw f (p ∙ ap (λ (x : Columns). columns_over x c) (ap columns_of e ∙ columns_sort l)), e))
