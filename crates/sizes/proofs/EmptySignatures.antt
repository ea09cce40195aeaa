-- A size at which fewer lists than the least count have ids: its signature lists are empty, so it costs nothing and has no answer.
-- Cited by the proof of `one_size`.
-- Assumes nothing.
use mathlib.Core.Path.{◌≡◌, refl, sym, ap, ◌∙◌}
use mathlib.Core.Logic.{⊎_elim}
use mathlib.Core.Bool.{Bool, false, cond, ◌&&◌}
use mathlib.Core.List.{List, [], ◌∷◌, map}
use Prim.Native.Nat.{ℕ, zero, suc, ◌+◌, ◌%◌, ◌≤◌, ◌<◌}
use native.Mathlib.Nat.{eq-or-lt_of_le}
use native.Mathlib.Omega.{arith}
use lib.ListN.{length, get_or, take}
use lib.Dec.{ltb, leb, eqb}
use borrow.Author.Tests.{lt-ltb, le-ltb, le-leb, ltb-true}
use Rattle.laws.specs.Lists.{Ascending, tabulate, count_of, sum_of}
use Rattle.laws.specs.Below.{count_below}
use Rattle.laws.specs.Sort.{sort_of}
use Rattle.laws.proofs.Lists.{length_nil, length_tabulate, get_d_tabulate, tabulate_ext}
use Rattle.laws.proofs.Below.{sum_below_ext, sum_below_most, and_false_right}
use Rattle.laws.proofs.Ascending.{ascending_at}
use Rattle.laws.proofs.BinarySearch.{Falling, falling_count, count_index}
use Rattle.laws.proofs.Order.{le_or_lt}
use Rattle.laws.proofs.Sort.{count_sort}
use Rattle.laws.proofs.Tables.{tabulate_self}
use Rattle.words.specs.Words.{name_count, name_id, name_size}
use Rattle.index.specs.Good.{most_names, ids_in}
use Rattle.lists.specs.Lists.{list_in}
use Rattle.candidates.specs.Method.{held_by, signatures, signature_postings, remains, later_count}
use Rattle.candidates.specs.Tables.{no_counts, remains_at, remain_table, kept}
use Rattle.candidates.proofs.Candidates.{no_holder, unmet}
use Rattle.sizes.specs.Method.{lists_for, remaining, touches_at}
use Rattle.sizes.specs.Tables.{small_key, filled_of, touches_for, answers_for, Sized, Asked}
use Rattle.sizes.proofs.Laws.{length_lists}
use Rattle.sizes.proofs.Order.{small_keys, small_ascending, length_small, kth_key}
use Rattle.sizes.proofs.Size.{asked_query, asked_sorted, sized_idle}

-- ---- plain lists

-- every number is up to b or above it
count_split : (b : ℕ) (l : List ℕ) → count_of (λ (z : ℕ). ltb z (b + 1)) l + count_of (λ (z : ℕ). ltb b z) l ≡ length l
unfolding count_of
count_split b [] = refl
count_split b (x ∷ l) =
    let r = count_split b l in
    ⊎_elim
    (λ (h : x ≤ b).
    let p : ◌≡◌ {A = ℕ} (cond (ltb x (b + 1)) 1 0) 1 = rw (lt-ltb x (b + 1) (omega arith)) in
    let q : ◌≡◌ {A = ℕ} (cond (ltb b x) 1 0) 0 = rw (le-ltb b x h) in
    omega arith)
    (λ (h : b < x).
    let p : ◌≡◌ {A = ℕ} (cond (ltb x (b + 1)) 1 0) 0 = rw (le-ltb x (b + 1) (omega arith)) in
    let q : ◌≡◌ {A = ℕ} (cond (ltb b x) 1 0) 1 = rw (lt-ltb b x h) in
    omega arith)
    (le_or_lt x b)

-- those up to b come first in an ascending list
first_below : (b : ℕ) (l : List ℕ) → Ascending l → (k : ℕ) → k < count_of (λ (z : ℕ). ltb z b) l → get_or l k 0 < b
first_below b l a k h =
    let t : ℕ → Bool = λ (i : ℕ). ltb (get_or l i 0) b in
    let falls : Falling t (length l) =
    (λ i j p m e.
    let u = ltb-true (get_or l j 0) b e in
    ⊎_elim
    (λ (q : i ≡ j). ap t q ∙ e)
    (λ (q : i < j). let v = ascending_at l a i j q m in lt-ltb (get_or l i 0) b (omega arith))
    (eq-or-lt_of_le p)) in
    let c = count_index (λ (z : ℕ). ltb z b) l in
    ltb-true (get_or l k 0) b ((falling_count t (length l) falls).below k (omega arith))

-- lists whose first n are empty have no posting there
no_postings : (n : ℕ) (ls : List (List ℕ)) → ((k : ℕ) → k < n → get_or ls k [] ≡ []) → sum_of (map length (take n ls)) ≡ 0
unfolding sum_of
no_postings zero ls h = refl
no_postings (suc n) [] h = refl
no_postings (suc n) (l ∷ ls) h =
    let e : length l ≡ 0 = ap length (h 0 (omega arith)) in
    let r = no_postings n ls (λ k p. h (suc k) (omega arith)) in
    omega arith

-- ---- one size

module _ (w : List ℕ) (y : ℕ) (f : List ℕ) (a : Asked f) (t : ℕ) (some : 1 ≤ t) (most : t ≤ length f) (few : filled_of w y f (length f) < t) where
  short : length f ≤ 255
  short = let h = a.few in omega arith

  keys : List ℕ
  keys = small_keys w y f (asked_query f a) short

  -- the keys above 255 are those of lists with ids
  filled : count_of (λ (z : ℕ). ltb 255 z) keys ≡ filled_of w y f (length f)
  unfolding keys filled_of
  filled =
      count_sort (λ (z : ℕ). ltb 255 z) (tabulate (small_key w y (sort_of f)) (length f))
      ∙ count_index (λ (z : ℕ). ltb 255 z) (tabulate (small_key w y (sort_of f)) (length f))
      ∙ ap (λ (n : ℕ). count_below n (λ (i : ℕ). ltb 255 (get_or (tabulate (small_key w y (sort_of f)) (length f)) i 0))) (length_tabulate (small_key w y (sort_of f)) (length f))
      ∙ sum_below_ext (length f) (λ (i : ℕ). cond (ltb 255 (get_or (tabulate (small_key w y (sort_of f)) (length f)) i 0)) 1 0) (λ (i : ℕ). cond (ltb 255 (small_key w y f i)) 1 0)
      (λ i h.
      ap (λ (z : ℕ). cond (ltb 255 z) 1 0)
      (get_d_tabulate (small_key w y (sort_of f)) (length f) i 0 h ∙ ap (λ (g : List ℕ). small_key w y g i) (asked_sorted f a)))

  -- so the signature lists are empty
  empty : (k : ℕ) → k < signatures (length (lists_for w y f)) t → get_or (lists_for w y f) k [] ≡ []
  unfolding keys
  empty k h =
      let n = length_lists w y f in
      let x = length_small w y f (asked_query f a) short in
      let c = count_split 255 keys in
      let e = filled in
      let q = first_below 256 keys (small_ascending w y f (asked_query f a) short) k (omega arith) in
      let v = kth_key w y f (asked_query f a) short k (omega arith) in
      let z = v.2 in
      v.1 ∙ length_nil (list_in w y (get_or (sort_of f) (get_or keys k 0 % 256) 0)) (omega arith)

  gone : (d id : ℕ) → remains (lists_for w y f) t d id ≡ false
  gone d id = unmet (lists_for w y f) t id (no_holder (signatures (length (lists_for w y f)) t) (lists_for w y f) id empty) d

  -- it costs nothing
  idle_touches : touches_at w y (lists_for w y f) t ≡ 0
  unfolding touches_at signature_postings remaining
  idle_touches =
      let ls : List (List ℕ) = lists_for w y f in
      let p = no_postings (signatures (length ls) t) ls empty in
      let l = sum_below_most (later_count ls t) 0 (remaining w y ls t)
      (λ d h.
      let r = sum_below_most (name_count w) 0 (λ (i : ℕ). cond (eqb (name_size w i) y && remains ls t d (name_id w i)) 1 0)
      (λ i k.
      let z : ◌≡◌ {A = ℕ} (cond (eqb (name_size w i) y && remains ls t d (name_id w i)) 1 0) 0 =
      ap (λ (b : Bool). cond b 1 0) (and_false_right (eqb (name_size w i) y) (remains ls t d (name_id w i)) (gone d (name_id w i))) in
      omega arith) in
      omega arith) in
      omega arith

  -- and has no answer
  idle_answers : (before : List ℕ) → length before ≡ most_names
      → before ≡ kept (remain_table (ids_in w) (lists_for w y f) t (later_count (lists_for w y f) t)) before
  unfolding kept remain_table remains_at
  idle_answers before e =
      let ls : List (List ℕ) = lists_for w y f in
      let d : ℕ = later_count ls t in
      let at : ℕ → ℕ = λ (i : ℕ). cond (ltb i (length (ids_in w)) && remains ls t d (get_or (ids_in w) i 0)) (held_by (take (signatures (length ls) t + d) ls) (get_or (ids_in w) i 0)) 0 in
      sym (tabulate_self before most_names e)
      ∙ tabulate_ext (λ (i : ℕ). get_or before i 0) (λ (i : ℕ). cond (leb 1 (get_or (tabulate at most_names) i 0)) (get_or (tabulate at most_names) i 0) (get_or before i 0)) most_names
      (λ i h.
      let z : get_or (tabulate at most_names) i 0 ≡ 0 =
      get_d_tabulate at most_names i 0 h
      ∙ ap (λ (b : Bool). cond b (held_by (take (signatures (length ls) t + d) ls) (get_or (ids_in w) i 0)) 0)
      (and_false_right (ltb i (length (ids_in w))) (remains ls t d (get_or (ids_in w) i 0)) (gone d (get_or (ids_in w) i 0))) in
      sym (ap (λ (v : ℕ). cond (leb 1 v) v (get_or before i 0)) z))

  pub sized_short : (budget : ℕ) (before counts : List ℕ) → length before ≡ most_names → counts ≡ no_counts → Sized w y f t budget before before counts false 0
  unfolding touches_for answers_for
  sized_short budget before counts n clear =
      sized_idle w y f t budget before counts (rw (le-leb 1 t some) idle_touches) (rw (le-leb 1 t some) (idle_answers before n)) clear
