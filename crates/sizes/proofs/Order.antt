-- The order in which the code takes the lists of a size is the method's: small keys sorted, by length and by place among the sorted
-- features, stand as the features do by length and by feature number. Cited by Size.antt and EmptySignatures.antt.
-- Assumes nothing.
use mathlib.Core.Path.{◌≡◌, refl, sym, ap, ap₂, ◌∙◌}
use mathlib.Core.Logic.{⊎_elim}
use mathlib.Core.Bool.{true}
use mathlib.Core.List.{List, [], map}
use Prim.Native.Nat.{ℕ, ◌+◌, ◌*◌, ◌/◌, ◌%◌, ◌≤◌, ◌<◌}
use native.Mathlib.Omega.{arith}
use lib.ListN.{length, get_or, length-map}
use Rattle.laws.specs.Lists.{member, Distinct, Ascending, tabulate}
use Rattle.laws.specs.Sort.{sort_of}
use Rattle.laws.proofs.Tests.{same_test}
use Rattle.laws.proofs.Lists.{length_tabulate, get_d_tabulate, distinct_tabulate}
use Rattle.laws.proofs.Order.{le_or_lt}
use Rattle.laws.proofs.Members.{member_at, member_place, member_map, member_map_place, distinct_map, each_member}
use Rattle.laws.proofs.Sort.{ascending_sort, ascending_unique, member_sort, length_sort}
use Rattle.laws.proofs.Images.{get_d_map_lt, ascending_map_on}
use Rattle.laws.proofs.Ascending.{ascending_at}
use Rattle.words.specs.Words.{feature_span, key_of}
use Rattle.lists.specs.Lists.{list_in}
use Rattle.sizes.specs.Method.{ordered_for, lists_for}
use Rattle.sizes.specs.Tables.{small_key}
use Rattle.sizes.proofs.Laws.{Query}

-- ---- plain lists

-- a value of a table has its place
tabulate_place : (f : ℕ → ℕ) (n z : ℕ) → member z (tabulate f n) ≡ true → (j : ℕ) × (j < n) × (f j ≡ z)
tabulate_place f n z m =
    let p = member_place z (tabulate f n) m in
    let h : p.0 < n = rw (length_tabulate f n) at p.1 in
    (p.0, h, sym (get_d_tabulate f n p.0 0 h) ∙ p.2)

tabulate_member : (f : ℕ → ℕ) (n j : ℕ) → j < n → member (f j) (tabulate f n) ≡ true
tabulate_member f n j h =
    rw (get_d_tabulate f n j 0 h) at (member_at (tabulate f n) j (rw (length_tabulate f n) h))

-- ---- the keys of one size

module _ (w : List ℕ) (y : ℕ) (query : List ℕ) (asked : Query query) (few : length query ≤ 255) where
  -- the features in ascending order
  abbrev sorted : List ℕ
  sorted = sort_of query

  -- the method's key of a feature
  abbrev key : ℕ → ℕ
  key f = key_of (length (list_in w y f)) f

  -- the method's key, from the code's
  abbrev large : ℕ → ℕ
  large k = key_of (k / 256) (get_or sorted (k % 256) 0)

  -- the code's keys in order
  abbrev pub small_keys : List ℕ
  small_keys = sort_of (tabulate (small_key w y sorted) (length query))

  small_feature : (f : ℕ) → member f query ≡ true → f < feature_span
  small_feature f m = each_member (λ (g : ℕ). g < feature_span) query asked.small f m

  sorted_member : (j : ℕ) → j < length query → member (get_or sorted j 0) query ≡ true
  sorted_member j h = sym (member_sort (get_or sorted j 0) query) ∙ member_at sorted j (rw (length_sort query) h)

  large_small : (j : ℕ) → j < length query → large (small_key w y sorted j) ≡ key (get_or sorted j 0)
  unfolding small_key
  large_small j h =
      let n : ℕ = length (list_in w y (get_or sorted j 0)) in
      let d : (n * 256 + j) / 256 ≡ n = omega arith in
      let r : (n * 256 + j) % 256 ≡ j = omega arith in
      ap₂ (λ (a b : ℕ). key_of a (get_or sorted b 0)) d r

  small_distinct : (i j : ℕ) → i < length query → j < length query → small_key w y sorted i ≡ small_key w y sorted j → i ≡ j
  unfolding small_key
  small_distinct i j hi hj e = omega arith

  -- a key of the code's is that of a place
  pub small_place : (k : ℕ) → member k small_keys ≡ true → (j : ℕ) × (j < length query) × (small_key w y sorted j ≡ k)
  small_place k m =
      tabulate_place (small_key w y sorted) (length query) k (sym (member_sort k (tabulate (small_key w y sorted) (length query))) ∙ m)

  -- the code's keys are all different
  small_keys_distinct : Distinct (tabulate (small_key w y sorted) (length query))
  small_keys_distinct =
      distinct_tabulate (small_key w y sorted) (length query)
      (λ i j l h e. let q = small_distinct i j (omega arith) h e in omega arith)

  pub small_ascending : Ascending small_keys
  small_ascending = ascending_sort (tabulate (small_key w y sorted) (length query)) small_keys_distinct

  large_rises : (a b : ℕ) → member a small_keys ≡ true → member b small_keys ≡ true → a < b → large a < large b
  large_rises a b m n h =
      let p = small_place a m in
      let q = small_place b n in
      by_places p.0 q.0 p.1 q.1 a b p.2 q.2 h
    where
      by_places : (i j : ℕ) → i < length query → j < length query → (a b : ℕ) → small_key w y sorted i ≡ a → small_key w y sorted j ≡ b → a < b → large a < large b
      by_places i j hi hj a b ea eb h =
          let fa = small_feature (get_or sorted i 0) (sorted_member i hi) in
          let fb = small_feature (get_or sorted j 0) (sorted_member j hj) in
          let la = ap large (sym ea) ∙ large_small i hi in
          let lb = ap large (sym eb) ∙ large_small j hj in
          let ua : small_key w y sorted i ≡ length (list_in w y (get_or sorted i 0)) * 256 + i = unfold small_key in refl in
          let ub : small_key w y sorted j ≡ length (list_in w y (get_or sorted j 0)) * 256 + j = unfold small_key in refl in
          ⊎_elim
          (λ (c : j ≤ i). omega arith)
          (λ (c : i < j).
          let r = ascending_at sorted (ascending_sort query asked.distinct) i j c (rw (length_sort query) hj) in
          omega arith)
          (le_or_lt j i)

  keys_distinct : Distinct (map key query)
  keys_distinct =
      distinct_map key query asked.distinct
      (λ f g m n e. let a = small_feature f m in let b = small_feature g n in omega arith)

  -- the method's keys in order are the code's, made large
  pub keys_order : sort_of (map key query) ≡ map large small_keys
  keys_order =
      ascending_unique (sort_of (map key query)) (map large small_keys)
      (ascending_sort (map key query) keys_distinct)
      (ascending_map_on large small_keys large_rises small_ascending)
      (λ z. member_sort z (map key query) ∙ same_test (member z (map key query)) (member z (map large small_keys)) (there z) (back z))
    where
      there : (z : ℕ) → member z (map key query) ≡ true → member z (map large small_keys) ≡ true
      there z m =
          let p = member_map_place key z query m in
          let q = member_place p.0 sorted (member_sort p.0 query ∙ p.1) in
          let h : q.0 < length query = rw (length_sort query) at q.1 in
          let k : ℕ = small_key w y sorted q.0 in
          let e : large k ≡ z = large_small q.0 h ∙ ap key q.2 ∙ p.2 in
          rw e at (member_map large k small_keys (member_sort k (tabulate (small_key w y sorted) (length query)) ∙ tabulate_member (small_key w y sorted) (length query) q.0 h))

      back : (z : ℕ) → member z (map large small_keys) ≡ true → member z (map key query) ≡ true
      back z m =
          let p = member_map_place large z small_keys m in
          let q = small_place p.0 p.1 in
          let e : key (get_or sorted q.0 0) ≡ z = sym (large_small q.0 q.1) ∙ ap large q.2 ∙ p.2 in
          rw e at (member_map key (get_or sorted q.0 0) query (sorted_member q.0 q.1))

  pub length_small : length small_keys ≡ length query
  length_small = length_sort (tabulate (small_key w y sorted) (length query)) ∙ length_tabulate (small_key w y sorted) (length query)

  -- the k-th key in order: the place of a feature, whose list is the k-th of the method's, and that list's length
  pub kth_key : (k : ℕ) → k < length query
      → (get_or small_keys k 0 % 256 < length query)
      × (get_or (lists_for w y query) k [] ≡ list_in w y (get_or sorted (get_or small_keys k 0 % 256) 0))
      × (get_or small_keys k 0 / 256 ≡ length (list_in w y (get_or sorted (get_or small_keys k 0 % 256) 0)))
  unfolding lists_for ordered_for
  kth_key k h =
      let z : ℕ = get_or small_keys k 0 in
      let p = small_place z (member_at small_keys k (rw length_small h)) in
      let u : small_key w y sorted p.0 ≡ length (list_in w y (get_or sorted p.0 0)) * 256 + p.0 = unfold small_key in refl in
      let e = p.2 in
      let l = p.1 in
      let r : z % 256 ≡ p.0 = omega arith in
      let d : z / 256 ≡ length (list_in w y (get_or sorted p.0 0)) = omega arith in
      let s = small_feature (get_or sorted p.0 0) (sorted_member p.0 l) in
      let n : length (map large small_keys) ≡ length query = length-map small_keys large ∙ length_small in
      let f : get_or (map (λ (q : ℕ). q % feature_span) (sort_of (map key query))) k 0 ≡ get_or sorted p.0 0 =
      ap (λ (q : List ℕ). get_or (map (λ (v : ℕ). v % feature_span) q) k 0) keys_order
      ∙ get_d_map_lt (λ (v : ℕ). v % feature_span) (map large small_keys) k 0 0 (rw n h)
      ∙ ap (λ (v : ℕ). v % feature_span) (get_d_map_lt large small_keys k 0 0 (rw length_small h) ∙ ap large (sym e) ∙ large_small p.0 l)
      ∙ (let q : key (get_or sorted p.0 0) % feature_span ≡ get_or sorted p.0 0 = omega arith in q)
      in
      let m : length (map (λ (q : ℕ). q % feature_span) (sort_of (map key query))) ≡ length query =
      length-map (sort_of (map key query)) (λ (q : ℕ). q % feature_span) ∙ length_sort (map key query) ∙ length-map query key
      in (
        omega arith,
        get_d_map_lt (list_in w y) (map (λ (q : ℕ). q % feature_span) (sort_of (map key query))) k 0 [] (rw m h)
            ∙ ap (list_in w y) (f ∙ ap (λ (v : ℕ). get_or sorted v 0) (sym r)),
        d ∙ ap (λ (v : ℕ). length (list_in w y (get_or sorted v 0))) (sym r),
      )
