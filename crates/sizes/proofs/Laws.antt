-- What the search lists, and what it costs: the method joined to the measures, over a good index. Restated in `statements`.
-- Assumes nothing.
use mathlib.Core.Path.{◌≡◌, refl, sym, ap, ap₂, ◌∙◌}
use mathlib.Core.Bool.{Bool, true, false, cond, ◌&&◌}
use mathlib.Core.List.{List, [], ◌∷◌, map}
use Prim.Native.Nat.{ℕ, ◌+◌, ◌%◌, ◌≤◌, ◌<◌}
use native.Mathlib.Omega.{arith}
use lib.ListN.{length, length-map}
use Rattle.laws.specs.Lists.{member, Distinct, count_of}
use Rattle.laws.specs.Each.{Each}
use Rattle.laws.specs.Sort.{sort_of}
use Rattle.laws.proofs.Lists.{count_le}
use Rattle.laws.proofs.Images.{count_map}
use Rattle.laws.proofs.Sort.{count_sort, length_sort}
use Rattle.likeness.specs.Measures.{good_measure, good_threshold, is_similar}
use Rattle.likeness.specs.Sizes.{is_searched}
use Rattle.likeness.specs.Least.{least_count}
use Rattle.likeness.proofs.Sizes.{skipped_none}
use Rattle.likeness.proofs.Least.{least_pos, least_within, similar_least}
use Rattle.words.specs.Words.{name_count, name_id, name_size, feature_span, key_of}
use Rattle.index.specs.Good.{Good}
use Rattle.index.proofs.Laws.{good_name_within}
use Rattle.lists.specs.Lists.{list_in}
use Rattle.lists.proofs.Laws.{held_le_size}
use Rattle.candidates.specs.Method.{held_by, remains, later_count}
use Rattle.candidates.proofs.Candidates.{remains_end}
use Rattle.sizes.specs.Method.{ordered_for, lists_for, shared_with, listed}

-- ---- the order of the query's features changes no count

-- a feature is told from its key
feature_of : (n f : ℕ) → f < feature_span → key_of n f % feature_span ≡ f
feature_of n f h = omega arith

count_features : (t : ℕ → Bool) (n : ℕ → ℕ) (q : List ℕ) → Each (λ (f : ℕ). f < feature_span) q
    → count_of (λ (f : ℕ). t (key_of (n f) f % feature_span)) q ≡ count_of t q
unfolding count_of Each
count_features t n [] b = refl
count_features t n (f ∷ q) b =
    ap₂ (λ (x c : ℕ). cond (t x) 1 0 + c) (feature_of (n f) f b.0) (count_features t n q b.1)

-- the ordered features are the query's, each as often
pub count_ordered : (w : List ℕ) (y : ℕ) (query : List ℕ) (t : ℕ → Bool) → Each (λ (f : ℕ). f < feature_span) query
    → count_of t (ordered_for w y query) ≡ count_of t query
unfolding ordered_for
count_ordered w y query t b =
    let key : ℕ → ℕ = λ (f : ℕ). key_of (length (list_in w y f)) f in
    count_map t (λ (k : ℕ). k % feature_span) (sort_of (map key query))
    ∙ count_sort (λ (k : ℕ). t (k % feature_span)) (map key query)
    ∙ count_map (λ (k : ℕ). t (k % feature_span)) key query
    ∙ count_features t (λ (f : ℕ). length (list_in w y f)) query b

pub length_ordered : (w : List ℕ) (y : ℕ) (query : List ℕ) → length (ordered_for w y query) ≡ length query
unfolding ordered_for
length_ordered w y query =
    length-map (sort_of (map (λ (f : ℕ). key_of (length (list_in w y f)) f) query)) (λ (k : ℕ). k % feature_span)
    ∙ length_sort (map (λ (f : ℕ). key_of (length (list_in w y f)) f) query)
    ∙ length-map query (λ (f : ℕ). key_of (length (list_in w y f)) f)

pub length_lists : (w : List ℕ) (y : ℕ) (query : List ℕ) → length (lists_for w y query) ≡ length query
unfolding lists_for
length_lists w y query = length-map (ordered_for w y query) (list_in w y) ∙ length_ordered w y query

-- the lists that hold an id are as many as the query's features whose lists hold it
pub held_features : (w : List ℕ) (y : ℕ) (query : List ℕ) (id : ℕ) → Each (λ (f : ℕ). f < feature_span) query
    → held_by (lists_for w y query) id ≡ count_of (λ (f : ℕ). member id (list_in w y f)) query
unfolding held_by lists_for
held_features w y query id b =
    count_map (λ (l : List ℕ). member id l) (list_in w y) (ordered_for w y query)
    ∙ count_ordered w y query (λ (f : ℕ). member id (list_in w y f)) b

-- ---- listed exactly if similar

-- a query as `features_of` gives it: some features, all different, each below the span
pub record Query (query : List ℕ) : Type 0 where
  pub some : 1 ≤ length query
  pub distinct : Distinct query
  pub small : Each (λ (f : ℕ). f < feature_span) query

module _ (w : List ℕ) (good : Good w) (m p q : ℕ) (known : good_measure m ≡ true) (exact : good_threshold p q ≡ true) (query : List ℕ)
    (asked : Query query) (i : ℕ) (there : i < name_count w) where
  -- the shared features are at most the query's and at most the name's
  pub shared_le_query : shared_with w query i ≤ length query
  unfolding shared_with held_by
  shared_le_query =
      let h = count_le (λ (l : List ℕ). member (name_id w i) l) (lists_for w (name_size w i) query) in
      let n = length_lists w (name_size w i) query in
      omega arith

  pub shared_le_size : shared_with w query i ≤ name_size w i
  unfolding shared_with
  shared_le_size =
      rw (held_features w (name_size w i) query (name_id w i) asked.small)
      (held_le_size w good i there query asked.distinct)

  -- an answer is listed exactly if its similarity reaches the threshold
  pub listed_similar : listed w m p q query i ≡ is_similar m p q (length query) (name_size w i) (shared_with w query i)
  unfolding listed
  listed_similar = by_size (is_searched m p q (length query) (name_size w i)) refl
    where
      y_pos : 0 < name_size w i
      y_pos = let h = good_name_within w good i there in let k = h.1 in omega arith

      by_size : (b : Bool) → is_searched m p q (length query) (name_size w i) ≡ b
          → b && remains (lists_for w (name_size w i) query) (least_count m p q (length query) (name_size w i)) (later_count (lists_for w (name_size w i) query) (least_count m p q (length query) (name_size w i))) (name_id w i)
          ≡ is_similar m p q (length query) (name_size w i) (shared_with w query i)
      by_size true e =
          let n = length_lists w (name_size w i) query in
          let some = asked.some in
          let low = least_pos m p q (length query) (name_size w i) known exact in
          let high = least_within m p q (length query) (name_size w i) (omega arith) y_pos e in
          remains_end (lists_for w (name_size w i) query) (least_count m p q (length query) (name_size w i)) low (omega arith) (name_id w i)
          ∙ sym (similar_least m p q (length query) (name_size w i) known exact (held_by (lists_for w (name_size w i) query) (name_id w i)) (omega arith) y_pos)
          ∙ ap (is_similar m p q (length query) (name_size w i)) (unfold shared_with in refl)
      by_size false e =
          let some = asked.some in
          let a = shared_le_query in
          let b = shared_le_size in
          sym (skipped_none m p q (length query) (name_size w i) (shared_with w query i) (omega arith) y_pos e (omega arith))
