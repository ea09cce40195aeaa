-- The whole search, as the code has it, is the method's: sorted features change nothing, and the answers' table holds the rows.
-- Cited by the proofs of `sorted_features` and, in Running.antt, of `run`, and by `statements`.
-- Assumes nothing.
use mathlib.Core.Path.{◌≡◌, refl, sym, ap, ap₂, ◌∙◌}
use mathlib.Core.Logic.{◌⊎◌, ⊎_elim}
use mathlib.Core.Bool.{Bool, true, false, cond, true≢false}
use mathlib.Core.List.{List, [], ◌∷◌, ◌++◌, map}
use Prim.Native.Nat.{ℕ, ◌+◌, ◌-◌, ◌%◌, ◌≤◌, ◌<◌}
use native.Mathlib.Omega.{arith}
use lib.ListN.{length, get_or, take, drop, replicate, length-append, length-replicate}
use lib.Seq.{take-append_seam, drop-append_seam}
use lib.Dec.{leb}
use borrow.Author.Tests.{le-leb, lt-ltb}
use Rattle.laws.specs.Sort.{insert, sort_of}
use Rattle.laws.proofs.Lists.{get_d_tabulate}
use Rattle.laws.proofs.Below.{sum_below_ext}
use Rattle.laws.proofs.Passing.{passing_ext, image_ext}
use Rattle.laws.proofs.Members.{each_of, each_member, each_members}
use Rattle.laws.proofs.Order.{le_or_lt, eq_or_ne}
use Rattle.laws.proofs.Sort.{insert_nil, sort_nil, sort_cons, insert_met, insert_passed, insert_swap, length_sort, member_sort, ascending_sort}
use Rattle.likeness.specs.Measures.{good_measure, good_threshold, is_similar}
use Rattle.likeness.proofs.Measures.{similar_none}
use Rattle.names.specs.Names.{judge_of}
use Rattle.names.specs.Features.{most_features, characters, features_of}
use Rattle.names.specs.Set.{filled}
use Rattle.names.specs.declared.FeatureSet.{FeatureSet}
use Rattle.names.proofs.Laws.{size_within, size_most, distinct_features, feature_fits}
use Rattle.words.specs.Words.{name_count, name_size, feature_span, key_of}
use Rattle.index.specs.Good.{Good, most_names}
use Rattle.index.proofs.Laws.{good_name_within, good_names_most}
use Rattle.lists.specs.Lists.{list_in}
use Rattle.sizes.specs.Method.{ordered_for, lists_for, shared_with, sizes_end, touches_of_size, touches_of, listed, answers_of}
use Rattle.sizes.specs.Tables.{Asked, leasts_of, answered_at, answers_table}
use Rattle.search.specs.Places.{places_in}
use Rattle.sizes.proofs.Laws.{Query, listed_similar}
use Rattle.sizes.proofs.Size.{asked_query}
use Rattle.sizes.proofs.Leasts.{listed_leasts}

-- ---- sorted features change nothing

sort_image_insert : (g : ℕ → ℕ) (x : ℕ) (l : List ℕ) → sort_of (map g (insert x l)) ≡ insert (g x) (sort_of (map g l))
sort_image_insert g x [] = ap (λ (r : List ℕ). sort_of (map g r)) (insert_nil x) ∙ sort_cons (g x) []
sort_image_insert g x (y ∷ l) = by_order (le_or_lt x y) (sort_image_insert g x l)
  where
    by_order : (x ≤ y) ⊎ (y < x) → sort_of (map g (insert x l)) ≡ insert (g x) (sort_of (map g l)) → sort_of (map g (insert x (y ∷ l))) ≡ insert (g x) (sort_of (g y ∷ map g l))
    by_order c h =
        ⊎_elim
        (λ (o : x ≤ y). ap (λ (r : List ℕ). sort_of (map g r)) (insert_met x y l o) ∙ sort_cons (g x) (g y ∷ map g l))
        (λ (o : y < x).
        ap (λ (r : List ℕ). sort_of (map g r)) (insert_passed x y l o)
        ∙ sort_cons (g y) (map g (insert x l))
        ∙ ap (insert (g y)) h
        ∙ insert_swap (g y) (g x) (sort_of (map g l))
        ∙ ap (insert (g x)) (sym (sort_cons (g y) (map g l))))
        c

sort_image : (g : ℕ → ℕ) (l : List ℕ) → sort_of (map g (sort_of l)) ≡ sort_of (map g l)
sort_image g [] = ap (λ (r : List ℕ). sort_of (map g r)) sort_nil
sort_image g (x ∷ l) =
    ap (λ (r : List ℕ). sort_of (map g r)) (sort_cons x l)
    ∙ sort_image_insert g x (sort_of l)
    ∙ ap (insert (g x)) (sort_image g l)
    ∙ sym (sort_cons (g x) (map g l))

pub lists_sorted : (w : List ℕ) (y : ℕ) (f : List ℕ) → lists_for w y (sort_of f) ≡ lists_for w y f
unfolding lists_for ordered_for
lists_sorted w y f =
    ap (λ (k : List ℕ). map (list_in w y) (map (λ (n : ℕ). n % feature_span) k)) (sort_image (λ (g : ℕ). key_of (length (list_in w y g)) g) f)

pub shared_sorted : (w f : List ℕ) (i : ℕ) → shared_with w (sort_of f) i ≡ shared_with w f i
unfolding shared_with
shared_sorted w f i = rw (lists_sorted w (name_size w i) f)

module _ (w : List ℕ) (m p q : ℕ) (f : List ℕ) where
  size_sorted : (y : ℕ) → touches_of_size w m p q (sort_of f) y ≡ touches_of_size w m p q f y
  unfolding touches_of_size
  size_sorted y = rw (lists_sorted w y f, length_sort f)

  pub touches_sorted : touches_of w m p q (sort_of f) ≡ touches_of w m p q f
  unfolding touches_of
  touches_sorted = sum_below_ext sizes_end (touches_of_size w m p q (sort_of f)) (touches_of_size w m p q f) (λ y h. size_sorted y)

  pub listed_sorted : (i : ℕ) → listed w m p q (sort_of f) i ≡ listed w m p q f i
  unfolding listed
  listed_sorted i = rw (lists_sorted w (name_size w i) f, length_sort f)

  pub answers_sorted : answers_of w m p q (sort_of f) ≡ answers_of w m p q f
  unfolding answers_of
  answers_sorted = passing_ext (name_count w) (listed w m p q (sort_of f)) (listed w m p q f) (λ i h. listed_sorted i)

-- a query's features, sorted, are features as the code has them
asked_of : (f : List ℕ) → Query f → length f ≤ most_features → Asked (sort_of f)
asked_of f q h =
    record {
      some = rw (length_sort f) q.some;
      few = rw (length_sort f) h;
      rising = ascending_sort f q.distinct;
      small = each_members (λ (g : ℕ). g < feature_span) (sort_of f) (λ x e. each_member (λ (g : ℕ). g < feature_span) f q.small x (sym (member_sort x f) ∙ e));
    }

-- ---- the answers' table holds the rows

module _ (w : List ℕ) (good : Good w) (m p q : ℕ) (known : good_measure m ≡ true) (exact : good_threshold p q ≡ true) (f : List ℕ) (a : Asked f) where
  -- an answer shares something
  answer_shares : (i : ℕ) → i < name_count w → listed w m p q f i ≡ true → 1 ≤ shared_with w f i
  answer_shares i h e =
      let s = a.some in
      let g = good_name_within w good i h in
      let y = g.1 in
      let l = listed_similar w good m p q known exact f (asked_query f a) i h in
      ⊎_elim
      (λ (z : shared_with w f i ≡ 0).
      absurd (true≢false (sym e ∙ l ∙ ap (is_similar m p q (length f) (name_size w i)) z ∙ similar_none m p q (length f) (name_size w i) (omega arith) (omega arith))))
      (λ (z : shared_with w f i ≡ 0 → ⊥). omega arith)
      (eq_or_ne (shared_with w f i) 0)

  -- the table after all sizes, by the least counts of the query
  abbrev table : List ℕ
  table = answers_table w (leasts_of w m p q (length f)) f sizes_end

  answer_at : (i : ℕ) → i < name_count w → get_or table i 0 ≡ cond (listed w m p q f i) (shared_with w f i) 0
  unfolding answers_table answered_at
  answer_at i h =
      let n = good_names_most w good in
      let g = good_name_within w good i h in
      let y = g.2 in
      get_d_tabulate (λ (j : ℕ). cond (answered_at w (leasts_of w m p q (length f)) f sizes_end j) (shared_with w f j) 0) most_names i 0 (omega arith)
      ∙ (rw (lt-ltb i (name_count w) h, lt-ltb (name_size w i) sizes_end (omega arith), listed_leasts w good m p q f i h))

  listed_at : (i : ℕ) → i < name_count w → leb 1 (get_or table i 0) ≡ listed w m p q f i
  listed_at i h = ap (leb 1) (answer_at i h) ∙ by_test (listed w m p q f i) refl
    where
      by_test : (b : Bool) → listed w m p q f i ≡ b → leb 1 (cond b (shared_with w f i) 0) ≡ b
      by_test true e = le-leb 1 (shared_with w f i) (answer_shares i h e)
      by_test false e = refl

  pub places_answers : places_in table (name_count w) ≡ answers_of w m p q f
  unfolding places_in answers_of
  places_answers = passing_ext (name_count w) (λ (i : ℕ). leb 1 (get_or table i 0)) (listed w m p q f) listed_at

  -- columns that agree at each answer
  pub column_answers : (g h : ℕ → ℕ) → ((i : ℕ) → i < name_count w → listed w m p q f i ≡ true → g i ≡ h i)
      → map g (answers_of w m p q f) ≡ map h (answers_of w m p q f)
  unfolding answers_of
  column_answers g h e = image_ext (listed w m p q f) g (name_count w) h e

  pub shared_column : map (λ (i : ℕ). get_or table i 0) (answers_of w m p q f) ≡ map (shared_with w f) (answers_of w m p q f)
  shared_column = column_answers (λ (i : ℕ). get_or table i 0) (shared_with w f) (λ i h e. answer_at i h ∙ (rw e))

-- ---- the query's features in the set

pub filled_facts : (r : FeatureSet) (f : List ℕ) → r ≡ filled f → length f ≤ most_features
    → (r.len ≡ length f) × (take r.len r.items ≡ f) × (length r.items ≡ most_features)
filled_facts r f e h =
    let n : r.len ≡ length f = ap (λ (s : FeatureSet). s.len) e in
    let i : r.items ≡ f ++ replicate (most_features - length f) 0 = ap (λ (s : FeatureSet). s.items) e in (
      n,
      ap₂ (λ (k : ℕ) (l : List ℕ). take k l) n i ∙ take-append_seam f (replicate (most_features - length f) 0),
      ap length i ∙ length-append f (replicate (most_features - length f) 0) ∙ (let z = length-replicate {A = ℕ} (most_features - length f) 0 in let q : length f + length {A = ℕ} (replicate (most_features - length f) 0) ≡ most_features = omega arith in q),
    )

-- sorted in front, it is the set of the sorted features
pub filled_sorted : (r : FeatureSet) (f t : List ℕ) → r ≡ filled f → t ≡ sort_of (take r.len r.items)
    → record { items = t ++ drop r.len r.items; len = r.len } ≡ filled (sort_of f)
filled_sorted r f t e s =
    let zeros : List ℕ = replicate (most_features - length f) 0 in
    let n : r.len ≡ length f = ap (λ (x : FeatureSet). x.len) e in
    let i : r.items ≡ f ++ zeros = ap (λ (x : FeatureSet). x.items) e in
    let front : t ≡ sort_of f = s ∙ ap sort_of (ap₂ (λ (k : ℕ) (l : List ℕ). take k l) n i ∙ take-append_seam f zeros) in
    let rest : drop r.len r.items ≡ zeros = ap₂ (λ (k : ℕ) (l : List ℕ). drop k l) n i ∙ drop-append_seam f zeros in
    let same : length f ≡ length (sort_of f) = sym (length_sort f) in
    λ k. record {
      items = ap₂ (λ (a b : List ℕ). a ++ b) front (rest ∙ ap (λ (m : ℕ). replicate (most_features - m) 0) same) k;
      len = (n ∙ same) k;
    }

-- a good query, as the laws ask it
pub query_features : (s : List ℕ) → judge_of s ≡ 0 → ((j : ℕ) → get_or s j 0 < characters) → Query (features_of s)
query_features s g b =
    record {
      some = (let h = (size_within s g).0 in omega arith);
      distinct = distinct_features s;
      small = each_of (λ (f : ℕ). f < feature_span) (features_of s) 0 (λ i h. feature_fits s b i);
    }

-- and its features sorted, as the code has them
pub features_asked : (s : List ℕ) → judge_of s ≡ 0 → ((j : ℕ) → get_or s j 0 < characters) → Asked (sort_of (features_of s))
features_asked s g b = asked_of (features_of s) (query_features s g b) (size_most s)
