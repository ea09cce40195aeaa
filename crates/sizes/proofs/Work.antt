-- What a search costs, at most: S + C·(t − 1) a size, x times the names of the size, 51,712 in all; and S is the least that
-- x − t + 1 features can have. Restated in `statements`.
-- Assumes nothing.
use mathlib.Core.Path.{◌≡◌, refl, sym, ap, ap₂, ◌∙◌}
use mathlib.Core.Logic.{◌⊎◌, ⊎_elim}
use mathlib.Core.Bool.{Bool, true, false, cond, ◌&&◌}
use mathlib.Core.List.{List, [], ◌∷◌, map}
use Prim.Native.Nat.{ℕ, zero, suc, ◌+◌, ◌-◌, ◌*◌, ◌/◌, ◌%◌, ◌≤◌, ◌<◌}
use native.Mathlib.Nat.{mul-le-mul, mul-le-mul_left, mul-le-mul_right, mul_comm, mul-one, mul-zero, suc-mul, add-mul}
use native.Mathlib.Omega.{arith}
use lib.ListN.{length, take}
use lib.Seq.{length-take-le}
use lib.Dec.{eqb}
use borrow.Author.Tests.{eq-eqb, ne_eqb}
use Rattle.laws.specs.Lists.{member, Distinct, count_of, sum_of}
use Rattle.laws.specs.Each.{Each}
use Rattle.laws.specs.Below.{sum_below, count_below}
use Rattle.laws.specs.Filter.{filter_of}
use Rattle.laws.specs.Sort.{sort_of}
use Rattle.laws.proofs.Members.{member_head, member_tail, member_map_place, each_member, each_members}
use Rattle.laws.proofs.Images.{count_map}
use Rattle.laws.proofs.Sums.{sum_ext, sum_map, sum_filter, sum_sort, least_sum}
use Rattle.laws.proofs.Below.{and_left, and_both, and_false_right, count_below_mono, count_below_more, sum_below_le, sum_below_most, sum_below_swap, sum_below_times}
use Rattle.laws.proofs.Order.{eq_or_ne}
use Rattle.laws.proofs.Sort.{ascending_distinct, member_sort, sorted_sort}
use Rattle.laws.proofs.Tests.{and_parts}
use Rattle.likeness.specs.Measures.{good_measure, good_threshold}
use Rattle.likeness.specs.Sizes.{is_searched}
use Rattle.likeness.specs.Least.{least_count}
use Rattle.likeness.proofs.Least.{least_pos, least_within}
use Rattle.words.specs.Words.{name_count, name_id, name_size, feature_span, key_of}
use Rattle.index.specs.Good.{Good, most_postings}
use Rattle.index.proofs.Laws.{good_names_most, good_name_within}
use Rattle.lists.specs.Lists.{list_in}
use Rattle.lists.proofs.Laws.{good_ascending, good_named}
use Rattle.names.specs.Features.{most_features}
use Rattle.candidates.specs.Method.{signatures, signature_postings, remains, later_count}
use Rattle.candidates.proofs.Candidates.{remains_less}
use Rattle.sizes.specs.Method.{names_of, ordered_for, lists_for, remaining, touches_at, sizes_end, touches_of_size, touches_of}
use Rattle.sizes.proofs.Laws.{count_ordered, length_lists, Query}

-- ---- the names of one size

-- names of the size in a list
among : List ℕ → ℕ → List ℕ → ℕ → Bool
among w y l i = eqb (name_size w i) y && member (name_id w i) l

-- a list without repeats of names of the size is at most as long as they are many
named_length : (w : List ℕ) (y : ℕ) (l : List ℕ) → Distinct l
    → ((id : ℕ) → member id l ≡ true → (i : ℕ) × (i < name_count w) × (name_id w i ≡ id) × (name_size w i ≡ y))
    → length l ≤ count_below (name_count w) (among w y l)
unfolding Distinct among
named_length w y [] d h = omega arith
named_length w y (x ∷ l) d h =
    let r = named_length w y l d.1 (λ id m. h id (member_tail x id l m)) in
    let f = h x (member_head x l) in
    let s =
    count_below_more (name_count w) (among w y l) (among w y (x ∷ l))
    (λ i k e. let b = and_parts (eqb (name_size w i) y) (member (name_id w i) l) e in and_both (eqb (name_size w i) y) (member (name_id w i) (x ∷ l)) b.0 (member_tail x (name_id w i) l b.1))
    f.0 f.1
    (and_false_right (eqb (name_size w f.0) y) (member (name_id w f.0) l) (ap (λ (z : ℕ). member z l) f.2 ∙ d.0))
    (and_both (eqb (name_size w f.0) y) (member (name_id w f.0) (x ∷ l)) (eq-eqb (name_size w f.0) y f.3) (ap (λ (z : ℕ). member z (x ∷ l)) f.2 ∙ member_head x l))
    in
    omega arith

-- a list of a good index is at most as long as there are names of its size
pub list_length : (w : List ℕ) → Good w → (y f : ℕ) → length (list_in w y f) ≤ names_of w y
unfolding among
list_length w g y f =
    let a = named_length w y (list_in w y f) (ascending_distinct (list_in w y f) (good_ascending w g y f)) (good_named w g y f) in
    let b =
    count_below_mono (name_count w) (among w y (list_in w y f)) (λ (i : ℕ). eqb (name_size w i) y)
    (λ i k e. and_left (eqb (name_size w i) y) (member (name_id w i) (list_in w y f)) e)
    in
    omega arith

-- ---- the candidates only become fewer

fewer : (w : List ℕ) (y : ℕ) (ls : List (List ℕ)) (t d : ℕ) → remaining w y ls t (suc d) ≤ remaining w y ls t d
unfolding remaining
fewer w y ls t d =
    count_below_mono (name_count w) (λ (i : ℕ). eqb (name_size w i) y && remains ls t (suc d) (name_id w i)) (λ (i : ℕ). eqb (name_size w i) y && remains ls t d (name_id w i))
    (λ i k e.
    let b = and_parts (eqb (name_size w i) y) (remains ls t (suc d) (name_id w i)) e in
    and_both (eqb (name_size w i) y) (remains ls t d (name_id w i)) b.0 (remains_less ls t d (name_id w i) b.1))

pub remaining_less : (w : List ℕ) (y : ℕ) (ls : List (List ℕ)) (t d : ℕ) → remaining w y ls t d ≤ remaining w y ls t 0
remaining_less w y ls t zero = omega arith
remaining_less w y ls t (suc d) = let r = remaining_less w y ls t d in let s = fewer w y ls t d in omega arith

-- ---- one size

-- at most S + C·(t − 1)
pub touches_candidates : (w : List ℕ) (y : ℕ) (ls : List (List ℕ)) (t : ℕ) → 1 ≤ t → t ≤ length ls
    → touches_at w y ls t ≤ signature_postings ls t + remaining w y ls t 0 * (t - 1)
unfolding touches_at
touches_candidates w y ls t low high =
    let a = sum_below_most (later_count ls t) (remaining w y ls t 0) (remaining w y ls t) (λ d k. remaining_less w y ls t d) in
    let e : later_count ls t ≡ t - 1 = omega arith in
    let c = mul_comm (remaining w y ls t 0) (t - 1) in
    let f = ap (λ (n : ℕ). n * remaining w y ls t 0) e in
    omega arith

-- the postings of lists of at most n each
pub postings_most : (n : ℕ) (ls : List (List ℕ)) → Each (λ (l : List ℕ). length l ≤ n) ls → sum_of (map length ls) ≤ length ls * n
unfolding sum_of Each
postings_most n [] b = omega arith
postings_most n (l ∷ ls) b =
    let a = postings_most n ls b.1 in
    let c = b.0 in
    let e = suc-mul (length ls) n in
    omega arith

-- the lists of a good index at the size
lists_most : (w : List ℕ) → Good w → (y : ℕ) (fs : List ℕ) → Each (λ (l : List ℕ). length l ≤ names_of w y) (map (list_in w y) fs)
unfolding Each
lists_most w g y [] = tt
lists_most w g y (f ∷ fs) = (list_length w g y f, lists_most w g y fs)

each_take : {A : Type 0} (P : A → Type 0) (n : ℕ) (l : List A) → Each P l → Each P (take n l)
unfolding Each
each_take P zero l e = tt
each_take P (suc n) [] e = tt
each_take P (suc n) (x ∷ l) e = (e.0, each_take P n l e.1)

pub candidates_most : (w : List ℕ) (y : ℕ) (ls : List (List ℕ)) (t : ℕ) → remaining w y ls t 0 ≤ names_of w y
unfolding remaining
candidates_most w y ls t =
    count_below_mono (name_count w) (λ (i : ℕ). eqb (name_size w i) y && remains ls t 0 (name_id w i)) (λ (i : ℕ). eqb (name_size w i) y)
    (λ i k e. and_left (eqb (name_size w i) y) (remains ls t 0 (name_id w i)) e)

-- which is at most x times the names of the size
pub candidates_names : (w : List ℕ) → Good w → (y : ℕ) (query : List ℕ) (t : ℕ) → 1 ≤ t → t ≤ length query
    → signature_postings (lists_for w y query) t + remaining w y (lists_for w y query) t 0 * (t - 1) ≤ length query * names_of w y
unfolding signature_postings
candidates_names w g y query t low high =
    let ls : List (List ℕ) = lists_for w y query in
    let n : length ls ≡ length query = length_lists w y query in
    let c = candidates_most w y ls t in
    let s : ℕ = signatures (length ls) t in
    let k : length (take s ls) ≡ s = length-take-le s ls (omega arith) in
    let p = postings_most (names_of w y) (take s ls) (each_take (λ (l : List ℕ). length l ≤ names_of w y) s ls (lists_all w g y query)) in
    let q = ap (λ (z : ℕ). z * names_of w y) k in
    let m = mul-le-mul_right (t - 1) c in
    let e : s + (t - 1) ≡ length query = omega arith in
    let d = add-mul s (t - 1) (names_of w y) in
    let f = ap (λ (z : ℕ). z * names_of w y) e in
    let o = mul_comm (names_of w y) (t - 1) in
    omega arith
  where
    lists_all : (w : List ℕ) → Good w → (y : ℕ) (query : List ℕ) → Each (λ (l : List ℕ). length l ≤ names_of w y) (lists_for w y query)
    lists_all w g y query = unfold lists_for in (lists_most w g y (ordered_for w y query))

-- and so are the touches
pub touches_names : (w : List ℕ) → Good w → (y : ℕ) (query : List ℕ) (t : ℕ) → 1 ≤ t → t ≤ length query
    → touches_at w y (lists_for w y query) t ≤ length query * names_of w y
touches_names w g y query t low high =
    let n : length (lists_for w y query) ≡ length query = length_lists w y query in
    let a = touches_candidates w y (lists_for w y query) t low (omega arith) in
    let b = candidates_names w g y query t low high in
    omega arith

-- ---- all sizes

no_size : (n s : ℕ) → n ≤ s → sum_below n (λ (y : ℕ). cond (eqb s y) 1 0) ≡ 0
unfolding sum_below
no_size zero s h = refl
no_size (suc n) s h = rw (no_size n s (omega arith), ne_eqb s n (λ e. omega arith))

-- a name has one size
one_size : (n s : ℕ) → sum_below n (λ (y : ℕ). cond (eqb s y) 1 0) ≤ 1
unfolding sum_below
one_size zero s = omega arith
one_size (suc n) s = by_size (eq_or_ne s n) (one_size n s)
  where
    by_size : (s ≡ n) ⊎ (s ≡ n → ⊥) → sum_below n (λ (y : ℕ). cond (eqb s y) 1 0) ≤ 1 → sum_below n (λ (y : ℕ). cond (eqb s y) 1 0) + cond (eqb s n) 1 0 ≤ 1
    by_size c r =
        ⊎_elim
        (λ (h : s ≡ n). rw (eq-eqb s n h, no_size n s (omega arith)) (omega arith))
        (λ (h : s ≡ n → ⊥). rw (ne_eqb s n h) (omega arith))
        c

-- names of the sizes below the end are at most all names
names_all : (w : List ℕ) (n : ℕ) → sum_below n (names_of w) ≤ name_count w
names_all w n =
    let e = sum_below_swap n (name_count w) (λ (y i : ℕ). cond (eqb (name_size w i) y) 1 0) in
    let a = sum_below_most (name_count w) 1 (λ (i : ℕ). sum_below n (λ (y : ℕ). cond (eqb (name_size w i) y) 1 0)) (λ i k. one_size n (name_size w i)) in
    let o = mul-one (name_count w) in
    omega arith

-- a size that no name has costs nothing
pub touches_absent : (w : List ℕ) → Good w → (y : ℕ) (query : List ℕ) (t : ℕ) → names_of w y ≡ 0 → touches_at w y (lists_for w y query) t ≡ 0
unfolding touches_at signature_postings lists_for
touches_absent w g y query t z =
    let ls : List (List ℕ) = map (list_in w y) (ordered_for w y query) in
    let s : ℕ = signatures (length ls) t in
    let p = postings_most (names_of w y) (take s ls) (each_take (λ (l : List ℕ). length l ≤ names_of w y) s ls (lists_most w g y (ordered_for w y query))) in
    let a = ap (λ (n : ℕ). length (take s ls) * n) z in
    let b = mul-zero (length (take s ls)) in
    let r = sum_below_most (later_count ls t) 0 (remaining w y ls t) (λ d k. let x = remaining_less w y ls t d in let c = candidates_most w y ls t in omega arith) in
    let c = mul-zero (later_count ls t) in
    omega arith

no_name : (w : List ℕ) (y n : ℕ) → ((i : ℕ) → i < n → name_size w i ≡ y → ⊥) → count_below n (λ (i : ℕ). eqb (name_size w i) y) ≡ 0
unfolding sum_below
no_name w y zero h = refl
no_name w y (suc n) h = rw (no_name w y n (λ i k. h i (omega arith)), ne_eqb (name_size w n) y (h n (omega arith)))

module _ (w : List ℕ) (good : Good w) (m p q : ℕ) (known : good_measure m ≡ true) (exact : good_threshold p q ≡ true) (query : List ℕ)
    (asked : Query query) where
  -- a size that is not 0 costs at most x times its names
  pub size_most : (y : ℕ) → 0 < y → touches_of_size w m p q query y ≤ length query * names_of w y
  unfolding touches_of_size
  size_most y pos = by_size (is_searched m p q (length query) y) refl
    where
      by_size : (b : Bool) → is_searched m p q (length query) y ≡ b
          → cond b (touches_at w y (lists_for w y query) (least_count m p q (length query) y)) 0 ≤ length query * names_of w y
      by_size true e =
          let some = asked.some in
          let low = least_pos m p q (length query) y known exact in
          let high = least_within m p q (length query) y (omega arith) pos e in
          touches_names w good y query (least_count m p q (length query) y) low (omega arith)
      by_size false e = omega arith

  -- and size 0 costs nothing
  pub size_all : (y : ℕ) → touches_of_size w m p q query y ≤ length query * names_of w y
  size_all zero = let e = nothing in omega arith
    where
      by_size : (b : Bool) → touches_at w 0 (lists_for w 0 query) (least_count m p q (length query) 0) ≡ 0
          → cond b (touches_at w 0 (lists_for w 0 query) (least_count m p q (length query) 0)) 0 ≡ 0
      by_size true e = e
      by_size false e = refl

      nothing : touches_of_size w m p q query 0 ≡ 0
      nothing =
          unfold touches_of_size in
          by_size (is_searched m p q (length query) 0)
          (touches_absent w good 0 query (least_count m p q (length query) 0) (no_name w 0 (name_count w) (λ i k e. let h = good_name_within w good i k in let l = h.1 in absurd (omega arith))))
  size_all (suc y) = size_most (suc y) (omega arith)

  -- all sizes together cost at most x times the names
  pub touches_all : touches_of w m p q query ≤ length query * name_count w
  unfolding touches_of
  touches_all =
      let a = sum_below_le sizes_end (touches_of_size w m p q query) (λ (y : ℕ). length query * names_of w y) (λ y k. size_all y) in
      let b = sum_below_times sizes_end (length query) (names_of w) in
      let c = mul-le-mul_left (length query) (names_all w sizes_end) in
      omega arith

  -- and so at most 51,712
  pub touches_most : length query ≤ most_features → touches_of w m p q query ≤ most_postings
  touches_most h =
      let a = touches_all in
      let b = mul-le-mul h (good_names_most w good) in
      omega arith

-- ---- the signatures are the cheapest

take_map : {A B : Type 0} (f : A → B) (n : ℕ) (l : List A) → take n (map f l) ≡ map f (take n l)
take_map f zero l = refl
take_map f (suc n) [] = refl
take_map {A} {B} f (suc n) (x ∷ l) = ap (λ (r : List B). f x ∷ r) (take_map f n l)

-- the keys of the query's features at the size, in order
abbrev keys_of : List ℕ → ℕ → List ℕ → List ℕ
keys_of w y query = sort_of (map (λ (f : ℕ). key_of (length (list_in w y f)) f) query)

-- a key says how long the list is
keys_weigh : (w : List ℕ) (y : ℕ) (query : List ℕ) → Each (λ (f : ℕ). f < feature_span) query
    → Each (λ (k : ℕ). length (list_in w y (k % feature_span)) ≡ k / feature_span) (keys_of w y query)
keys_weigh w y query b =
    each_members (λ (k : ℕ). length (list_in w y (k % feature_span)) ≡ k / feature_span) (keys_of w y query)
    (λ k m.
    let key : ℕ → ℕ = λ (f : ℕ). key_of (length (list_in w y f)) f in
    let p = member_map_place key k query (sym (member_sort k (map key query)) ∙ m) in
    let s : p.0 < feature_span = each_member (λ (f : ℕ). f < feature_span) query b p.0 p.1 in
    let e = p.2 in
    let r : k % feature_span ≡ p.0 = omega arith in
    let d : k / feature_span ≡ length (list_in w y p.0) = omega arith in
    ap (λ (f : ℕ). length (list_in w y f)) r ∙ sym d)

-- S is the smallest total of any x − t + 1 of the query's features
pub signatures_least : (w : List ℕ) (y : ℕ) (query : List ℕ) (t : ℕ) → Each (λ (f : ℕ). f < feature_span) query
    → (chosen : ℕ → Bool) → count_of chosen query ≡ signatures (length query) t
    → signature_postings (lists_for w y query) t ≤ sum_of (map (λ (f : ℕ). length (list_in w y f)) (filter_of chosen query))
unfolding signature_postings lists_for ordered_for
signatures_least w y query t b chosen n =
    let key : ℕ → ℕ = λ (f : ℕ). key_of (length (list_in w y f)) f in
    let ks : List ℕ = keys_of w y query in
    let weigh : ℕ → ℕ = λ (f : ℕ). length (list_in w y f) in
    let by : ℕ → ℕ = λ (k : ℕ). k % feature_span in
    let s : ℕ = signatures (length query) t in
    let x : length (map (list_in w y) (map by ks)) ≡ length query = length_lists_of w y query in
    let kw = keys_weigh w y query b in
    let left : sum_of (map length (take (signatures (length (map (list_in w y) (map by ks))) t) (map (list_in w y) (map by ks)))) ≡ sum_of (map (λ (k : ℕ). k / feature_span) (take s ks)) =
    ap (λ (m : ℕ). sum_of (map length (take (signatures m t) (map (list_in w y) (map by ks))))) x
    ∙ ap (λ (l : List (List ℕ)). sum_of (map length l)) (take_map (list_in w y) s (map by ks))
    ∙ sum_map length (list_in w y) (take s (map by ks))
    ∙ ap (λ (l : List ℕ). sum_of (map weigh l)) (take_map by s ks)
    ∙ sum_map weigh by (take s ks)
    ∙ sum_ext (λ (k : ℕ). weigh (by k)) (λ (k : ℕ). k / feature_span) (take s ks) (each_take (λ (k : ℕ). weigh (by k) ≡ k / feature_span) s ks kw)
    in
    let count : count_of (λ (k : ℕ). chosen (by k)) ks ≡ s =
    sym (count_map chosen by ks) ∙ count_ordered_of w y query chosen b ∙ n
    in
    let right : sum_of (map weigh (filter_of chosen query)) ≡ sum_of (map (λ (k : ℕ). cond (chosen (by k)) (k / feature_span) 0) ks) =
    sum_filter weigh chosen query
    ∙ sum_ext (λ (f : ℕ). cond (chosen f) (weigh f) 0) (λ (f : ℕ). cond (chosen (by (key f))) (key f / feature_span) 0) query (key_told query b)
    ∙ sym (sum_map (λ (k : ℕ). cond (chosen (by k)) (k / feature_span) 0) key query)
    ∙ sym (sum_sort (λ (k : ℕ). cond (chosen (by k)) (k / feature_span) 0) (map key query))
    in
    let least = least_sum (λ (k : ℕ). k / feature_span) (λ a c h. omega arith) (λ (k : ℕ). chosen (by k)) ks (sorted_sort (map key query)) s count in
    rw (left, right) least
  where
    length_lists_of : (w : List ℕ) (y : ℕ) (query : List ℕ) → length (map (list_in w y) (map (λ (k : ℕ). k % feature_span) (keys_of w y query))) ≡ length query
    length_lists_of w y query = length_lists w y query

    count_ordered_of : (w : List ℕ) (y : ℕ) (query : List ℕ) (c : ℕ → Bool) → Each (λ (f : ℕ). f < feature_span) query
        → count_of c (map (λ (k : ℕ). k % feature_span) (keys_of w y query)) ≡ count_of c query
    count_ordered_of w y query c b = count_ordered w y query c b

    key_told : (q : List ℕ) → Each (λ (f : ℕ). f < feature_span) q
        → Each (λ (f : ℕ). cond (chosen f) (length (list_in w y f)) 0 ≡ cond (chosen (key_of (length (list_in w y f)) f % feature_span)) (key_of (length (list_in w y f)) f / feature_span) 0) q
    key_told q e = each_map q e
      where
        told : (f : ℕ) → f < feature_span → cond (chosen f) (length (list_in w y f)) 0 ≡ cond (chosen (key_of (length (list_in w y f)) f % feature_span)) (key_of (length (list_in w y f)) f / feature_span) 0
        told f h =
            let r : key_of (length (list_in w y f)) f % feature_span ≡ f = omega arith in
            let d : key_of (length (list_in w y f)) f / feature_span ≡ length (list_in w y f) = omega arith in
            ap₂ (λ (g n : ℕ). cond (chosen g) n 0) (sym r) (sym d)

        each_map : (q : List ℕ) → Each (λ (f : ℕ). f < feature_span) q
            → Each (λ (f : ℕ). cond (chosen f) (length (list_in w y f)) 0 ≡ cond (chosen (key_of (length (list_in w y f)) f % feature_span)) (key_of (length (list_in w y f)) f / feature_span) 0) q
        each_map q e = each_members _ q (λ f m. told f (each_member (λ (g : ℕ). g < feature_span) q e f m))

-- no name has size 0
pub nobody_zero : (w : List ℕ) → Good w → names_of w 0 ≡ 0
nobody_zero w good =
    no_name w 0 (name_count w) (λ i k e. let h = good_name_within w good i k in let l = h.1 in absurd (omega arith))
