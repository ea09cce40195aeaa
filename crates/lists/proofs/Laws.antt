-- Laws of the lists of a good index that the layers above cite: the row of a size and a feature, its list, and what a name stands for.
-- Assumes nothing.
use mathlib.Core.Path.{◌≡◌, refl, sym, ap, subst, ◌∙◌}
use mathlib.Core.Logic.{inl, inr, ⊎_elim}
use mathlib.Core.Bool.{Bool, true, false, cond, false≢true}
use mathlib.Core.List.{List, []}
use Prim.Native.Nat.{ℕ, ◌≤◌, ◌<◌}
use native.Mathlib.Omega.{arith}
use lib.ListN.{length, length-map}
use lib.Dec.{ltb, eqb}
use borrow.Author.Tests.{lt-ltb, le-ltb, eq-eqb, eqb-true}
use Rattle.laws.specs.Lists.{member, Distinct, Ascending, count_of}
use Rattle.laws.specs.Below.{count_below, passing_below}
use Rattle.laws.specs.First.{first_from}
use Rattle.laws.proofs.Lists.{count_ext}
use Rattle.laws.proofs.Below.{and_both, and_left, and_right, sum_below_le}
use Rattle.laws.proofs.Passing.{length_passing, member_passing, image_passing, ascending_passing}
use Rattle.laws.proofs.Members.{member_map}
use Rattle.laws.proofs.FirstFound.{first_found, first_is}
use Rattle.laws.proofs.Order.{le_or_lt}
use Rattle.laws.proofs.Tests.{same_test}
use Rattle.laws.proofs.Sort.{ascending_distinct}
use Rattle.laws.proofs.Hits.{count_hits}
use Rattle.names.specs.Shared.{shared_of}
use Rattle.names.proofs.Shared.{shared_le_right}
use Rattle.words.specs.Words.{name_count, row_count, name_id, name_size, row_size, row_feature, row_length, list_at}
use Rattle.index.specs.Good.{lists_with, Good}
use Rattle.index.proofs.Facts.{Before, before_apart, good_facts}
use Rattle.index.proofs.Laws.{good_ids_apart, row_ascending, row_named}
use Rattle.lists.specs.Lists.{row_is, row_for, span_at, span_in, list_in, features_in}
use Rattle.lists.specs.Part.{none, cut}

-- ---- the rows

row_is_lem : (w : List ℕ) (y f r : ℕ) → row_is w y f r ≡ true → (row_size w r ≡ y) × (row_feature w r ≡ f)
unfolding row_is
row_is_lem w y f r e =
    let a = eqb (row_size w r) y in
    let b = eqb (row_feature w r) f in
    (eqb-true (row_size w r) y (and_left a b e), eqb-true (row_feature w r) f (and_right a b e))

-- the row that is found is that of the size and the feature
pub row_found : (w : List ℕ) (y f : ℕ) → row_for w y f < row_count w → (row_size w (row_for w y f) ≡ y) × (row_feature w (row_for w y f) ≡ f)
unfolding row_for
row_found w y f l =
    row_is_lem w y f (first_from (row_is w y f) (row_count w) 0) (first_found (row_is w y f) (row_count w) 0 (omega arith))

-- a row is found by its size and its feature
pub row_for_lem : (w : List ℕ) → Good w → (y f r : ℕ) → r < row_count w → row_size w r ≡ y → row_feature w r ≡ f → row_for w y f ≡ r
unfolding row_for row_is
row_for_lem w g y f r l p q =
    first_is (row_is w y f) (row_count w) 0 r (omega arith) (omega arith) (and_both _ _ (eq-eqb _ _ p) (eq-eqb _ _ q))
    (λ s a b e.
    let t = row_is_lem w y f s e in
    before_apart w s r ((good_facts w g).rows.before s r b l) (t.0 ∙ sym p) (t.1 ∙ sym q))

-- ---- the lists

-- the list of a size and a feature is its row's
pub list_row : (w : List ℕ) (y f : ℕ) → row_for w y f < row_count w → list_in w y f ≡ list_at w (row_for w y f)
unfolding list_in
list_row w y f l = rw (lt-ltb (row_for w y f) (row_count w) l)

-- and empty where there is none
pub list_none : (w : List ℕ) (y f : ℕ) → row_count w ≤ row_for w y f → list_in w y f ≡ []
unfolding list_in
list_none w y f l = rw (le-ltb (row_for w y f) (row_count w) l)

-- the words of the part are the list
pub span_words : (w : List ℕ) (y f : ℕ) → cut (span_in w y f) w ≡ list_in w y f
unfolding span_in span_at list_in list_at
span_words w y f = by_test (ltb (row_for w y f) (row_count w))
  where
    by_test : (b : Bool)
        → cut (cond b (record { start = Rattle.words.specs.Words.list_start w (row_for w y f); count = row_length w (row_for w y f) }) none) w
        ≡ cond b (list_at w (row_for w y f)) []
    by_test true = refl
    by_test false = refl

pub good_ascending : (w : List ℕ) → Good w → (y f : ℕ) → Ascending (list_in w y f)
unfolding Ascending
good_ascending w g y f =
    ⊎_elim
    (λ (l : row_count w ≤ row_for w y f). subst Ascending (sym (list_none w y f l)) tt)
    (λ (l : row_for w y f < row_count w). subst Ascending (sym (list_row w y f l)) (row_ascending w g (row_for w y f) l))
    (le_or_lt (row_count w) (row_for w y f))

-- an id that a list holds is in a row of the list's size and feature
pub list_holder : (w : List ℕ) (y f id : ℕ) → member id (list_in w y f) ≡ true
    → (row_for w y f < row_count w) × (member id (list_at w (row_for w y f)) ≡ true)
unfolding member
list_holder w y f id m =
    ⊎_elim
    (λ (l : row_count w ≤ row_for w y f). absurd (false≢true (ap (member id) (sym (list_none w y f l)) ∙ m)))
    (λ (l : row_for w y f < row_count w). (l, ap (member id) (sym (list_row w y f l)) ∙ m))
    (le_or_lt (row_count w) (row_for w y f))

-- lists of one size hold only names of that size
pub good_named : (w : List ℕ) → Good w → (y f id : ℕ) → member id (list_in w y f) ≡ true
    → (i : ℕ) × (i < name_count w) × (name_id w i ≡ id) × (name_size w i ≡ y)
good_named w g y f id m =
    let h = list_holder w y f id m in
    let n = row_named w g (row_for w y f) id h.0 h.1 in
    (n.0, n.1, n.2, n.3 ∙ (row_found w y f h.0).0)

-- a list is as long as there are names in it
pub good_list_length : (w : List ℕ) → Good w → (y f : ℕ) → count_below (name_count w) (λ (i : ℕ). member (name_id w i) (list_in w y f)) ≡ length (list_in w y f)
good_list_length w g y f =
    count_hits (name_count w) (name_id w) (good_ids_apart w g) (list_in w y f) (ascending_distinct (list_in w y f) (good_ascending w g y f))
    (λ x m. let n = good_named w g y f x m in (n.0, n.1, n.2))

-- and so at most as long as there are names of its size
pub good_list_most : (w : List ℕ) → Good w → (y f : ℕ) → length (list_in w y f) ≤ count_below (name_count w) (λ (i : ℕ). eqb (name_size w i) y)
good_list_most w g y f =
    let e = good_list_length w g y f in
    let h = sum_below_le (name_count w) (λ (i : ℕ). cond (member (name_id w i) (list_in w y f)) 1 0) (λ (i : ℕ). cond (eqb (name_size w i) y) 1 0) each in
    omega arith
  where
    each : (i : ℕ) → i < name_count w → cond (member (name_id w i) (list_in w y f)) 1 0 ≤ cond (eqb (name_size w i) y) 1 0
    each i l = by_test (member (name_id w i) (list_in w y f)) refl
      where
        by_test : (b : Bool) → member (name_id w i) (list_in w y f) ≡ b → cond b 1 0 ≤ cond (eqb (name_size w i) y) 1 0
        by_test true m =
            let n = good_named w g y f (name_id w i) m in
            let s : name_size w i ≡ y = ap (name_size w) (sym (good_ids_apart w g n.0 i n.1 l n.2)) ∙ n.3 in
            rw (eq-eqb (name_size w i) y s) (omega arith)
        by_test false m = omega arith

-- ---- what a name stands for

-- a feature that an id stands for is that of a row that lists the id
pub features_row : (w : List ℕ) (id f : ℕ) → member f (features_in w id) ≡ true
    → (r : ℕ) × (r < row_count w) × (member id (list_at w r) ≡ true) × (row_feature w r ≡ f)
unfolding features_in
features_row w id f m = image_passing (λ (r : ℕ). member id (list_at w r)) (row_feature w) (row_count w) f m

pub row_features : (w : List ℕ) (id r : ℕ) → r < row_count w → member id (list_at w r) ≡ true → member (row_feature w r) (features_in w id) ≡ true
unfolding features_in
row_features w id r l m =
    let t : ℕ → Bool = λ (s : ℕ). member id (list_at w s) in
    member_map (row_feature w) r (passing_below (row_count w) t) (member_passing t (row_count w) r l m)

module _ (w : List ℕ) (g : Good w) (i : ℕ) (name : i < name_count w) where
  -- a row that holds the name has the name's size
  pub holder_size : (r : ℕ) → r < row_count w → member (name_id w i) (list_at w r) ≡ true → row_size w r ≡ name_size w i
  holder_size r l m =
      let n = row_named w g r (name_id w i) l m in
      sym n.3 ∙ ap (name_size w) (good_ids_apart w g n.0 i n.1 name n.2)

  -- the features whose lists hold it are as many as its size
  pub features_length : length (features_in w (name_id w i)) ≡ name_size w i
  unfolding features_in lists_with
  features_length =
      let t : ℕ → Bool = λ (r : ℕ). member (name_id w i) (list_at w r) in
      length-map (passing_below (row_count w) t) (row_feature w) ∙ length_passing t (row_count w) ∙ (good_facts w g).lists.counts i name

  -- and those of the lists of its size that hold it
  pub features_member : (f : ℕ) → member f (features_in w (name_id w i)) ≡ member (name_id w i) (list_in w (name_size w i) f)
  features_member f =
      same_test (member f (features_in w (name_id w i))) (member (name_id w i) (list_in w (name_size w i) f))
      (λ m.
      let v = features_row w (name_id w i) f m in
      let e : row_for w (name_size w i) f ≡ v.0 = row_for_lem w g (name_size w i) f v.0 v.1 (holder_size v.0 v.1 v.2) v.3 in
      ap (member (name_id w i)) (list_row w (name_size w i) f (subst (λ (r : ℕ). r < row_count w) (sym e) v.1) ∙ ap (list_at w) e) ∙ v.2)
      (λ m.
      let h = list_holder w (name_size w i) f (name_id w i) m in
      let e = (row_found w (name_size w i) f h.0).1 in
      subst (λ (x : ℕ). member x (features_in w (name_id w i)) ≡ true) e (row_features w (name_id w i) (row_for w (name_size w i) f) h.0 h.1))

-- ---- in which order

-- a row before another of its size has a smaller feature
before_feature : (w : List ℕ) (r s : ℕ) → row_size w r ≡ row_size w s → Before w r s → row_feature w r < row_feature w s
unfolding Before
before_feature w r s e (inl c) = absurd (omega arith)
before_feature w r s e (inr c) = c.1

module _ (w : List ℕ) (g : Good w) where
  -- the rows that list an id are of one size
  rows_of_id : (r s id : ℕ) → r < row_count w → s < row_count w → member id (list_at w r) ≡ true → member id (list_at w s) ≡ true
      → row_size w r ≡ row_size w s
  rows_of_id r s id h k m n =
      let p = row_named w g r id h m in
      holder_size w g p.0 p.1 r h (ap (λ (x : ℕ). member x (list_at w r)) p.2 ∙ m)
      ∙ sym (holder_size w g p.0 p.1 s k (ap (λ (x : ℕ). member x (list_at w s)) p.2 ∙ n))

  -- a name stands for its features in ascending order
  pub features_ascending : (id : ℕ) → Ascending (features_in w id)
  unfolding features_in
  features_ascending id =
      ascending_passing (λ (r : ℕ). member id (list_at w r)) (row_feature w) (row_count w) (λ r s l h m n.
      before_feature w r s (rows_of_id r s id (omega arith) h m n) ((good_facts w g).rows.before r s l h))

  -- so they are all different
  pub features_distinct : (id : ℕ) → Distinct (features_in w id)
  features_distinct id = ascending_distinct (features_in w id) (features_ascending id)

-- of any features without repeats, at most as many as its size have lists that hold the name
pub held_le_size : (w : List ℕ) → Good w → (i : ℕ) → i < name_count w → (q : List ℕ) → Distinct q
    → count_of (λ (f : ℕ). member (name_id w i) (list_in w (name_size w i) f)) q ≤ name_size w i
unfolding shared_of
held_le_size w g i l q d =
    let e = count_ext (λ (f : ℕ). member (name_id w i) (list_in w (name_size w i) f)) (λ (f : ℕ). member f (features_in w (name_id w i)))
    (λ f. sym (features_member w g i l f)) q in
    let s = shared_le_right q (features_in w (name_id w i)) d (features_distinct w g (name_id w i)) in
    let n = features_length w g i l in
    omega arith
