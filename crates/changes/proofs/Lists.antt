-- Facts on plain lists: places in ascending lists, one number put in, the elements that pass a test, numbers put in at many places. Nothing here knows of names or rows.
-- Cited by the other files of this crate.
-- Assumes nothing.
use mathlib.Core.Path.{◌≡◌, refl, sym, ap, ap₂, ◌∙◌}
use mathlib.Core.Logic.{⊎_elim}
use mathlib.Core.Bool.{Bool, true, false, cond, not, ◌&&◌, true≢false}
use mathlib.Core.List.{List, [], ◌∷◌, ◌++◌, map, map-id}
use Prim.Native.Nat.{ℕ, zero, suc, ◌+◌, ◌≤◌, ◌<◌}
use native.Mathlib.Omega.{arith}
use lib.ListN.{length, get_or, take, drop, replicate, take-append-drop, length-map}
use lib.Seq.{length-take-le, take_at, drop_at}
use lib.Dec.{eqb, ltb}
use borrow.Author.Tests.{lt-ltb, le-ltb, eq-eqb, ne_eqb}
use Rattle.laws.specs.Lists.{member, Distinct, AllAbove, Ascending, count_of}
use Rattle.laws.specs.Each.{Each}
use Rattle.laws.specs.Filter.{filter_of}
use Rattle.laws.specs.Sort.{insert, sort_of, AllFrom, Sorted}
use Rattle.laws.proofs.Below.{and_left}
use Rattle.laws.proofs.Filter.{filter_nil, filter_met, filter_passed, member_filter, distinct_filter}
use Rattle.laws.proofs.Images.{get_d_map_lt}
use Rattle.laws.proofs.Members.{member_head, member_tail, member_at, each_append}
use Rattle.laws.proofs.Order.{le_or_lt}
use Rattle.laws.proofs.Sort.{above_member, above_members, from_member, from_members, sorted_nil, sorted_cons, sorted_from, sorted_rest, ascending_nil, ascending_cons, ascending_above, ascending_first, ascending_rest, ascending_right, ascending_distinct, ascending_sorted, ascending_sort, ascending_unique, sorted_ascending, insert_nil, insert_met, insert_passed, sorted_insert, distinct_insert, member_sort}
use Rattle.laws.proofs.Tests.{test_fails}
use Rattle.splicing.specs.Splice.{put_at, put_in}
use Rattle.splicing.proofs.Laws.{put_in_left, put_in_right}
use Rattle.binary_search.specs.Seats.{place_of}
use Rattle.changes.specs.Others.{others_of}

-- ---- absent

pub absent_rest : (x y : ℕ) (l : List ℕ) → member y (x ∷ l) ≡ false → member y l ≡ false
absent_rest x y l n = test_fails (member y l) (λ m. true≢false (sym (member_tail x y l m) ∙ n))

-- ---- parts of an image

pub map_take : {A B : Type 0} (f : A → B) (n : ℕ) (l : List A) → map f (take n l) ≡ take n (map f l)
map_take f zero l = refl
map_take f (suc n) [] = refl
map_take {B} f (suc n) (x ∷ l) = ap (λ (r : List B). f x ∷ r) (map_take f n l)

pub map_drop : {A B : Type 0} (f : A → B) (n : ℕ) (l : List A) → map f (drop n l) ≡ drop n (map f l)
map_drop f zero l = refl
map_drop f (suc n) [] = refl
map_drop f (suc n) (x ∷ l) = map_drop f n l

-- ---- how many are below

pub place_nil : (x : ℕ) → place_of x [] ≡ 0
unfolding count_of
place_nil x = refl

pub place_passed : (x y : ℕ) (l : List ℕ) → y < x → place_of x (y ∷ l) ≡ suc (place_of x l)
unfolding count_of
place_passed x y l h = let e : ◌≡◌ {A = ℕ} (cond (ltb y x) 1 0) 1 = rw (lt-ltb y x h) in omega arith

-- one that is not below does not count
pub place_over : (x y : ℕ) (l : List ℕ) → x ≤ y → place_of x (y ∷ l) ≡ place_of x l
unfolding count_of
place_over x y l h = let e : ◌≡◌ {A = ℕ} (cond (ltb y x) 1 0) 0 = rw (le-ltb y x h) in omega arith

-- none is below what is not above any
pub place_least : (x : ℕ) (l : List ℕ) → AllFrom x l → place_of x l ≡ 0
unfolding AllFrom
place_least x [] h = place_nil x
place_least x (y ∷ l) h = place_over x y l h.0 ∙ place_least x l h.1

-- no fewer are below a larger number
pub place_mono : (x y : ℕ) (l : List ℕ) → x ≤ y → place_of x l ≤ place_of y l
unfolding count_of
place_mono x y [] h = omega arith
place_mono x y (z ∷ l) h =
    let k = place_mono x y l h in
    ⊎_elim
    (λ (b : x ≤ z). let p = place_over x z l b in omega arith)
    (λ (b : z < x). let p = place_passed x z l b in let q = place_passed y z l (omega arith) in omega arith)
    (le_or_lt x z)

-- none is below the first of an ascending list, nor below what is not above the first
pub place_first : (x y : ℕ) (l : List ℕ) → Ascending (y ∷ l) → x ≤ y → place_of x (y ∷ l) ≡ 0
place_first x y [] a h = place_over x y [] h ∙ place_nil x
place_first x y (z ∷ l) a h =
    let b = above_member y (z ∷ l) (ascending_above y (z ∷ l) a) z (member_head z l) in
    place_over x y (z ∷ l) h ∙ place_first x z l (ascending_rest y (z ∷ l) a) (omega arith)

-- where some are below, the first is
pub place_below : (x y : ℕ) (l : List ℕ) → Ascending (y ∷ l) → 0 < place_of x (y ∷ l) → y < x
place_below x y l a h = ⊎_elim (λ (b : x ≤ y). let e = place_first x y l a b in absurd (omega arith)) (λ (b : y < x). b) (le_or_lt x y)

place_none : (b : ℕ) (l : List ℕ) → AllAbove b l → place_of (suc b) l ≡ 0
unfolding AllAbove
place_none b [] a = place_nil (suc b)
place_none b (y ∷ l) a = let h = a.0 in place_over (suc b) y l (omega arith) ∙ place_none b l a.1

-- what is next to a number of an ascending list is to be put in behind it
pub place_next : (l : List ℕ) → Ascending l → (k : ℕ) → k < length l → place_of (suc (get_or l k 0)) l ≡ suc k
place_next [] a k h = absurd (omega arith)
place_next (y ∷ l) a zero h = place_passed (suc y) y l (omega arith) ∙ ap suc (place_none y l (ascending_above y l a))
place_next (y ∷ l) a (suc k) h =
    let b = above_member y l (ascending_above y l a) (get_or l k 0) (member_at l k (omega arith)) in
    place_passed (suc (get_or l k 0)) y l (omega arith) ∙ ap suc (place_next l (ascending_rest y l a) k (omega arith))

-- the numbers after a place are above the one there
pub drop_above : (l : List ℕ) → Ascending l → (k : ℕ) → k < length l → AllAbove (get_or l k 0) (drop (suc k) l)
drop_above [] a k h = absurd (omega arith)
drop_above (y ∷ l) a zero h = ascending_above y l a
drop_above (y ∷ l) a (suc k) h = drop_above l (ascending_rest y l a) k (omega arith)

pub ascending_drop : (l : List ℕ) (k : ℕ) → Ascending l → Ascending (drop k l)
ascending_drop l k a = ascending_right (take k l) (drop k l) (rw (take-append-drop k l) a)

-- ---- one number put in

pub ascending_insert : (x : ℕ) (l : List ℕ) → Ascending l → member x l ≡ false → Ascending (insert x l)
ascending_insert x l a n =
    sorted_ascending (insert x l) (sorted_insert x l (ascending_sorted l a)) (distinct_insert x l (ascending_distinct l a) n)

-- by place: after those that are below
pub insert_place : (x : ℕ) (l : List ℕ) → Sorted l → insert x l ≡ take (place_of x l) l ++ x ∷ drop (place_of x l) l
insert_place x [] s = insert_nil x ∙ (unfold count_of in refl)
insert_place x (y ∷ l) s =
    ⊎_elim
    (λ (h : x ≤ y). rw (place_over x y l h ∙ place_least x l (from_members x l (λ z m. let b = from_member y l (sorted_from y l s) z m in omega arith))) (insert_met x y l h))
    (λ (h : y < x). rw (place_passed x y l h) (insert_passed x y l h ∙ ap (λ (r : List ℕ). y ∷ r) (insert_place x l (sorted_rest y l s))))
    (le_or_lt x y)

-- ---- the elements that pass a test

pub filter_map : {A B : Type 0} (t : B → Bool) (f : A → B) (l : List A) → filter_of t (map f l) ≡ map f (filter_of (λ (x : A). t (f x)) l)
unfolding filter_of
filter_map t f [] = refl
filter_map {A} {B} t f (x ∷ l) = by_test (t (f x)) (filter_map t f l)
  where
    passing : List A
    passing = filter_of (λ (y : A). t (f y)) l

    by_test : (b : Bool) → filter_of t (map f l) ≡ map f passing
        → cond b (f x ∷ filter_of t (map f l)) (filter_of t (map f l)) ≡ map f (cond b (x ∷ passing) passing)
    by_test true h = ap (λ (r : List B). f x ∷ r) h
    by_test false h = h

pub each_filter : {A : Type 0} (P : A → Type 0) (t : A → Bool) (l : List A) → Each P l → Each P (filter_of t l)
unfolding filter_of Each
each_filter P t [] h = tt
each_filter P t (x ∷ l) h = by_test (t x) (each_filter P t l h.1)
  where
    by_test : (b : Bool) → Each P (filter_of t l) → Each P (cond b (x ∷ filter_of t l) (filter_of t l))
    by_test true g = (h.0, g)
    by_test false g = g

-- tests that agree on the members keep the same
pub filter_members : (t u : ℕ → Bool) (l : List ℕ) → ((x : ℕ) → member x l ≡ true → t x ≡ u x) → filter_of t l ≡ filter_of u l
unfolding filter_of
filter_members t u [] h = refl
filter_members t u (x ∷ l) h =
    ap₂ (λ (b : Bool) (r : List ℕ). cond b (x ∷ r) r) (h x (member_head x l)) (filter_members t u l (λ y m. h y (member_tail x y l m)))

pub ascending_filter : (t : ℕ → Bool) (l : List ℕ) → Ascending l → Ascending (filter_of t l)
unfolding filter_of
ascending_filter t [] a = ascending_nil
ascending_filter t (x ∷ l) a = by_test (t x) (ascending_filter t l (ascending_rest x l a))
  where
    above : (y : ℕ) → member y (filter_of t l) ≡ true → x < y
    above y m = above_member x l (ascending_above x l a) y (and_left (member y l) (t y) (sym (member_filter t y l) ∙ m))

    by_test : (b : Bool) → Ascending (filter_of t l) → Ascending (cond b (x ∷ filter_of t l) (filter_of t l))
    by_test true h = ascending_cons x (filter_of t l) (above_members x (filter_of t l) above) h
    by_test false h = h

-- those of a list without repeats, sorted, are those of the sorted list
pub sort_filter : (t : ℕ → Bool) (l : List ℕ) → Distinct l → sort_of (filter_of t l) ≡ filter_of t (sort_of l)
sort_filter t l d =
    ascending_unique (sort_of (filter_of t l)) (filter_of t (sort_of l))
    (ascending_sort (filter_of t l) (distinct_filter t l d))
    (ascending_filter t (sort_of l) (ascending_sort l d))
    (λ x.
    member_sort x (filter_of t l)
    ∙ member_filter t x l
    ∙ ap (λ (b : Bool). b && t x) (sym (member_sort x l))
    ∙ sym (member_filter t x (sort_of l)))

-- ---- the elements whose number is not n

-- f gives the number of an element
module _ {A : Type 0} (f : A → ℕ) (n : ℕ) where
  abbrev others : List A → List A
  others l = filter_of (λ (x : A). not (eqb (f x) n)) l

  pub others_met : (x : A) (l : List A) → f x ≡ n → others (x ∷ l) ≡ others l
  others_met x l e = filter_passed (λ (y : A). not (eqb (f y) n)) x l (ap not (eq-eqb (f x) n e))

  pub others_passed : (x : A) (l : List A) → (f x ≡ n → ⊥) → others (x ∷ l) ≡ x ∷ others l
  others_passed x l d = filter_met (λ (y : A). not (eqb (f y) n)) x l (ap not (ne_eqb (f x) n d))

  -- all, where n is nowhere
  pub others_absent : (l : List A) → member n (map f l) ≡ false → others l ≡ l
  others_absent [] a = filter_nil (λ (y : A). not (eqb (f y) n))
  others_absent (x ∷ l) a =
      others_passed x l (λ e. true≢false (sym (member_head (f x) (map f l)) ∙ ap (λ (y : ℕ). member y (map f (x ∷ l))) e ∙ a))
      ∙ ap (λ (r : List A). x ∷ r) (others_absent l (absent_rest (f x) n (map f l) a))

  -- by place: all but the one at k
  pub others_place : (l : List A) (d : A) → Ascending (map f l) → (k : ℕ) → k < length l → f (get_or l k d) ≡ n → others l ≡ take k l ++ drop (k + 1) l
  others_place [] d a k h q = absurd (omega arith)
  others_place (x ∷ l) d a zero h q =
      others_met x l q
      ∙ others_absent l (ap (λ (y : ℕ). member y (map f l)) (sym q) ∙ ascending_first (f x) (map f l) a)
  others_place (x ∷ l) d a (suc k) h q =
      let s : suc (k + 1) ≡ suc k + 1 = omega arith in
      let b = above in
      others_passed x l (λ e. omega arith)
      ∙ ap (λ (r : List A). x ∷ r) (others_place l d (ascending_rest (f x) (map f l) a) k (omega arith) q)
      ∙ ap (λ (i : ℕ). x ∷ (take k l ++ drop i (x ∷ l))) s
    where
      above : f x < f (get_or l k d)
      above =
          let e = length-map l f in
          let m = ap (λ (y : ℕ). member y (map f l)) (sym (get_d_map_lt f l k d 0 (omega arith))) ∙ member_at (map f l) k (omega arith) in
          above_member (f x) (map f l) (ascending_above (f x) (map f l) a) (f (get_or l k d)) m

-- of an ascending list of numbers: all but the one at k
pub others_at : (l : List ℕ) → Ascending l → (k : ℕ) → k < length l → others_of (get_or l k 0) l ≡ take k l ++ drop (k + 1) l
others_at l a k h = others_place (λ (y : ℕ). y) (get_or l k 0) l 0 (rw (map-id l) a) k h refl

pub others_none : (x : ℕ) (l : List ℕ) → member x l ≡ false → others_of x l ≡ l
others_none x l n = others_absent (λ (y : ℕ). y) x l (rw (map-id l) n)

-- ---- numbers put in at one place, and at places of two parts

pub put_in_same : (a : ℕ) (vs l : List ℕ) → a ≤ length l → put_in (replicate (length vs) a) vs l ≡ take a l ++ (vs ++ drop a l)
unfolding put_in
put_in_same a [] l h = sym (take-append-drop a l)
put_in_same a (v ∷ vs) l h =
    let e = length-take-le a l h in
    ap (put_at a v) (put_in_same a vs l h)
    ∙ ap₂ (λ (x y : List ℕ). x ++ v ∷ y) (take_at (take a l) (vs ++ drop a l) a e) (drop_at (take a l) (vs ++ drop a l) a e)

pub put_at_left : (a v : ℕ) (k l : List ℕ) → a ≤ length k → put_at a v (k ++ l) ≡ put_at a v k ++ l
unfolding put_in Each
put_at_left a v k l h = put_in_left (a ∷ []) (v ∷ []) k l refl (h, tt)

pub put_at_right : (a v : ℕ) (k l : List ℕ) → put_at (length k + a) v (k ++ l) ≡ k ++ put_at a v l
unfolding put_in
put_at_right a v k l = put_in_right k (a ∷ []) (v ∷ []) l

pub map_add : (n m : ℕ) (l : List ℕ) → map (λ (p : ℕ). n + p) (map (λ (p : ℕ). m + p) l) ≡ map (λ (p : ℕ). n + m + p) l
map_add n m [] = refl
map_add n m (x ∷ l) = ap₂ (λ (y : ℕ) (r : List ℕ). y ∷ r) (let e : n + (m + x) ≡ n + m + x = omega arith in e) (map_add n m l)

from_map : (b : ℕ) (f : ℕ → ℕ) (l : List ℕ) → ((x : ℕ) → member x l ≡ true → b ≤ f x) → AllFrom b (map f l)
unfolding AllFrom
from_map b f [] h = tt
from_map b f (x ∷ l) h = (h x (member_head x l), from_map b f l (λ y m. h y (member_tail x y l m)))

pub sorted_map : (f : ℕ → ℕ) → ((x y : ℕ) → x < y → f x ≤ f y) → (l : List ℕ) → Ascending l → Sorted (map f l)
sorted_map f up [] a = sorted_nil
sorted_map f up (x ∷ l) a =
    sorted_cons (f x) (map f l) (from_map (f x) f l (λ y m. up x y (above_member x l (ascending_above x l a) y m))) (sorted_map f up l (ascending_rest x l a))

-- places of a first part of n and of a second
module _ (n : ℕ) (at bt : List ℕ) where
  pub sorted_parts : Sorted at → Each (λ (p : ℕ). p ≤ n) at → Sorted bt → Sorted (at ++ map (λ (p : ℕ). n + p) bt)
  unfolding Sorted Each AllFrom
  sorted_parts s h t = first at s h
    where
      shifted : (l : List ℕ) → Sorted l → Sorted (map (λ (p : ℕ). n + p) l)
      shifted [] t = tt
      shifted (x ∷ l) t = (from_map (n + x) (λ (p : ℕ). n + p) l (λ y m. let b = from_member x l t.0 y m in omega arith), shifted l t.1)

      from : (x : ℕ) (l : List ℕ) → x ≤ n → AllFrom x l → AllFrom x (l ++ map (λ (p : ℕ). n + p) bt)
      from x [] b h = from_map x (λ (p : ℕ). n + p) bt (λ y m. omega arith)
      from x (y ∷ l) b h = (h.0, from x l b h.1)

      first : (l : List ℕ) → Sorted l → Each (λ (p : ℕ). p ≤ n) l → Sorted (l ++ map (λ (p : ℕ). n + p) bt)
      first [] s h = shifted bt t
      first (x ∷ l) s h = (from x l h.0 s.0, first l s.1 h.1)

  pub each_parts : (m : ℕ) → Each (λ (p : ℕ). p ≤ n) at → Each (λ (p : ℕ). p ≤ m) bt → Each (λ (p : ℕ). p ≤ n + m) (at ++ map (λ (p : ℕ). n + p) bt)
  unfolding Each
  each_parts m h k = each_append (λ (p : ℕ). p ≤ n + m) at (map (λ (p : ℕ). n + p) bt) (left at h) (right bt k)
    where
      left : (l : List ℕ) → Each (λ (p : ℕ). p ≤ n) l → Each (λ (p : ℕ). p ≤ n + m) l
      left [] h = tt
      left (x ∷ l) h = let b = h.0 in (omega arith, left l h.1)

      right : (l : List ℕ) → Each (λ (p : ℕ). p ≤ m) l → Each (λ (p : ℕ). p ≤ n + m) (map (λ (p : ℕ). n + p) l)
      right [] h = tt
      right (x ∷ l) h = let b = h.0 in (omega arith, right l h.1)
