-- Facts on plain lists: places that ascend in two parts of a list, a part in the middle, and one number taken out of an ascending list.
-- Nothing here knows of names or rows.
-- Assumes nothing.
use mathlib.Core.Path.{◌≡◌, refl, sym, ap, ◌∙◌}
use mathlib.Core.Logic.{⊎_elim}
use mathlib.Core.Bool.{Bool, true, false, cond}
use mathlib.Core.List.{List, [], ◌∷◌, ◌++◌, map, map-append, map-map}
use Prim.Native.Nat.{ℕ, zero, suc, ◌+◌, ◌<◌}
use native.Mathlib.Nat.{zero-add, add_assoc}
use native.Mathlib.Numerals.{add-one}
use native.Mathlib.Omega.{arith}
use lib.ListN.{length, get_or, take, drop, set, length-append, length-drop, get_or-append}
use lib.Seq.{get_or-append-add, set-append_left, length-take-le}
use Rattle.laws.specs.Lists.{member, Ascending}
use Rattle.laws.specs.Each.{Each}
use Rattle.laws.proofs.Members.{member_at, member_place, member_map_place, member_append_cases, each_nil, each_cons, each_member, each_members}
use Rattle.laws.proofs.Sort.{above_member, ascending_nil, ascending_one, ascending_above, ascending_rest, ascending_append}
use Rattle.laws.proofs.Images.{ascending_map}
use Rattle.splicing.specs.Splice.{taken_at, take_out}
use Rattle.binary_search.specs.Seats.{place_of}
use Rattle.changes.specs.Others.{others_of}
use Rattle.changes.proofs.Lists.{place_first, place_passed, others_at, others_none}

-- ---- places of a list in two parts, the first of n elements

module _ (n : ℕ) (at bt : List ℕ) (below : Each (λ (p : ℕ). p < n) at) where
  pub ascending_parts : Ascending at → Ascending bt → Ascending (at ++ map (λ (p : ℕ). n + p) bt)
  ascending_parts a b =
      ascending_append at (map (λ (p : ℕ). n + p) bt) a (ascending_map (λ (p : ℕ). n + p) (λ x y h. omega arith) bt b)
      (λ x y m k.
      let h = each_member (λ (p : ℕ). p < n) at below x m in
      let q = (member_map_place (λ (p : ℕ). n + p) y bt k).2 in
      omega arith)

  pub below_parts : (m : ℕ) → Each (λ (p : ℕ). p < m) bt → Each (λ (p : ℕ). p < n + m) (at ++ map (λ (p : ℕ). n + p) bt)
  below_parts m b =
      each_members (λ (p : ℕ). p < n + m) (at ++ map (λ (p : ℕ). n + p) bt)
      (λ x k.
      ⊎_elim
      (λ (h : member x at ≡ true). let e = each_member (λ (p : ℕ). p < n) at below x h in omega arith)
      (λ (h : member x (map (λ (p : ℕ). n + p) bt) ≡ true).
      let q = member_map_place (λ (p : ℕ). n + p) x bt h in
      let e = each_member (λ (p : ℕ). p < m) bt b q.0 q.1 in
      let f = q.2 in
      omega arith)
      (member_append_cases x at (map (λ (p : ℕ). n + p) bt) k))

-- a part that is itself in two parts
pub shift_parts : (a b : ℕ) (at bt : List ℕ)
    → map (λ (p : ℕ). a + p) (at ++ map (λ (p : ℕ). b + p) bt) ≡ map (λ (p : ℕ). a + p) at ++ map (λ (p : ℕ). a + b + p) bt
shift_parts a b at bt =
    map-append (λ (p : ℕ). a + p) at (map (λ (p : ℕ). b + p) bt)
    ∙ ap (λ (l : List ℕ). map (λ (p : ℕ). a + p) at ++ l) (map-map (λ (p : ℕ). a + p) (λ (p : ℕ). b + p) bt)
    ∙ (λ i. map (λ (p : ℕ). a + p) at ++ map (λ (p : ℕ). sym (add_assoc a b p) i) bt)

-- ---- a part in the middle

pub get_d_middle : (a l b : List ℕ) (i d : ℕ) → i < length l → get_or (a ++ (l ++ b)) (length a + i) d ≡ get_or l i d
get_d_middle a l b i d h = get_or-append-add a (l ++ b) i d ∙ get_or-append l b d i h

pub set_middle : (a l b : List ℕ) (i v : ℕ) → i < length l → set (a ++ (l ++ b)) (length a + i) v ≡ a ++ (set l i v ++ b)
set_middle [] l b i v h = ap (λ (n : ℕ). set (l ++ b) n v) (zero-add i) ∙ set-append_left l b i v h
set_middle (x ∷ a) l b i v h = let e : suc (length a) + i ≡ suc (length a + i) = omega arith in rw e (ap (λ (r : List ℕ). x ∷ r) (set_middle a l b i v h))

-- ---- one less

pub length_take_at : (a : ℕ) (l : List ℕ) → a < length l → length (taken_at a l) + 1 ≡ length l
length_take_at a l h =
    let e = length-append (take a l) (drop (suc a) l) in
    let p = length-take-le a l (omega arith) in
    let q = length-drop (suc a) l in
    omega arith

-- ---- one number of an ascending list

-- how many are below it is where it stands
pub place_at : (l : List ℕ) → Ascending l → (k : ℕ) → k < length l → place_of (get_or l k 0) l ≡ k
place_at [] a k h = absurd (omega arith)
place_at (y ∷ l) a zero h = place_first y y l a (omega arith)
place_at (y ∷ l) a (suc k) h =
    let b = above_member y l (ascending_above y l a) (get_or l k 0) (member_at l k (omega arith)) in
    place_passed (get_or l k 0) y l b ∙ ap suc (place_at l (ascending_rest y l a) k (omega arith))

module _ (x : ℕ) (l : List ℕ) (up : Ascending l) where
  module _ (m : member x l ≡ true) where
    place_member : (place_of x l < length l) × (get_or l (place_of x l) 0 ≡ x)
    place_member =
        let p = member_place x l m in
        let h = p.1 in
        let e : place_of x l ≡ p.0 = ap (λ (y : ℕ). place_of y l) (sym p.2) ∙ place_at l up p.0 p.1 in
        (omega arith, ap (λ (k : ℕ). get_or l k 0) e ∙ p.2)

    -- the others are all but the one at that place
    pub others_member : others_of x l ≡ taken_at (place_of x l) l
    others_member =
        let p = place_member in
        ap (λ (y : ℕ). others_of y l) (sym p.1) ∙ others_at l up (place_of x l) p.0 ∙ ap (λ (k : ℕ). take (place_of x l) l ++ drop k l) (add-one (place_of x l))

    -- so one less
    pub length_others : length (others_of x l) + 1 ≡ length l
    length_others = ap (λ (r : List ℕ). length r + 1) others_member ∙ length_take_at (place_of x l) l place_member.0

  -- its place taken out, if it has one
  pub others_taken : others_of x l ≡ take_out (cond (member x l) (place_of x l ∷ []) []) l
  unfolding take_out
  others_taken = by_test (member x l) refl
    where
      by_test : (b : Bool) → member x l ≡ b → others_of x l ≡ take_out (cond b (place_of x l ∷ []) []) l
      by_test true m = others_member m
      by_test false m = others_none x l m

  -- that place, if there is one, is a place of the list
  pub own_place : Ascending (cond (member x l) (place_of x l ∷ []) []) × Each (λ (p : ℕ). p < length l) (cond (member x l) (place_of x l ∷ []) [])
  own_place = by_test (member x l) refl
    where
      by_test : (b : Bool) → member x l ≡ b → Ascending (cond b (place_of x l ∷ []) []) × Each (λ (p : ℕ). p < length l) (cond b (place_of x l ∷ []) [])
      by_test true m = (ascending_one (place_of x l), each_cons (λ (p : ℕ). p < length l) (place_of x l) [] (place_member m).0 (each_nil (λ (p : ℕ). p < length l)))
      by_test false m = (ascending_nil, each_nil (λ (p : ℕ). p < length l))
