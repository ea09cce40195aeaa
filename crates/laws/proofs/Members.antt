-- Laws of the members of a list, and of a statement of each of them. Cited by `lines`, `sorting`, and from `index` to `statements` by
-- most crates.
-- Assumes nothing.
use mathlib.Core.Path.{◌≡◌, refl, sym, ap, ◌∙◌}
use mathlib.Core.Logic.{◌⊎◌, inl, inr, ⊎_elim}
use mathlib.Core.Bool.{Bool, true, false, ◌||◌, true≢false, false≢true}
use mathlib.Core.List.{List, [], ◌∷◌, ◌++◌, map}
use Prim.Native.Nat.{ℕ, zero, suc, ◌<◌}
use native.Mathlib.Omega.{arith}
use lib.ListN.{length, get_or}
use lib.Dec.{eqb}
use borrow.Author.Tests.{eqb-true}
use Rattle.laws.specs.Lists.{member, Distinct}
use Rattle.laws.specs.Each.{Each}
use Rattle.laws.proofs.Lists.{eqb_same, member_append}
use Rattle.laws.proofs.Tests.{test_fails, or_right}

-- ---- tests

pub or_cases : (a b : Bool) → a || b ≡ true → (a ≡ true) ⊎ (b ≡ true)
or_cases true b e = inl refl
or_cases false b e = inr e

-- ---- one element in front

pub member_head : (x : ℕ) (l : List ℕ) → member x (x ∷ l) ≡ true
unfolding member
member_head x l = rw (eqb_same x)

pub member_tail : (x y : ℕ) (l : List ℕ) → member y l ≡ true → member y (x ∷ l) ≡ true
unfolding member
member_tail x y l m = or_right (eqb y x) (member y l) m

pub member_cases : (x y : ℕ) (l : List ℕ) → member y (x ∷ l) ≡ true → (y ≡ x) ⊎ (member y l ≡ true)
unfolding member
member_cases x y l m = ⊎_elim (λ (e : eqb y x ≡ true). inl (eqb-true y x e)) (λ (e : member y l ≡ true). inr e) (or_cases (eqb y x) (member y l) m)

pub member_nil : (x : ℕ) → member x [] ≡ true → ⊥
unfolding member
member_nil x m = false≢true m

pub member_one : (x y : ℕ) → member y (x ∷ []) ≡ true → y ≡ x
member_one x y m = ⊎_elim (λ (e : y ≡ x). e) (λ (e : member y [] ≡ true). absurd (member_nil y e)) (member_cases x y [] m)

-- ---- two lists

pub member_left : (x : ℕ) (k l : List ℕ) → member x k ≡ true → member x (k ++ l) ≡ true
member_left x k l m = member_append x k l ∙ (rw m)

pub member_right : (x : ℕ) (k l : List ℕ) → member x l ≡ true → member x (k ++ l) ≡ true
member_right x k l m = member_append x k l ∙ or_right (member x k) (member x l) m

pub member_append_cases : (x : ℕ) (k l : List ℕ) → member x (k ++ l) ≡ true → (member x k ≡ true) ⊎ (member x l ≡ true)
member_append_cases x k l m = or_cases (member x k) (member x l) (sym (member_append x k l) ∙ m)

-- ---- by place

pub member_at : (l : List ℕ) (i : ℕ) → i < length l → member (get_or l i 0) l ≡ true
member_at [] i h = absurd (omega arith)
member_at (x ∷ l) zero h = member_head x l
member_at (x ∷ l) (suc i) h = member_tail x (get_or l i 0) l (member_at l i (omega arith))

pub member_place : (x : ℕ) (l : List ℕ) → member x l ≡ true → (i : ℕ) × (i < length l) × (get_or l i 0 ≡ x)
member_place x [] m = absurd (member_nil x m)
member_place x (y ∷ l) m =
    ⊎_elim
    {C = (i : ℕ) × (i < length (y ∷ l)) × (get_or (y ∷ l) i 0 ≡ x)}
    (λ (e : x ≡ y). (0, omega arith, sym e))
    (λ (n : member x l ≡ true). let h = member_place x l n in (suc h.0, (let b = h.1 in omega arith), h.2))
    (member_cases y x l m)

-- ---- images

pub member_map : (f : ℕ → ℕ) (x : ℕ) (l : List ℕ) → member x l ≡ true → member (f x) (map f l) ≡ true
member_map f x [] m = absurd (member_nil x m)
member_map f x (y ∷ l) m =
    ⊎_elim
    (λ (e : x ≡ y). ap (λ (z : ℕ). member (f z) (f y ∷ map f l)) e ∙ member_head (f y) (map f l))
    (λ (n : member x l ≡ true). member_tail (f y) (f x) (map f l) (member_map f x l n))
    (member_cases y x l m)

pub member_map_place : (f : ℕ → ℕ) (y : ℕ) (l : List ℕ) → member y (map f l) ≡ true → (x : ℕ) × (member x l ≡ true) × (f x ≡ y)
member_map_place f y [] m = absurd (member_nil y m)
member_map_place f y (x ∷ l) m =
    ⊎_elim
    {C = (z : ℕ) × (member z (x ∷ l) ≡ true) × (f z ≡ y)}
    (λ (e : y ≡ f x). (x, member_head x l, sym e))
    (λ (n : member y (map f l) ≡ true). let h = member_map_place f y l n in (h.0, member_tail x h.0 l h.1, h.2))
    (member_cases (f x) y (map f l) m)

-- ---- all different

pub distinct_append : (k l : List ℕ) → Distinct k → Distinct l → ((x : ℕ) → member x k ≡ true → member x l ≡ true → ⊥) → Distinct (k ++ l)
unfolding Distinct
distinct_append [] l d c n = c
distinct_append (x ∷ k) l d c n =
    (test_fails (member x (k ++ l)) apart, distinct_append k l d.1 c (λ y m. n y (member_tail x y k m)))
  where
    apart : member x (k ++ l) ≡ true → ⊥
    apart m =
        ⊎_elim
        (λ (e : member x k ≡ true). true≢false (sym e ∙ d.0))
        (λ (e : member x l ≡ true). n x (member_head x k) e)
        (member_append_cases x k l m)

-- the images are all different where f takes no two of the elements to one
pub distinct_map : (f : ℕ → ℕ) (l : List ℕ) → Distinct l
    → ((x y : ℕ) → member x l ≡ true → member y l ≡ true → f x ≡ f y → x ≡ y) → Distinct (map f l)
unfolding Distinct
distinct_map f [] d n = tt
distinct_map f (x ∷ l) d n =
    (test_fails (member (f x) (map f l)) apart, distinct_map f l d.1 (λ y z m o. n y z (member_tail x y l m) (member_tail x z l o)))
  where
    apart : member (f x) (map f l) ≡ true → ⊥
    apart m =
        let h = member_map_place f (f x) l m in
        let e : h.0 ≡ x = n h.0 x (member_tail x h.0 l h.1) (member_head x l) h.2 in
        true≢false (sym h.1 ∙ ap (λ (z : ℕ). member z l) e ∙ d.0)

-- ---- a statement of each element

module _ {A : Type 0} (P : A → Type 0) where
  pub each_nil : Each P []
  unfolding Each
  each_nil = tt

  pub each_cons : (x : A) (l : List A) → P x → Each P l → Each P (x ∷ l)
  unfolding Each
  each_cons x l p h = (p, h)

  pub each_first : (x : A) (l : List A) → Each P (x ∷ l) → P x
  unfolding Each
  each_first x l h = h.0

  pub each_rest : (x : A) (l : List A) → Each P (x ∷ l) → Each P l
  unfolding Each
  each_rest x l h = h.1

  pub each_append : (k l : List A) → Each P k → Each P l → Each P (k ++ l)
  unfolding Each
  each_append [] l h g = g
  each_append (x ∷ k) l h g = (h.0, each_append k l h.1 g)

  pub each_at : (l : List A) (i : ℕ) (d : A) → Each P l → i < length l → P (get_or l i d)
  unfolding Each
  each_at [] i d h b = absurd (omega arith)
  each_at (x ∷ l) zero d h b = h.0
  each_at (x ∷ l) (suc i) d h b = each_at l i d h.1 (omega arith)

  pub each_of : (l : List A) (d : A) → ((i : ℕ) → i < length l → P (get_or l i d)) → Each P l
  unfolding Each
  each_of [] d h = tt
  each_of (x ∷ l) d h = (h 0 (omega arith), each_of l d (λ i b. h (suc i) (omega arith)))

pub each_member : (P : ℕ → Type 0) (l : List ℕ) → Each P l → (x : ℕ) → member x l ≡ true → P x
unfolding Each
each_member P [] h x m = absurd (member_nil x m)
each_member P (y ∷ l) h x m =
    ⊎_elim (λ (e : x ≡ y). rw e h.0) (λ (n : member x l ≡ true). each_member P l h.1 x n) (member_cases y x l m)

pub each_members : (P : ℕ → Type 0) (l : List ℕ) → ((x : ℕ) → member x l ≡ true → P x) → Each P l
unfolding Each
each_members P [] h = tt
each_members P (y ∷ l) h = (h y (member_head y l), each_members P l (λ x m. h x (member_tail y x l m)))
