-- Laws of the elements that pass a test. Cited by `ordering` and `candidates`.
-- Assumes nothing.
use mathlib.Core.Path.{◌≡◌, refl, sym, ap, ◌∙◌}
use mathlib.Core.Bool.{Bool, true, false, cond, ◌&&◌, ◌||◌}
use mathlib.Core.List.{List, [], ◌∷◌, ◌++◌}
use Prim.Native.Nat.{ℕ, ◌≤◌}
use native.Mathlib.Omega.{arith}
use lib.ListN.{length}
use lib.Dec.{eqb}
use borrow.Author.Tests.{eqb-true}
use Rattle.laws.specs.Lists.{member, Distinct}
use Rattle.laws.specs.Filter.{filter_of}
use Rattle.laws.proofs.Below.{and_false_left, and_false_right}
use Rattle.laws.proofs.Members.{member_head, member_tail}

pub filter_nil : {A : Type 0} (t : A → Bool) → filter_of t [] ≡ []
unfolding filter_of
filter_nil t = refl

-- one element more at the start: it passes, or it does not
module _ {A : Type 0} (t : A → Bool) (x : A) (l : List A) where
  pub filter_met : t x ≡ true → filter_of t (x ∷ l) ≡ x ∷ filter_of t l
  unfolding filter_of
  filter_met e = rw e refl

  pub filter_passed : t x ≡ false → filter_of t (x ∷ l) ≡ filter_of t l
  unfolding filter_of
  filter_passed e = rw e refl

pub filter_append : {A : Type 0} (t : A → Bool) (k l : List A) → filter_of t (k ++ l) ≡ filter_of t k ++ filter_of t l
unfolding filter_of
filter_append t [] l = refl
filter_append {A} t (x ∷ k) l = by_test (t x) (filter_append t k l)
  where
    by_test : (b : Bool) → filter_of t (k ++ l) ≡ filter_of t k ++ filter_of t l
        → cond b (x ∷ filter_of t (k ++ l)) (filter_of t (k ++ l)) ≡ cond b (x ∷ filter_of t k) (filter_of t k) ++ filter_of t l
    by_test true h = ap (λ (r : List A). x ∷ r) h
    by_test false h = h

-- one element more at the end
pub filter_snoc : {A : Type 0} (t : A → Bool) (l : List A) (x : A) → filter_of t (l ++ (x ∷ [])) ≡ filter_of t l ++ cond (t x) (x ∷ []) []
filter_snoc t l x = filter_append t l (x ∷ []) ∙ (unfold filter_of in refl)

pub length_filter : {A : Type 0} (t : A → Bool) (l : List A) → length (filter_of t l) ≤ length l
unfolding filter_of
length_filter t [] = omega arith
length_filter t (x ∷ l) = by_test (t x) (length_filter t l)
  where
    by_test : (b : Bool) → length (filter_of t l) ≤ length l → length (cond b (x ∷ filter_of t l) (filter_of t l)) ≤ length (x ∷ l)
    by_test true h = omega arith
    by_test false h = omega arith

-- all pass, or none does
pub filter_all : (t : ℕ → Bool) (l : List ℕ) → ((x : ℕ) → member x l ≡ true → t x ≡ true) → filter_of t l ≡ l
filter_all t [] h = filter_nil t
filter_all t (x ∷ l) h = filter_met t x l (h x (member_head x l)) ∙ ap (λ (r : List ℕ). x ∷ r) (filter_all t l (λ y m. h y (member_tail x y l m)))

pub filter_none : (t : ℕ → Bool) (l : List ℕ) → ((x : ℕ) → member x l ≡ true → t x ≡ false) → filter_of t l ≡ []
filter_none t [] h = filter_nil t
filter_none t (x ∷ l) h = filter_passed t x l (h x (member_head x l)) ∙ filter_none t l (λ y m. h y (member_tail x y l m))

-- a member of those that pass is a member that passes
pub member_filter : (t : ℕ → Bool) (x : ℕ) (l : List ℕ) → member x (filter_of t l) ≡ member x l && t x
unfolding filter_of member
member_filter t x [] = refl
member_filter t x (y ∷ l) = by_test (t y) refl (eqb x y) refl (member_filter t x l)
  where
    by_test : (b : Bool) → t y ≡ b → (c : Bool) → eqb x y ≡ c → member x (filter_of t l) ≡ member x l && t x
        → member x (cond b (y ∷ filter_of t l) (filter_of t l)) ≡ (c || member x l) && t x
    by_test true p true q h =
        let e : x ≡ y = eqb-true x y q in
        rw q (sym (ap t e ∙ p))
    by_test true p false q h = rw q h
    by_test false p true q h =
        let e : t x ≡ false = ap t (eqb-true x y q) ∙ p in
        h ∙ and_false_right (member x l) (t x) e ∙ sym e
    by_test false p false q h = h

pub distinct_filter : (t : ℕ → Bool) (l : List ℕ) → Distinct l → Distinct (filter_of t l)
unfolding filter_of Distinct
distinct_filter t [] d = tt
distinct_filter t (x ∷ l) d = by_test (t x) (distinct_filter t l d.1)
  where
    by_test : (b : Bool) → Distinct (filter_of t l) → Distinct (cond b (x ∷ filter_of t l) (filter_of t l))
    by_test true h = (member_filter t x l ∙ and_false_left (member x l) (t x) d.0, h)
    by_test false h = h
