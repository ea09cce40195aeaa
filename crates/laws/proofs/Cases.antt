-- Laws of a judgement by cases: the first case, and one list of cases after another.
-- Assumes nothing.
use mathlib.Core.Path.{◌≡◌, refl, sym}
use mathlib.Core.Bool.{Bool, true, false, cond, not, ◌&&◌, false≢true}
use mathlib.Core.List.{List, [], ◌∷◌, ◌++◌}
use Prim.Native.Nat.{ℕ}
use lib.Dec.{eqb}
use borrow.Author.Tests.{eqb-false}
use Rattle.laws.specs.Cases.{Case, case, first_case, all_numbers, all_numbered}

pub not_false : (b : Bool) → not b ≡ false → b ≡ true
not_false true e = refl
not_false false e = sym e

-- ---- the first case

module _ (n : ℕ) (b : Bool) (cs : List Case) where
  pub first_here : b ≡ true → first_case (case n b ∷ cs) ≡ n
  unfolding first_case
  first_here e = rw e

  pub first_next : b ≡ false → first_case (case n b ∷ cs) ≡ first_case cs
  unfolding first_case
  first_next e = rw e

  -- where nothing applies, the first case does not, and none after it
  pub first_passed : (n ≡ 0 → ⊥) → first_case (case n b ∷ cs) ≡ 0 → (b ≡ false) × (first_case cs ≡ 0)
  unfolding first_case
  first_passed z = by_test b
    where
      by_test : (t : Bool) → cond t n (first_case cs) ≡ 0 → (t ≡ false) × (first_case cs ≡ 0)
      by_test true e = absurd (z e)
      by_test false e = (refl, e)

-- ---- one list after another

numbered_first : (c : Case) (cs : List Case) → all_numbered (c ∷ cs) ≡ true → (c.number ≡ 0 → ⊥) × (all_numbered cs ≡ true)
unfolding all_numbers
numbered_first c cs h = by_test (eqb c.number 0) refl h
  where
    by_test : (t : Bool) → eqb c.number 0 ≡ t → not t && all_numbered cs ≡ true → (c.number ≡ 0 → ⊥) × (all_numbered cs ≡ true)
    by_test true e h = absurd (false≢true h)
    by_test false e h = (eqb-false c.number 0 e, h)

-- what holds of 0 and of every case's number holds of the first's
pub first_number : (t : ℕ → Bool) (cs : List Case) → t 0 ≡ true → all_numbers t cs ≡ true → t (first_case cs) ≡ true
unfolding first_case all_numbers
first_number t [] z h = z
first_number t (c ∷ cs) z h = by_test (t c.number) refl c.applies (first_number t cs z) h
  where
    by_test : (p : Bool) → t c.number ≡ p → (b : Bool) → (all_numbers t cs ≡ true → t (first_case cs) ≡ true) → p && all_numbers t cs ≡ true
        → t (cond b c.number (first_case cs)) ≡ true
    by_test true e true i h = e
    by_test true e false i h = i h
    by_test false e b i h = absurd (false≢true h)

-- a case of the first list decides
pub first_front : (xs ys : List Case) → (first_case xs ≡ 0 → ⊥) → first_case (xs ++ ys) ≡ first_case xs
unfolding first_case
first_front [] ys n = absurd (n refl)
first_front (x ∷ xs) ys n = by_test x.applies (first_front xs ys) n
  where
    by_test : (t : Bool) → ((first_case xs ≡ 0 → ⊥) → first_case (xs ++ ys) ≡ first_case xs) → (cond t x.number (first_case xs) ≡ 0 → ⊥)
        → cond t x.number (first_case (xs ++ ys)) ≡ cond t x.number (first_case xs)
    by_test true h n = refl
    by_test false h n = h n

-- and where it has none that applies, the second
pub first_behind : (xs ys : List Case) → all_numbered xs ≡ true → first_case xs ≡ 0 → first_case (xs ++ ys) ≡ first_case ys
unfolding first_case
first_behind [] ys h z = refl
first_behind (x ∷ xs) ys h z = by_test x.applies (first_behind xs ys (numbered_first x xs h).1) z
  where
    by_test : (t : Bool) → (first_case xs ≡ 0 → first_case (xs ++ ys) ≡ first_case ys) → cond t x.number (first_case xs) ≡ 0
        → cond t x.number (first_case (xs ++ ys)) ≡ first_case ys
    by_test true i e = absurd ((numbered_first x xs h).0 e)
    by_test false i e = i e

-- where nothing applies, neither list has a case that does
pub first_split : (xs ys : List Case) → all_numbered xs ≡ true → first_case (xs ++ ys) ≡ 0 → (first_case xs ≡ 0) × (first_case ys ≡ 0)
unfolding first_case
first_split [] ys h z = (refl, z)
first_split (x ∷ xs) ys h z = by_test x.applies (first_split xs ys (numbered_first x xs h).1) z
  where
    by_test : (t : Bool) → (first_case (xs ++ ys) ≡ 0 → (first_case xs ≡ 0) × (first_case ys ≡ 0)) → cond t x.number (first_case (xs ++ ys)) ≡ 0
        → (cond t x.number (first_case xs) ≡ 0) × (first_case ys ≡ 0)
    by_test true i e = absurd ((numbered_first x xs h).0 e)
    by_test false i e = i e
