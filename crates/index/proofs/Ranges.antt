-- A test of every number of a range is the test of all below its length; one of each number and the one before it, too. Cited by the proofs of
-- the check's functions.
-- Assumes nothing.
use Rattle.std.proofs.Common.{◌≡◌, refl, sym, ap, ◌∙◌, Bool, true, false, ◌&&◌, ◌||◌, ℕ, zero, suc, ◌+◌, ◌-◌, ◌≤◌, ◌<◌, List, Option, MatchOption, add-zero, arith, eqb}
use mathlib.Core.Logic.{⊎_elim}
use denote.Param.Members.{Mut}
use borrow.Author.Tests.{eq-eqb, ne_eqb}
use Rattle.std.specs.declared.ops.Range.{Range}
use Rattle.std.proofs.iter.Yields.{nat_range_steps}
use Rattle.std.specs.Fn.{Called}
use Rattle.std.specs.Iterator.{YieldsThen}
use Rattle.std.specs.List.{FoldsTo, list_all, range_with_len}
use Rattle.std.proofs.lemmas.Iterator.{YieldsList-from_range}
use Rattle.std.proofs.lemmas.Iterator.Search.{all_from_yields_List}
use Rattle.laws.specs.Below.{all_below}
use Rattle.laws.proofs.Below.{and_both, and_left, and_right, all_at, all_of, all_ext}
use Rattle.laws.proofs.Order.{le_or_lt}
use Rattle.laws.proofs.Tests.{same_test, or_right}

-- the first number apart
all_first : (n : ℕ) (t : ℕ → Bool) → all_below (suc n) t ≡ t 0 && all_below n (λ (i : ℕ). t (suc i))
unfolding all_below
all_first zero t = and_true (t 0)
  where
    and_true : (b : Bool) → true && b ≡ b && true
    and_true true = refl
    and_true false = refl
all_first (suc n) t =
    ap (λ (b : Bool). b && t (suc n)) (all_first n t) ∙ regroup (t 0) (all_below n (λ (i : ℕ). t (suc i))) (t (suc n))
  where
    regroup : (a b c : Bool) → (a && b) && c ≡ a && (b && c)
    regroup true b c = refl
    regroup false b c = refl

pub all_ranged : (t : ℕ → Bool) (n a : ℕ) → list_all t (range_with_len a n) ≡ all_below n (λ (i : ℕ). t (a + i))
all_ranged t zero a = unfold all_below in refl
all_ranged t (suc n) a =
    sym
    (all_first n (λ (i : ℕ). t (a + i))
    ∙ ap (λ (b : Bool). b && all_below n (λ (i : ℕ). t (a + suc i))) (ap t (add-zero a))
    ∙ ap (λ (b : Bool). t a && b)
    (all_ext n (λ (i : ℕ). t (a + suc i)) (λ (i : ℕ). t (a + 1 + i)) (λ i l. ap t (omega arith))
    ∙ sym (all_ranged t n (a + 1))))

-- what `all` over a range answers, where its closure is a test: whether all below n pass t, the i-th number of the range being tested as i is by t
pub all_from_range : {F : Type 0} {g : Mut F (ℕ × Unit {0}) Bool} (test : ℕ → Bool) (n : ℕ) (t : ℕ → Bool) (s u : Range ℕ) (f : F) (r : Bool)
    → (xs : List ℕ) × (o : Option ℕ) × (j : F) × YieldsThen nat_range_steps s xs o u × FoldsTo (λ p x q. Called g p (x, tt) true q) f xs j
    × MatchOption o (r ≡ true) (λ x. (r ≡ false) × ((h : F) × Called g j (x, tt) false h))
    → ((x : ℕ) (b : Bool) (q : F) → Called g f (x, tt) b q → (q ≡ f) × (b ≡ test x))
    → s.end - s.start ≡ n
    → ((i : ℕ) → test (s.start + i) ≡ t i)
    → r ≡ all_below n t
all_from_range test n t s u f r ran calls many same =
    all_from_yields_List test u f r ran (YieldsList-from_range s.start s.end n refl many) calls
    ∙ all_ranged test n s.start
    ∙ all_ext n (λ (i : ℕ). test (s.start + i)) t (λ i l. same i)

-- each number and how the one before it stands to it, tested together or one after the other
pub all_paired : (t : ℕ → Bool) (u : ℕ → ℕ → Bool) (n : ℕ)
    → all_below n (λ (i : ℕ). t i && (eqb i 0 || u (i - 1) i)) ≡ all_below n t && all_below (n - 1) (λ (i : ℕ). u i (i + 1))
all_paired t u n =
    same_test (all_below n both) (all_below n t && all_below (n - 1) next)
    (λ e.
    and_both _ _
    (all_of n t (λ i l. and_left (t i) _ (all_at n both e i l)))
    (all_of (n - 1) next
    (λ i l.
    let later = and_right (t (i + 1)) _ (all_at n both e (i + 1) (omega arith)) in
    let j : i + 1 - 1 ≡ i = omega arith in
    rw (ne_eqb (i + 1) 0 (λ z. omega arith), j) at later)))
    (λ e.
    let alone = all_at n t (and_left (all_below n t) _ e) in
    let paired = all_at (n - 1) next (and_right (all_below n t) _ e) in
    all_of n both
    (λ i l.
    and_both _ _ (alone i l)
    (⊎_elim
    (λ (z : i ≤ 0). rw (eq-eqb i 0 (omega arith)) refl)
    (λ (z : 0 < i). let j : i - 1 + 1 ≡ i = omega arith in or_right (eqb i 0) (u (i - 1) i) (rw j at (paired (i - 1) (omega arith))))
    (le_or_lt i 0))))
  where
    both : ℕ → Bool
    both i = t i && (eqb i 0 || u (i - 1) i)

    next : ℕ → Bool
    next i = u i (i + 1)
