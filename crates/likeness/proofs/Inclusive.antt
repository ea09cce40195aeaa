-- `find` over a range with its end, said of the numbers in it and not of a list: what `first_from_Range` says of a range without it. Cited by
-- `least_count`. Assumes nothing.
use Rattle.std.proofs.Common.{◌≡◌, ℕ, suc, ◌+◌, ◌-◌, ◌≤◌, ◌<◌, Bool, true, false, refl, sym, subst, ap, ap₂, ◌∙◌, arith, List, ◌∷◌, length, get_or, Option, None, Some, MatchOption, HoldsAt, Bor}
use denote.Param.Members.{Mut}
use Rattle.std.specs.declared.ops.RangeInclusive.{RangeInclusive}
use Rattle.std.specs.Fn.{CalledAt}
use Rattle.std.specs.Iterator.{FindsItem}
use Rattle.std.specs.List.{AllWithin, range_with_len}
use Rattle.std.specs.Range.{range_inclusive_start, range_inclusive_end, range_inclusive_exhausted, range_inclusive_left, range_inclusive_steps}
use Rattle.std.proofs.lemmas.Iterator.{first_from_find}
use Rattle.std.proofs.lemmas.Iterator.Consumers.{YieldsList-from_shown}
use Rattle.std.proofs.lemmas.List.FromFn.{length-range_with_len, get_or-range_with_len}

-- of a range of natural numbers: how many are left, which ones, and what a call gives
abbrev left : RangeInclusive ℕ → ℕ
left = range_inclusive_left (λ x y. y - x)

abbrev shown : RangeInclusive ℕ → List ℕ
shown s = range_with_len (range_inclusive_start s) (left s)

abbrev pub steps : RangeInclusive ℕ → Option ℕ → RangeInclusive ℕ → Type 0
steps = range_inclusive_steps (λ x y. y - x) (λ x y. y ≡ x + 1)

-- the number that comes is the first of those that are shown; after the last one none is left
goes : (s : RangeInclusive ℕ) (x : ℕ) (t : RangeInclusive ℕ) → steps s (Some x) t → shown s ≡ x ∷ shown t
goes s x t p =
    let n : left s ≡ suc (left t) = omega (arith, p.1.1) in
    ap (range_with_len (range_inclusive_start s)) n
    ∙ ap₂ (λ k ks. k ∷ ks) (sym p.1.0) (rest (range_inclusive_exhausted t) refl)
  where
    rest : (b : Bool) → range_inclusive_exhausted t ≡ b → range_with_len (range_inclusive_start s + 1) (left t) ≡ shown t
    rest true e = rw e
    rest false e = ap (λ k. range_with_len k (left t)) (sym (p.1.2 e))

pub first_from_RangeInclusive : {F : Type 0} {g : Mut F (Bor ℕ × Unit {0}) Bool} (s u : RangeInclusive ℕ) (f : F) (r : Option ℕ) (Yes No : ℕ → Type 0)
    → FindsItem steps g s f r u
    → range_inclusive_exhausted s ≡ false
    → ((x : ℕ) (q : F) → CalledAt g f x true q → Yes x) → ((x : ℕ) (q : F) → CalledAt g f x false q → (q ≡ f) × No x)
    → MatchOption r ((k : ℕ) → range_inclusive_start s ≤ k → k ≤ range_inclusive_end s → No k)
    (λ i. (range_inclusive_start s ≤ i) × (i ≤ range_inclusive_end s) × Yes i × ((k : ℕ) → range_inclusive_start s ≤ k → k < i → No k))
first_from_RangeInclusive s u f r Yes No d fresh yes' no' =
    by r (first_from_find u f r Yes No d (YieldsList-from_shown steps (λ x. x) shown (λ s t p. length-range_with_len _ (left s) ∙ p.1.0) goes s) yes' no')
  where
    a : ℕ
    a = range_inclusive_start s

    long : length (shown s) ≡ left s
    long = length-range_with_len a (left s)

    span : left s ≡ range_inclusive_end s + 1 - a
    span = rw fresh (omega arith)

    below : (n : ℕ) → n ≤ left s → AllWithin No (shown s) 0 n → (k : ℕ) → a ≤ k → k < a + n → No k
    below n l h k b c =
        subst No {x = get_or (shown s) (k - a) 0} {y = k}
        (omega (arith, get_or-range_with_len a (left s) (k - a) 0 (omega arith)))
        (h (k - a) 0 (omega arith) (omega arith))

    by : (o : Option ℕ)
        → MatchOption o (AllWithin No (shown s) 0 (length (shown s))) (λ x. Yes x × (i : ℕ) × (i < length (shown s)) × HoldsAt (λ y. y ≡ x) (shown s) i × AllWithin No (shown s) 0 i)
        → MatchOption o ((k : ℕ) → a ≤ k → k ≤ range_inclusive_end s → No k) (λ i. (a ≤ i) × (i ≤ range_inclusive_end s) × Yes i × ((k : ℕ) → a ≤ k → k < i → No k))
    by None h = λ k b c. below (length (shown s)) (omega (arith, long)) h k b (omega (arith, long, span))
    by (Some x) h =
        let i : h.1 < left s = omega (arith, long, h.2) in
        let e : x ≡ a + h.1 = sym (h.3 0) ∙ get_or-range_with_len a (left s) h.1 0 i in
        (omega arith, omega (arith, span), h.0, λ k b c. below h.1 (omega arith) h.4 k b (omega arith))
