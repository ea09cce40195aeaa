-- `likeness::least_count` meets its contract: the search comes to the larger size, or to 1, which is similar, so it finds a count, and the first one is the least.
-- Assumes nothing.
use Rattle.std.proofs.Common.{◌≡◌, ◌≤◌, ◌<◌, ℕ, Bool, true, false, Option, MatchOption, refl, sym, ap, ◌∙◌, arith, rules, Bor}
use denote.Param.Members.{Mut}
use Rattle.std.specs.declared.ops.RangeInclusive.{RangeInclusive}
use Rattle.std.specs.Range.{range_inclusive_start, range_inclusive_end, range_inclusive_exhausted}
use Rattle.std.specs.Iterator.{FindsItem}
use Rattle.std.specs.Fn.{CalledAt}
use Rattle.likeness.specs.declared.Measure.{Measure}
use Rattle.likeness.specs.declared.Measure.TheVariants.{Dice, Jaccard, Cosine, Overlap}
use Rattle.likeness.specs.Measures.{good_measure, good_threshold, measure_of, reaches, is_similar, known}
use Rattle.likeness.specs.Named.{meant}
use Rattle.likeness.proofs.Measures.{similar_reaches}
use Rattle.likeness.proofs.Inclusive.{steps, first_from_RangeInclusive}
use Rattle.likeness.proofs.Least.{least_is, least_met, least_bad_measure, least_bad_threshold}
use Rattle.likeness.proofs.least_count.Goals as goal

pub returns-in_default : goal.returns-in_default
unfolding good_measure
returns-in_default c = sym (least_bad_measure _ _ _ _ _ (rw c.in_default.ensures))

pub returns-then-not-good_threshold : goal.returns-then-not-good_threshold
returns-then-not-good_threshold c =
    sym (least_bad_threshold _ _ _ _ _ (sym c.good_threshold.ensures ∙ c.if-not-good_threshold.true))

-- each of the code's measures is a good one
meant_known : (m : Measure) → known (meant m) ≡ true
meant_known Dice = refl
meant_known Jaccard = refl
meant_known Cosine = refl
meant_known Overlap = refl

named_good : (n : ℕ) (m : Measure) → measure_of n ≡ meant m → good_measure n ≡ true
unfolding good_measure
named_good n m e = ap known e ∙ meant_known m

-- whether a count is similar is whether it reaches the threshold by the measure that the number names
named_similar : (n : ℕ) (m : Measure) (p q x y k : ℕ) → measure_of n ≡ meant m → good_threshold p q ≡ true
    → is_similar n p q x y k ≡ reaches (meant m) p q x y k
named_similar n m p q x y k e g = similar_reaches n p q x y k g ∙ ap (λ z. reaches z p q x y k) e

-- what a search finds by a closure that tells whether a count reaches the threshold
found : {F : Type 0} {g : Mut F (Bor ℕ × Unit {0}) Bool} (n : ℕ) (m : Measure) (p q x y : ℕ) (s u : RangeInclusive ℕ) (f : F) (r : Option ℕ)
    → measure_of n ≡ meant m → good_threshold p q ≡ true → range_inclusive_exhausted s ≡ false → FindsItem steps g s f r u
    → ((k : ℕ) (b : Bool) (h : F) → CalledAt g f k b h → (h ≡ f) × (b ≡ reaches (meant m) p q x y k))
    → MatchOption r ((k : ℕ) → range_inclusive_start s ≤ k → k ≤ range_inclusive_end s → is_similar n p q x y k ≡ false)
    (λ c. (range_inclusive_start s ≤ c) × (c ≤ range_inclusive_end s) × (is_similar n p q x y c ≡ true)
    × ((k : ℕ) → range_inclusive_start s ≤ k → k < c → is_similar n p q x y k ≡ false))
found n m p q x y s u f r e t fresh d tells =
    let similar = λ (k : ℕ). named_similar n m p q x y k e t in
    first_from_RangeInclusive s u f r (λ k. is_similar n p q x y k ≡ true) (λ k. is_similar n p q x y k ≡ false) d fresh
    (λ k h c. similar k ∙ sym (tells k true h c).1)
    (λ k h c. ((tells k false h c).0, similar k ∙ sym (tells k false h c).1))

pub unwrap-requires : goal.unwrap-requires
unwrap-requires c =
    let a = c.args in
    let n = c.new.ensures in
    let t : good_threshold a.p a.q ≡ true = sym c.good_threshold.ensures ∙ c.if-not-good_threshold.false in
    least_met a.measure a.p a.q a.x a.y (named_good _ _ c.in-Ok.ensures) t _ _ (omega arith) (omega arith) _ c.find.result
    (found a.measure c.in-Ok.measure a.p a.q a.x a.y _ _ _ c.find.result c.in-Ok.ensures t n.exhausted c.find.ensures.ran (λ k b h d. search rules))

pub returns : goal.returns
returns c =
    let a = c.args in
    let n = c.new.ensures in
    let t : good_threshold a.p a.q ≡ true = sym c.good_threshold.ensures ∙ c.if-not-good_threshold.false in
    let f =
    rw (c.unwrap.ensures, n.start) at
    (found a.measure c.in-Ok.measure a.p a.q a.x a.y _ _ _ c.find.result c.in-Ok.ensures t n.exhausted c.find.ensures.ran (λ k b h d. search rules))
    in
    least_is a.measure a.p a.q a.x a.y (named_good _ _ c.in-Ok.ensures) t c.unwrap.result (omega (arith, f.0)) f.2 f.3
