-- A good index under the limits of before and of now: specs/Limits.antt says what, this file cites why.
-- Assumes nothing.
use mathlib.Core.Path.{◌≡◌, refl, sym, ap, ◌∙◌}
use mathlib.Core.Logic.{⊎_elim}
use mathlib.Core.Bool.{true, not}
use mathlib.Core.List.{List, []}
use Prim.Native.Nat.{ℕ, ◌≤◌, ◌<◌}
use native.Mathlib.Omega.{arith}
use Rattle.laws.specs.Cases.{first_case, all_numbers, all_numbered}
use Rattle.laws.proofs.Cases.{first_here, first_next, first_front, first_behind}
use Rattle.laws.proofs.Order.{eq_or_ne}
use Rattle.laws.proofs.Tests.{test_fails}
use Rattle.names.specs.Features.{most_features}
use Rattle.words.specs.Words.{name_count, posting_count, name_size}
use Rattle.index.specs.Good.{most_postings, Good, good_within, Inside}
use Rattle.index.proofs.Limits.{good_limits, within_inside, within_other}
use Rattle.statements.specs.Limits.{former_largest, former_most, GoodBefore, RefusedBefore, question_before, index_before, SixBefore, SearchedBefore, Longer}

-- none of the question's refusals has the number 0
question_numbered : (query : List ℕ) (m p q : ℕ) → all_numbered (question_before query m p q) ≡ true
unfolding all_numbers
question_numbered query m p q = refl

six : (w : List ℕ) → RefusedBefore w → SixBefore w
six w b query m p q z =
    first_behind (question_before query m p q) (index_before w) (question_numbered query m p q) z
    ∙ first_here 6 (not (good_within former_largest former_most w)) [] (ap not b)

searched : (w : List ℕ) → GoodBefore w → SearchedBefore w
unfolding first_case
searched w g query m p q =
    ⊎_elim
    (λ (z : first_case (question_before query m p q) ≡ 0).
    first_behind (question_before query m p q) (index_before w) (question_numbered query m p q) z
    ∙ first_next 6 (not (good_within former_largest former_most w)) [] (ap not g)
    ∙ sym z)
    (λ (n : first_case (question_before query m p q) ≡ 0 → ⊥). first_front (question_before query m p q) (index_before w) n)
    (eq_or_ne (first_case (question_before query m p q)) 0)

pub longer : Longer
longer w =
    record {
      now = good_limits w;
      stays = λ g. good_limits w ∙ grown former_largest former_most most_features most_postings (omega arith) (omega arith) g;
      larger_size = larger;
      more_postings = more;
      no_other = other;
      larger_six = λ i h s. six w (larger i h s);
      postings_six = λ p. six w (more p);
      searched = λ g o. searched w (other g o);
      wider = grown;
    }
  where
    grown : (largest most largest' most' : ℕ) → largest ≤ largest' → most ≤ most' → good_within largest most w ≡ true → good_within largest' most' w ≡ true
    grown largest most largest' most' s p g =
        let o = within_inside w largest most g in
        within_other w largest most g largest' most'
        (record { sizes = λ i h. (let z = o.sizes i h in omega arith); postings = (let z = o.postings in omega arith) })

    larger : (i : ℕ) → i < name_count w → former_largest < name_size w i → RefusedBefore w
    larger i h s = test_fails (good_within former_largest former_most w) (λ g. (let z = (within_inside w former_largest former_most g).sizes i h in omega arith))

    more : former_most < posting_count w → RefusedBefore w
    more p = test_fails (good_within former_largest former_most w) (λ g. (let z = (within_inside w former_largest former_most g).postings in omega arith))

    other : Good w → Inside former_largest former_most w → GoodBefore w
    other g o = within_other w most_features most_postings (sym (good_limits w) ∙ g) former_largest former_most o
