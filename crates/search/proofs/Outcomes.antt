-- What it means that a search is answered or refused, whatever it was given.
-- Assumes nothing.
use mathlib.Core.Path.{◌≡◌, refl, sym, ap, ◌∙◌}
use mathlib.Core.Logic.{⊎_elim}
use mathlib.Core.Bool.{Bool, true, false}
use mathlib.Core.List.{List, []}
use Prim.Native.Nat.{ℕ, ◌≤◌}
use native.Mathlib.Omega.{arith}
use lib.ListN.{length}
use lib.Dec.{ltb}
use borrow.Author.Tests.{ltb-false}
use Rattle.laws.proofs.Order.{eq_or_ne}
use Rattle.laws.proofs.Lists.{count_le}
use Rattle.names.specs.Names.{judge_of}
use Rattle.names.specs.Features.{features_of}
use Rattle.likeness.specs.Measures.{good_measure, good_threshold}
use Rattle.likeness.specs.Terms.{lowest_terms}
use Rattle.laws.specs.Lists.{member}
use Rattle.words.specs.Words.{name_id, name_size}
use Rattle.index.specs.Good.{good_of, Good}
use Rattle.candidates.specs.Method.{held_by}
use Rattle.sizes.specs.Method.{lists_for, shared_with, touches_of, answers_of}
use Rattle.search.specs.Answers.{number_in, rows_in, threshold_p, threshold_q, question_of, refusal_of, search_good_of, search_of, given_by, Answer, Found, Refused}
use Rattle.sizes.proofs.Laws.{length_lists}
use Rattle.search.proofs.Answered.{good_past, good_full, good_found, search_refused, search_runs, question_good, refusal_question, refusal_index}

-- ---- a refusal

-- it has no rows and no threshold
pub refused_empty : (r : Answer) → (number_in r ≡ 0 → ⊥) → (rows_in r ≡ 0) × (threshold_p r ≡ 0) × (threshold_q r ≡ 0)
refused_empty (Found rows touches p q) n = absurd (n refl)
refused_empty (Refused number touches) n = (refl, refl, refl)

-- and gives no place
pub refused_gives : (r : Answer) (l : List ℕ) → (number_in r ≡ 0 → ⊥) → given_by r l ≡ []
unfolding given_by
refused_gives (Found rows touches p q) l n = absurd (n refl)
refused_gives (Refused number touches) l n = refl

-- ---- an answer

pub given_found : (r : Answer) (n t p q : ℕ) (l : List ℕ) → r ≡ Found n t p q → given_by r l ≡ l
unfolding given_by
given_found r n t p q l e = ap (λ (s : Answer). given_by s l) e

-- what is not refused before 7 is admitted: a good query, a known measure, an exact threshold and a good index
pub record Admitted (s : List ℕ) (m p q : ℕ) (w : List ℕ) : Type 0 where
  pub judged : judge_of s ≡ 0
  pub known : good_measure m ≡ true
  pub exact : good_threshold p q ≡ true
  pub good : Good w

pub admitted : (s : List ℕ) (m p q : ℕ) (w : List ℕ) → refusal_of s m p q w ≡ 0 → Admitted s m p q w
admitted s m p q w z =
    ⊎_elim
    (λ (e : question_of s m p q ≡ 0).
    let h = question_good s m p q e in
    record { judged = h.0; known = h.1; exact = h.2; good = by_index e (good_of w) refl })
    (λ (n : question_of s m p q ≡ 0 → ⊥). absurd (n (sym (refusal_question s m p q w n) ∙ z)))
    (eq_or_ne (question_of s m p q) 0)
  where
    by_index : question_of s m p q ≡ 0 → (b : Bool) → good_of w ≡ b → good_of w ≡ true
    by_index e true g = g
    by_index e false g = let r = refusal_index s m p q w e g in absurd (omega arith)

module _ (s : List ℕ) (m p q allowance : ℕ) (w : List ℕ) (room : ℕ) where
  -- what an answered search is
  pub record Answered : Type 0 where
    pub admitted : Admitted s m p q w
    pub form : search_of s m p q allowance w room
        ≡ Found (length (answers_of w m p q (features_of s))) (touches_of w m p q (features_of s)) (lowest_terms p q).p (lowest_terms p q).q
    pub enough : touches_of w m p q (features_of s) ≤ allowance
    pub fits : length (answers_of w m p q (features_of s)) ≤ room

  runs_answered : refusal_of s m p q w ≡ 0 → number_in (search_of s m p q allowance w room) ≡ 0 → Answered
  runs_answered z n = by_tests (ltb allowance (touches_of w m p q (features_of s))) refl (ltb room (length (answers_of w m p q (features_of s)))) refl
    where
      runs : search_of s m p q allowance w room ≡ search_good_of s m p q allowance w room
      runs = search_runs s m p q allowance w room z

      by_tests : (b : Bool) → ltb allowance (touches_of w m p q (features_of s)) ≡ b
          → (f : Bool) → ltb room (length (answers_of w m p q (features_of s))) ≡ f → Answered
      by_tests true t f r = let e = ap number_in (runs ∙ good_past s m p q allowance w room t) in absurd (omega arith)
      by_tests false t true r = let e = ap number_in (runs ∙ good_full s m p q allowance w room t r) in absurd (omega arith)
      by_tests false t false r =
          record {
            admitted = admitted s m p q w z;
            form = runs ∙ good_found s m p q allowance w room t r;
            enough = (let h = ltb-false allowance (touches_of w m p q (features_of s)) t in omega arith);
            fits = (let h = ltb-false room (length (answers_of w m p q (features_of s))) r in omega arith);
          }

  pub answered : number_in (search_of s m p q allowance w room) ≡ 0 → Answered
  answered n =
      ⊎_elim
      (λ (z : refusal_of s m p q w ≡ 0). runs_answered z n)
      (λ (r : refusal_of s m p q w ≡ 0 → ⊥).
      absurd (r (sym (ap number_in (search_refused s m p q allowance w room (refusal_of s m p q w) refl r)) ∙ n)))
      (eq_or_ne (refusal_of s m p q w) 0)

-- a name shares at most the query's features
pub shared_most : (w f : List ℕ) (i : ℕ) → shared_with w f i ≤ length f
unfolding shared_with held_by
shared_most w f i =
    let h = count_le (λ (l : List ℕ). member (name_id w i) l) (lists_for w (name_size w i) f) in
    let n = length_lists w (name_size w i) f in
    omega arith
