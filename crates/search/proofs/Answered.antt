-- The cases of an answer, as the definition sets them out. Cited by the proofs of `question`, `search_good` and `search`, by
-- Running.antt and Outcomes.antt, and by `statements`.
-- Assumes nothing.
use mathlib.Core.Path.{◌≡◌, refl, sym, ap, ◌∙◌}
use mathlib.Core.Bool.{true, false, not}
use mathlib.Core.List.{List, [], ◌∷◌}
use Prim.Native.Nat.{ℕ}
use native.Mathlib.Omega.{arith}
use lib.ListN.{length}
use lib.Dec.{ltb}
use borrow.Author.Tests.{ne_eqb}
use Rattle.laws.specs.Cases.{Case, case, first_case, all_numbers, all_numbered}
use Rattle.laws.proofs.Cases.{not_false, first_here, first_next, first_passed, first_front, first_behind, first_split}
use Rattle.names.specs.Names.{name_cases, judge_of}
use Rattle.names.specs.Features.{features_of}
use Rattle.names.proofs.Laws.{names_numbered}
use Rattle.likeness.specs.Measures.{good_measure, good_threshold}
use Rattle.likeness.specs.Terms.{lowest_terms}
use Rattle.index.specs.Good.{good_of}
use Rattle.sizes.specs.Method.{touches_of, answers_of}
use Rattle.search.specs.Answers.{question_cases, question_of, refusal_of, search_good_of, search_of, given_by, Columns, room_of, columns_of, columns_over, Searched, Answer, Found, Refused}

module _ (s : List ℕ) (m p q allowance : ℕ) (w : List ℕ) (room : ℕ) where
  pub good_past : ltb allowance (touches_of w m p q (features_of s)) ≡ true → search_good_of s m p q allowance w room ≡ Refused 7 allowance
  unfolding search_good_of
  good_past e = rw e

  pub good_full : ltb allowance (touches_of w m p q (features_of s)) ≡ false → ltb room (length (answers_of w m p q (features_of s))) ≡ true
      → search_good_of s m p q allowance w room ≡ Refused 8 (touches_of w m p q (features_of s))
  unfolding search_good_of
  good_full e f = rw (e, f)

  pub good_found : ltb allowance (touches_of w m p q (features_of s)) ≡ false → ltb room (length (answers_of w m p q (features_of s))) ≡ false
      → search_good_of s m p q allowance w room
      ≡ Found (length (answers_of w m p q (features_of s))) (touches_of w m p q (features_of s)) (lowest_terms p q).p (lowest_terms p q).q
  unfolding search_good_of
  good_found e f = rw (e, f)

  -- refused before the search, and not
  pub search_refused : (n : ℕ) → refusal_of s m p q w ≡ n → (n ≡ 0 → ⊥) → search_of s m p q allowance w room ≡ Refused n 0
  unfolding search_of
  search_refused n e z = rw (e, ne_eqb n 0 z)

  pub search_runs : refusal_of s m p q w ≡ 0 → search_of s m p q allowance w room ≡ search_good_of s m p q allowance w room
  unfolding search_of
  search_runs e = rw e

-- a refusal keeps the columns
pub searched_refused : (s : List ℕ) (m p q allowance : ℕ) (w : List ℕ) (c : Columns) (number touches : ℕ)
    → search_of s m p q allowance w (room_of c) ≡ Refused number touches → Searched s m p q allowance w c c (Refused number touches)
unfolding given_by
searched_refused s m p q allowance w c number touches e =
    record {
      answer = sym e;
      columns = ap (λ (r : Answer). columns_over (columns_of w m p q (features_of s) (given_by r (answers_of w m p q (features_of s)))) c) (sym e);
    }

-- ---- the order of refusals

-- the cases of a question after those of its query
behind : ℕ → ℕ → ℕ → List Case
behind m p q = case 4 (not (good_measure m)) ∷ case 5 (not (good_threshold p q)) ∷ []

questions_numbered : (s : List ℕ) (m p q : ℕ) → all_numbered (question_cases s m p q) ≡ true
unfolding all_numbers
questions_numbered s m p q = refl

module _ (s : List ℕ) (m p q : ℕ) where
  pub question_name : (judge_of s ≡ 0 → ⊥) → question_of s m p q ≡ judge_of s
  unfolding question_of judge_of behind
  question_name n = first_front (name_cases s) (behind m p q) n

  -- where the query is good, the cases after it decide
  good_query : judge_of s ≡ 0 → question_of s m p q ≡ first_case (behind m p q)
  unfolding question_of judge_of behind
  good_query n = first_behind (name_cases s) (behind m p q) (names_numbered s) n

  pub question_measure : judge_of s ≡ 0 → good_measure m ≡ false → question_of s m p q ≡ 4
  question_measure n a = good_query n ∙ decided
    where
      decided : first_case (behind m p q) ≡ 4
      decided = unfold behind first_case in rw a refl

  pub question_threshold : judge_of s ≡ 0 → good_measure m ≡ true → good_threshold p q ≡ false → question_of s m p q ≡ 5
  question_threshold n a b = good_query n ∙ decided
    where
      decided : first_case (behind m p q) ≡ 5
      decided = unfold behind first_case in rw (a, b) refl

  pub question_none : judge_of s ≡ 0 → good_measure m ≡ true → good_threshold p q ≡ true → question_of s m p q ≡ 0
  question_none n a b = good_query n ∙ decided
    where
      decided : first_case (behind m p q) ≡ 0
      decided = unfold behind first_case in rw (a, b) refl

  -- a question that is not refused has a good query, measure and threshold
  pub question_good : question_of s m p q ≡ 0 → (judge_of s ≡ 0) × (good_measure m ≡ true) × (good_threshold p q ≡ true)
  unfolding question_of judge_of behind
  question_good e =
      let h = first_split (name_cases s) (behind m p q) (names_numbered s) e in
      let a = first_passed 4 (not (good_measure m)) (case 5 (not (good_threshold p q)) ∷ []) (λ z. omega arith) h.1 in
      let b = first_passed 5 (not (good_threshold p q)) [] (λ z. omega arith) a.1 in
      (h.0, not_false (good_measure m) a.0, not_false (good_threshold p q) b.0)

module _ (s : List ℕ) (m p q : ℕ) (w : List ℕ) where
  pub refusal_question : (question_of s m p q ≡ 0 → ⊥) → refusal_of s m p q w ≡ question_of s m p q
  unfolding refusal_of question_of
  refusal_question n = first_front (question_cases s m p q) (case 6 (not (good_of w)) ∷ []) n

  -- where the question is good, the index decides
  good_question : question_of s m p q ≡ 0 → refusal_of s m p q w ≡ first_case (case 6 (not (good_of w)) ∷ [])
  unfolding refusal_of question_of
  good_question n = first_behind (question_cases s m p q) (case 6 (not (good_of w)) ∷ []) (questions_numbered s m p q) n

  pub refusal_index : question_of s m p q ≡ 0 → good_of w ≡ false → refusal_of s m p q w ≡ 6
  refusal_index n g = good_question n ∙ first_here 6 (not (good_of w)) [] (ap not g)

  pub refusal_none : question_of s m p q ≡ 0 → good_of w ≡ true → refusal_of s m p q w ≡ 0
  refusal_none n g = good_question n ∙ first_next 6 (not (good_of w)) [] (ap not g) ∙ none
    where
      none : first_case [] ≡ 0
      none = unfold first_case in refl

-- a search of a question that is refused
pub searched_question : (s : List ℕ) (m p q allowance : ℕ) (w : List ℕ) (c : Columns) (n : ℕ) → n ≡ question_of s m p q → (n ≡ 0 → ⊥)
    → Searched s m p q allowance w c c (Refused n 0)
searched_question s m p q allowance w c n e z =
    searched_refused s m p q allowance w c n 0
    (search_refused s m p q allowance w (room_of c) n (refusal_question s m p q w (λ (o : question_of s m p q ≡ 0). z (e ∙ o)) ∙ sym e) z)
