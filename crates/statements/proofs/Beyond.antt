-- Words beyond the first 3 + N + 4D + P alter nothing: of a good index the method reads none of them, and where the words are not good both
-- searches are refused alike.
-- Assumes nothing.
use mathlib.Core.Path.{◌≡◌, refl, sym, ap, ap₂, ◌∙◌}
use mathlib.Core.Bool.{Bool, true, false, cond, not}
use mathlib.Core.List.{List, [], ◌∷◌, ◌++◌}
use Prim.Native.Nat.{ℕ, ◌≤◌}
use lib.ListN.{length, take}
use lib.Dec.{eqb, ltb}
use Rattle.laws.specs.Lists.{member}
use Rattle.laws.specs.Cases.{case, first_case}
use Rattle.laws.proofs.Members.{member_nil}
use Rattle.names.specs.Features.{features_of}
use Rattle.likeness.specs.Least.{least_count}
use Rattle.likeness.specs.Terms.{lowest_terms}
use Rattle.words.specs.Words.{total}
use Rattle.index.specs.Good.{good_of}
use Rattle.index.proofs.Laws.{verdict_total}
use Rattle.index.proofs.Total.{id_same, size_same}
use Rattle.search.specs.Answers.{question_cases, refusal_of, search_good_of, search_of, given_by}
use Rattle.search.specs.Answers.{Answer}
use Rattle.search.specs.Answers.{Found, Refused}
use Rattle.search.proofs.Listed.{answer_place}
use Rattle.sizes.proofs.Total.{shared_same, touches_same, answers_same}
use Rattle.statements.specs.Demands.{Lending, columns, records, Question, answer, found, after, with_words, Beyond}
use Rattle.statements.proofs.Lent.{Lends, columns_lend, records_lend}
use Rattle.statements.proofs.Demands.{demands}
use Rattle.statements.proofs.Building.{bad_answer}

-- what is given is found
given_member : (r : Answer) (l : List ℕ) (i : ℕ) → member i (given_by r l) ≡ true → member i l ≡ true
unfolding given_by
given_member (Found rows touches p q) l i m = m
given_member (Refused number touches) l i m = absurd (member_nil i m)

module _ {A : Type 0} (s : Lending A) (lends : Lends s) (a : Question A) (other : List ℕ) (long : total a.words ≤ length other)
    (same : take (total a.words) a.words ≡ take (total a.words) other) where
  refusal_same : refusal_of a.query a.measure a.p a.q other ≡ refusal_of a.query a.measure a.p a.q a.words
  unfolding refusal_of
  refusal_same =
      ap (λ (g : Bool). first_case (question_cases a.query a.measure a.p a.q ++ (case 6 (not g) ∷ []))) (verdict_total a.words other same long)

  good_same : good_of a.words ≡ true → search_good_of a.query a.measure a.p a.q a.allowance other (s.room a.lent)
      ≡ search_good_of a.query a.measure a.p a.q a.allowance a.words (s.room a.lent)
  unfolding search_good_of
  good_same g =
      ap₂ (λ (n : ℕ) (l : List ℕ). cond (ltb a.allowance n) (Refused 7 a.allowance)
      (cond (ltb (s.room a.lent) (length l)) (Refused 8 n) (Found (length l) n (lowest_terms a.p a.q).p (lowest_terms a.p a.q).q)))
      (touches_same a.words other same long g (features_of a.query) a.measure a.p a.q)
      (answers_same a.words other same long g (features_of a.query) a.measure a.p a.q)

  answer_good : good_of a.words ≡ true → answer s (with_words other a) ≡ answer s a
  unfolding search_of
  answer_good g = ap₂ (λ (n : ℕ) (r : Answer). cond (eqb n 0) r (Refused n 0)) refusal_same (good_same g)

  after_good : good_of a.words ≡ true → after s (with_words other a) ≡ after s a
  after_good g =
      ap₂ (λ (r : Answer) (l : List ℕ). s.written other a.measure a.p a.q (features_of a.query) (given_by r l) a.lent) (answer_good g)
      (answers_same a.words other same long g (features_of a.query) a.measure a.p a.q)
      ∙ lends.alike other a.words a.measure a.p a.q a.p a.q (features_of a.query) (given_by (answer s a) (found a)) a.lent
      (λ i m.
      let h = (answer_place a.words a.measure a.p a.q (features_of a.query) i (given_member (answer s a) (found a) i m)).0 in
      λ t. record {
        id = id_same a.words other same long i h t;
        shared = shared_same a.words other same long g (features_of a.query) i h t;
        size = size_same a.words other same long i h t;
        least = least_count a.measure a.p a.q (length (features_of a.query)) (size_same a.words other same long i h t);
      })

  same_words : (answer s (with_words other a) ≡ answer s a) × (after s (with_words other a) ≡ after s a)
  same_words = by_good (good_of a.words) refl
    where
      by_good : (b : Bool) → good_of a.words ≡ b → (answer s (with_words other a) ≡ answer s a) × (after s (with_words other a) ≡ after s a)
      by_good true g = (answer_good g, after_good g)
      by_good false g =
          let here = bad_answer s a g in
          let there = bad_answer s (with_words other a) (verdict_total a.words other same long ∙ g) in (
            there.0 ∙ ap (λ (n : ℕ). Refused n 0) refusal_same ∙ sym here.0,
            (demands s lends (with_words other a)).one.kept there.1 ∙ sym ((demands s lends a).one.kept here.1),
          )

pub beyond : Beyond
beyond = (λ a other long same. same_words columns columns_lend a other long same, λ a other long same. same_words records records_lend a other long same)
