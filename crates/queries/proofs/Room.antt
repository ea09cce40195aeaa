-- Laws of one query's answer and the room that it had: with less than its rows need it is 8, and otherwise it is what it would be with room enough.
-- Cited by Upto.antt and Demands.antt.
-- Assumes nothing.
use mathlib.Core.Path.{◌≡◌, refl, sym, ap, ◌∙◌}
use mathlib.Core.Bool.{Bool, true, false, cond, not, false≢true}
use mathlib.Core.List.{List, []}
use Prim.Native.Nat.{ℕ, ◌≤◌, ◌<◌}
use native.Mathlib.Omega.{arith}
use lib.ListN.{length, length-map}
use lib.Dec.{ltb, eqb}
use borrow.Author.Tests.{eqb-true, le-ltb, ltb-true, le-leb, lt-leb}
use Rattle.laws.specs.Cases.{all_numbers}
use Rattle.laws.proofs.Cases.{first_number}
use Rattle.names.specs.Features.{features_of}
use Rattle.likeness.specs.Terms.{lowest_terms}
use Rattle.words.specs.Words.{name_id, name_size}
use Rattle.index.specs.Good.{most_names}
use Rattle.sizes.specs.Method.{shared_with, touches_of, answers_of}
use Rattle.search.specs.Answers.{Answer, Found, Refused, number_in, rows_in, refusal_cases, refusal_of, search_good_of, search_of, given_by, Columns, least_for, columns_of}
use Rattle.search.proofs.Outcomes.{refused_gives, admitted}
use Rattle.rows.proofs.Answers.{answers_few, outcome}
use Rattle.queries.specs.Queries.{lies_in, part_of, answer_for, rows_given}

-- no rows
abbrev pub no_columns : Columns
no_columns = record { ids = []; shared = []; sizes = []; least = [] }

-- ---- a search

module _ (s : List ℕ) (m p q allowance : ℕ) (w : List ℕ) where
  abbrev count : ℕ
  count = length (answers_of w m p q (features_of s))

  abbrev found : Answer
  found = Found count (touches_of w m p q (features_of s)) (lowest_terms p q).p (lowest_terms p q).q

  -- 8 is no number of a question or of an index
  refusal_eight : refusal_of s m p q w ≡ 8 → ⊥
  refusal_eight e = false≢true (sym (ap (λ (n : ℕ). not (eqb n 8)) e) ∙ other)
    where
      numbers : all_numbers (λ (n : ℕ). not (eqb n 8)) (refusal_cases s m p q w) ≡ true
      numbers = unfold all_numbers in refl

      other : not (eqb (refusal_of s m p q w) 8) ≡ true
      other = unfold refusal_of in first_number (λ (n : ℕ). not (eqb n 8)) (refusal_cases s m p q w) refl numbers

  -- what a search with some room is beside the one with room for all names
  abbrev Beside : ℕ → Answer → Answer → Type 0
  Beside room r e = (number_in r ≡ 8 → room < rows_in e) × ((number_in r ≡ 8 → ⊥) → r ≡ e)

  pub beside : (room : ℕ) → Beside room (search_of s m p q allowance w room) (search_of s m p q allowance w most_names)
  unfolding search_of search_good_of
  beside room = by_refusal (eqb (refusal_of s m p q w) 0) refl
    where
      by_tests : (a b c : Bool) → ltb room count ≡ b → c ≡ false
          → Beside room (cond a (Refused 7 allowance) (cond b (Refused 8 (touches_of w m p q (features_of s))) found))
          (cond a (Refused 7 allowance) (cond c (Refused 8 (touches_of w m p q (features_of s))) found))
      by_tests true b c e f = ((λ z. absurd (omega arith)), (λ n. refl))
      by_tests false true c e f = ((λ z. rw f (ltb-true room count e)), (λ n. absurd (n refl)))
      by_tests false false c e f = ((λ z. absurd (omega arith)), (λ n. rw f))

      by_refusal : (b : Bool) → eqb (refusal_of s m p q w) 0 ≡ b
          → Beside room (cond b (search_good_of s m p q allowance w room) (Refused (refusal_of s m p q w) 0))
          (cond b (search_good_of s m p q allowance w most_names) (Refused (refusal_of s m p q w) 0))
      by_refusal true e =
          let g = (admitted s m p q w (eqb-true (refusal_of s m p q w) 0 e)).good in
          by_tests (ltb allowance (touches_of w m p q (features_of s))) (ltb room count) (ltb most_names count) refl (le-ltb most_names count (answers_few w m p q (features_of s) g))
      by_refusal false e = ((λ z. absurd (refusal_eight z)), (λ n. refl))

-- ---- a query

module _ (bytes : List ℕ) (from to : ℕ) (m p q allowance : ℕ) (w : List ℕ) where
  abbrev query : List ℕ
  query = part_of bytes from to

  pub query_lies : (room : ℕ) → from ≤ to → to ≤ length bytes → answer_for bytes from to m p q allowance w room ≡ search_of query m p q allowance w room
  unfolding answer_for
  query_lies room h k = rw (le-leb from to h, le-leb to (length bytes) k)

  pub query_falls : (room : ℕ) → to < from → answer_for bytes from to m p q allowance w room ≡ Refused 11 0
  unfolding answer_for
  query_falls room h = rw (lt-leb from to h)

  pub query_beyond : (room : ℕ) → from ≤ to → length bytes < to → answer_for bytes from to m p q allowance w room ≡ Refused 11 0
  unfolding answer_for
  query_beyond room h k = rw (le-leb from to h, lt-leb to (length bytes) k)

  pub answer_beside : (room : ℕ) → Beside query m p q allowance w room (answer_for bytes from to m p q allowance w room) (answer_for bytes from to m p q allowance w most_names)
  unfolding answer_for
  answer_beside room = by_test (lies_in bytes from to)
    where
      by_test : (b : Bool)
          → Beside query m p q allowance w room (cond b (search_of query m p q allowance w room) (Refused 11 0)) (cond b (search_of query m p q allowance w most_names) (Refused 11 0))
      by_test true = beside query m p q allowance w room
      by_test false = ((λ z. absurd (omega arith)), (λ n. refl))

  -- it gives as many names as it has rows, and has room for them
  pub answer_rows : (room : ℕ)
      → let r = answer_for bytes from to m p q allowance w room in (rows_in r ≡ length (given_by r (answers_of w m p q (features_of query)))) × (rows_in r ≤ room)
  unfolding answer_for
  answer_rows room = by_test (lies_in bytes from to)
    where
      by_test : (b : Bool)
          → let r = cond b (search_of query m p q allowance w room) (Refused 11 0) in (rows_in r ≡ length (given_by r (answers_of w m p q (features_of query)))) × (rows_in r ≤ room)
      by_test true = let o = outcome query m p q allowance w room in (o.0, o.1)
      by_test false = unfold given_by in (refl, omega arith)

  -- a refusal gives no row
  pub given_none : (r : Answer) → (number_in r ≡ 0 → ⊥) → rows_given bytes from to m p q allowance w r ≡ no_columns
  unfolding rows_given
  given_none r n = ap (columns_of w m p q (features_of query)) (refused_gives r (answers_of w m p q (features_of query)) n)

  -- each column of what is given has as many rows as there are
  pub given_rows : (room : ℕ) (r : Answer) → r ≡ answer_for bytes from to m p q allowance w room
      → let g = rows_given bytes from to m p q allowance w r in
      (length g.ids ≡ rows_in r) × (length g.shared ≡ rows_in r) × (length g.sizes ≡ rows_in r) × (length g.least ≡ rows_in r)
  unfolding rows_given
  given_rows room r e =
      let places = given_by r (answers_of w m p q (features_of query)) in
      let n : length places ≡ rows_in r = rw e (sym (answer_rows room).0) in (
        length-map places (name_id w) ∙ n,
        length-map places (shared_with w (features_of query)) ∙ n,
        length-map places (name_size w) ∙ n,
        length-map places (least_for w m p q (features_of query)) ∙ n,
      )
