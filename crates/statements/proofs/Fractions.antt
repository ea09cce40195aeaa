-- Two thresholds that are one fraction, as 70/100 and 7/10, give one answer, one list and one text.
-- Assumes nothing.
use mathlib.Core.Path.{◌≡◌, refl, sym, ap, ap₂, fun_ext, ◌∙◌}
use mathlib.Core.Bool.{Bool, true, cond, ◌&&◌}
use mathlib.Core.List.{List, [], ◌∷◌, map}
use Prim.Native.Nat.{ℕ, ◌*◌, ◌≤◌, ◌<◌}
use native.Mathlib.Omega.{arith}
use lib.ListN.{length}
use lib.Dec.{ltb}
use Rattle.hex_digits.specs.Lines.{Bytes}
use Rattle.laws.proofs.Below.{sum_below_ext}
use Rattle.laws.proofs.Passing.{passing_ext}
use Rattle.names.specs.Features.{features_of}
use Rattle.likeness.specs.Measures.{good_threshold}
use Rattle.likeness.specs.Terms.{lowest_terms}
use Rattle.likeness.specs.declared.Threshold.{Threshold}
use Rattle.likeness.proofs.Measures.{facts_threshold}
use Rattle.likeness.proofs.Sizes.{searched_equal}
use Rattle.likeness.proofs.Least.{least_equal}
use Rattle.likeness.proofs.Terms.{lowest_equal}
use Rattle.words.specs.Words.{name_count, name_id, name_size}
use Rattle.candidates.specs.Method.{remains, later_count}
use Rattle.sizes.specs.Method.{lists_for, touches_at, sizes_end, shared_with, touches_of_size, touches_of, listed, answers_of}
use Rattle.search.specs.Answers.{question_of, refusal_of, search_good_of, search_of, given_by, as_columns, least_for, columns_of}
use Rattle.search.specs.Answers.{Answer}
use Rattle.search.specs.Answers.{Found, Refused}
use Rattle.fields.specs.Layouts.{Fitting, line_of, longest_name}
use Rattle.fields.proofs.Laws.{fitting_named, frame_written, fields_written, name_written}
use Rattle.frames.specs.Frames.{query_frame}
use Rattle.answers.specs.Output.{answer_text, rows_lent, answer_of}
use Rattle.statements.specs.Demands.{Lending, columns, records, Question, GoodThreshold, SameFraction, Fractions, SameFrames}
use Rattle.statements.proofs.Lent.{Lends, columns_lend, records_lend}

module _ (w : List ℕ) (m p q p' q' : ℕ) (good : GoodThreshold p q) (good' : GoodThreshold p' q') (e : p * q' ≡ p' * q) where
  g : good_threshold p q ≡ true
  g = facts_threshold p q good.0 good.1 good.2

  g' : good_threshold p' q' ≡ true
  g' = facts_threshold p' q' good'.0 good'.1 good'.2

  one : lowest_terms p q ≡ lowest_terms p' q'
  one =
      let low = good.0 in
      let mid = good.1 in
      let low' = good'.0 in
      let mid' = good'.1 in
      lowest_equal p q p' q' (omega arith) (omega arith) e

  module _ (query : List ℕ) where
    size_equal : (y : ℕ) → touches_of_size w m p q query y ≡ touches_of_size w m p' q' query y
    unfolding touches_of_size
    size_equal y =
        ap₂ (λ (b : Bool) (t : ℕ). cond b (touches_at w y (lists_for w y query) t) 0)
        (searched_equal m p q p' q' (length query) y g g' e)
        (least_equal m p q p' q' (length query) y g g' e)

    steps_equal : touches_of w m p q query ≡ touches_of w m p' q' query
    unfolding touches_of
    steps_equal = sum_below_ext sizes_end (touches_of_size w m p q query) (touches_of_size w m p' q' query) (λ y h. size_equal y)

    listed_equal : (i : ℕ) → listed w m p q query i ≡ listed w m p' q' query i
    unfolding listed
    listed_equal i =
        ap₂ (λ (b : Bool) (t : ℕ). b && remains (lists_for w (name_size w i) query) t (later_count (lists_for w (name_size w i) query) t) (name_id w i))
        (searched_equal m p q p' q' (length query) (name_size w i) g g' e)
        (least_equal m p q p' q' (length query) (name_size w i) g g' e)

    found_equal : answers_of w m p q query ≡ answers_of w m p' q' query
    unfolding answers_of
    found_equal = passing_ext (name_count w) (listed w m p q query) (listed w m p' q' query) (λ i h. listed_equal i)

    -- and each row has one least count
    least_same : least_for w m p q query ≡ least_for w m p' q' query
    least_same = fun_ext (λ (i : ℕ). least_equal m p q p' q' (length query) (name_size w i) g g' e)

  module _ (query : List ℕ) (allowance room : ℕ) where
    -- the answer, from what it depends on
    answer_from : ℕ → List ℕ → Threshold → Answer
    answer_from steps found t =
        cond (ltb allowance steps) (Refused 7 allowance) (cond (ltb room (length found)) (Refused 8 steps) (Found (length found) steps t.p t.q))

    good_equal : search_good_of query m p q allowance w room ≡ search_good_of query m p' q' allowance w room
    unfolding search_good_of answer_from
    good_equal =
        ap₂ (λ (n : ℕ) (l : List ℕ). answer_from n l (lowest_terms p q)) (steps_equal (features_of query)) (found_equal (features_of query))
        ∙ ap (answer_from (touches_of w m p' q' (features_of query)) (answers_of w m p' q' (features_of query))) one

    refusal_equal : refusal_of query m p q w ≡ refusal_of query m p' q' w
    unfolding refusal_of question_of
    refusal_equal = rw (g, g')

    answer_equal : search_of query m p q allowance w room ≡ search_of query m p' q' allowance w room
    unfolding search_of
    answer_equal = rw (refusal_equal, good_equal)

    -- whatever is made of an answer and of the places that it gives is the same
    made_equal : {B : Type 0} (f : Answer → List ℕ → B)
        → f (search_of query m p q allowance w room) (given_by (search_of query m p q allowance w room) (answers_of w m p q (features_of query)))
        ≡ f (search_of query m p' q' allowance w room) (given_by (search_of query m p' q' allowance w room) (answers_of w m p' q' (features_of query)))
    made_equal f = ap₂ (λ (r : Answer) (l : List ℕ). f r (given_by r l)) answer_equal (found_equal (features_of query))

same_fraction : {A : Type 0} (s : Lending A) (lends : Lends s) (a : Question A) → SameFraction A s a
same_fraction {A} s lends a p q good good' e = (
  sym (answer_equal a.words a.measure a.p a.q p q good good' e a.query a.allowance (s.room a.lent)),
  sym
      (made_equal a.words a.measure a.p a.q p q good good' e a.query a.allowance (s.room a.lent)
      {B = A} (λ r places. s.written a.words a.measure a.p a.q (features_of a.query) places a.lent)
      ∙ lends.alike a.words a.words a.measure a.p a.q p q (features_of a.query) _ a.lent
      (λ i m t. record {
        id = name_id a.words i;
        shared = shared_with a.words (features_of a.query) i;
        size = name_size a.words i;
        least = least_same a.words a.measure a.p a.q p q good good' e (features_of a.query) t i;
      })),
)

pub fractions : Fractions
fractions = (same_fraction columns columns_lend, same_fraction records records_lend)

-- ---- in frames

-- the lines of an answer, from the places that it gives
lines_from : List ℕ → ℕ → ℕ → ℕ → List ℕ → Answer → List ℕ → List ℕ
lines_from w m p q query r places = answer_text r (columns_of w m p q (features_of query) places)

-- a 51 line that was written is answered by the search that its fields and its query ask for
answer_line : (w query : List ℕ) (m p q allowance : ℕ) → Bytes query → length query ≤ longest_name → m < 256 → allowance < 4294967296 → GoodThreshold p q
    → answer_of w (line_of query_frame (m ∷ p ∷ q ∷ allowance ∷ []) query)
    ≡ lines_from w m p q query (search_of query m p q allowance w rows_lent)
    (given_by (search_of query m p q allowance w rows_lent) (answers_of w m p q (features_of query)))
unfolding answer_of lines_from
answer_line w query m p q allowance b n i k good =
    let f : List ℕ = m ∷ p ∷ q ∷ allowance ∷ [] in
    let mid = good.1 in
    let high = good.2 in
    let fits : Fitting query_frame f query = fitting_named query_frame f query refl (omega arith) (i, (omega arith, (omega arith, (k, tt)))) b n in
    rw (frame_written query_frame f query fits, fields_written query_frame f query fits, name_written query_frame f query fits)

pub same_frames : SameFrames
unfolding lines_from
same_frames w query m p q p' q' allowance b n i k good good' e =
    answer_line w query m p q allowance b n i k good
    ∙ made_equal w m p q p' q' good good' e query allowance rows_lent (lines_from w m p q query)
    ∙ lines_equal (search_of query m p' q' allowance w rows_lent) (given_by (search_of query m p' q' allowance w rows_lent) (answers_of w m p' q' (features_of query)))
    ∙ sym (answer_line w query m p' q' allowance b n i k good')
  where
    lines_equal : (r : Answer) (places : List ℕ) → lines_from w m p q query r places ≡ lines_from w m p' q' query r places
    lines_equal r places =
        ap
        (λ (f : ℕ → ℕ). answer_text r (as_columns (map (name_id w) places) (map (shared_with w (features_of query)) places) (map (name_size w) places) (map f places)))
        (least_same w m p q p' q' good good' e (features_of query))
