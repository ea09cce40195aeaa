-- What an answer's lines say: each reads back as what the search found.
-- Assumes nothing.
use mathlib.Core.Path.{◌≡◌, refl, ap}
use mathlib.Core.Logic.{⊎_elim}
use mathlib.Core.Bool.{Bool, true, false, cond}
use mathlib.Core.List.{List}
use Prim.Native.Nat.{ℕ, ◌≤◌, ◌<◌}
use native.Mathlib.Omega.{arith}
use lib.ListN.{length, get_or}
use Rattle.laws.proofs.Order.{eq_or_ne}
use Rattle.names.specs.Features.{features_of}
use Rattle.likeness.specs.Terms.{lowest_terms}
use Rattle.likeness.proofs.Measures.{threshold_facts}
use Rattle.likeness.proofs.Terms.{lowest_good}
use Rattle.hex_digits.specs.Lines.{hex_of, hex_line}
use Rattle.hex_digits.specs.Numbers.{bytes_for}
use Rattle.fields.specs.Layouts.{line_of, field_bytes, name_bytes, is_frame, read_of}
use Rattle.frames.specs.Frames.{query_frame, row_frame, end_frame, refusal_frame, row_out, end_out, refusal_out, a_row, an_end, a_refusal, refusal_line_length}
use Rattle.frames.proofs.RoundTrips.{read_write_row, read_write_end, read_write_refusal}
use Rattle.sizes.specs.Method.{touches_of, answers_of}
use Rattle.search.specs.Answers.{number_in, rows_in, Columns}
use Rattle.search.specs.Answers.{Answer}
use Rattle.search.specs.Answers.{Found, Refused}
use Rattle.search.proofs.Outcomes.{refused_empty, answered}
use Rattle.answers.specs.Output.{end_line, refusal_line, row_text, answer_text, rows_lent, longest_answer, query_in, measure_in, p_in, q_in, allowance_in, search_for, columns_for, answer_of}
use Rattle.answers.specs.Rows.{Shown}
use Rattle.answers.proofs.Text.{length_found}

-- ---- each line reads back

pub reads_row : (c : Columns) (n : ℕ) → Shown c n → (k : ℕ) → k < n
    → read_of row_frame (row_text c k) 0 ≡ row_out (a_row (get_or c.ids k 0) (get_or c.shared k 0) (get_or c.sizes k 0) (get_or c.least k 0))
reads_row c n s k h = read_write_row (get_or c.ids k 0) (get_or c.shared k 0) (get_or c.sizes k 0) (get_or c.least k 0) (s.id k h) (s.share k h) (s.size k h) (s.least k h)

-- the end of an answered search, whose allowance fits 32 bits
pub reads_end : (w line : List ℕ) → allowance_in line < 4294967296 → number_in (search_for w line) ≡ 0
    → let n = length (answers_of w (measure_in line) (p_in line) (q_in line) (features_of (query_in line))) in
    let t = touches_of w (measure_in line) (p_in line) (q_in line) (features_of (query_in line)) in
    let a = (lowest_terms (p_in line) (q_in line)).p in
    let b = (lowest_terms (p_in line) (q_in line)).q in
    (search_for w line ≡ Found n t a b) × (read_of end_frame (end_line n t a b) 0 ≡ end_out (an_end n t a b))
reads_end w line f z =
    let k = answered (query_in line) (measure_in line) (p_in line) (q_in line) (allowance_in line) w rows_lent z in
    let few = k.fits in
    let enough = k.enough in
    let g = threshold_facts (lowest_terms (p_in line) (q_in line)).p (lowest_terms (p_in line) (q_in line)).q (lowest_good (p_in line) (q_in line) k.admitted.exact) in
    let g1 = g.1 in
    let g2 = g.2 in
    (k.form, read_write_end _ _ _ _ (omega arith) (omega arith) (omega arith) (omega arith))

pub reads_refusal : (number touches : ℕ) → number < 256 → touches < 4294967296
    → read_of refusal_frame (refusal_line number touches) 0 ≡ refusal_out (a_refusal number touches)
reads_refusal number touches h k = read_write_refusal number touches h k

-- ---- how long an answer is at most

pub refusal_length : (number touches : ℕ) → length (refusal_line number touches) ≡ refusal_line_length
unfolding line_of hex_line hex_of field_bytes name_bytes bytes_for
refusal_length number touches = refl

text_most : (r : Answer) (c : Columns) → rows_in r ≤ rows_lent → length (answer_text r c) ≤ longest_answer
unfolding answer_text
text_most (Found rows touches p q) c h = let n = length_found rows touches p q c in omega arith
text_most (Refused number touches) c h = let n = refusal_length number touches in omega arith

pub answer_most : (w line : List ℕ) → length (answer_of w line) ≤ longest_answer
unfolding answer_of
answer_most w line = by_frame (is_frame query_frame line)
  where
    few : rows_in (search_for w line) ≤ rows_lent
    few =
        ⊎_elim
        (λ (z : number_in (search_for w line) ≡ 0).
        let k = answered (query_in line) (measure_in line) (p_in line) (q_in line) (allowance_in line) w rows_lent z in
        let e = ap rows_in k.form in
        let f = k.fits in
        omega arith)
        (λ (n : number_in (search_for w line) ≡ 0 → ⊥). let e = (refused_empty (search_for w line) n).0 in omega arith)
        (eq_or_ne (number_in (search_for w line)) 0)

    by_frame : (b : Bool) → length (cond b (answer_text (search_for w line) (columns_for w line)) (refusal_line 11 0)) ≤ longest_answer
    by_frame true = text_most (search_for w line) (columns_for w line) few
    by_frame false = let n = refusal_length 11 0 in omega arith
