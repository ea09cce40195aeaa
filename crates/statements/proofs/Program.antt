-- The program: specs/Program.antt says what, this file cites why.
-- Assumes nothing.
use mathlib.Core.Path.{◌≡◌, refl, sym, ap, ap₂, ◌∙◌}
use mathlib.Core.Bool.{true}
use mathlib.Core.List.{List, [], ◌∷◌, ◌++◌, map}
use Prim.Native.Nat.{ℕ, ◌≤◌, ◌<◌}
use native.Mathlib.Omega.{arith}
use lib.ListN.{length, get_or, drop, replicate, length-replicate, length-map, get_or-append}
use borrow.Author.Tests.{lt-ltb, le-ltb}
use Rattle.laws.specs.Lists.{count_of, tabulate}
use Rattle.laws.proofs.Lists.{tabulate_ext}
use Rattle.names.specs.Features.{features_of}
use Rattle.likeness.specs.Terms.{lowest_terms}
use Rattle.fields.specs.Layouts.{is_frame}
use Rattle.fields.proofs.Laws.{read_fits}
use Rattle.frames.specs.Frames.{query_frame}
use Rattle.lines.specs.Lines.{lines_of}
use Rattle.register.specs.Build.{built_of, words_after}
use Rattle.words.specs.Words.{name_id, name_size}
use Rattle.sizes.specs.Method.{shared_with}
use Rattle.search.specs.Answers.{number_in, rows_in, touches_in, search_of, given_by, Columns, room_of, least_for, over}
use Rattle.search.specs.Answers.{Answer}
use Rattle.search.specs.Answers.{Found, Refused}
use Rattle.search.proofs.Outcomes.{given_found, answered}
use Rattle.answers.specs.Output.{most_input, register_of, queries_of, program_words, rows_lent, opened_of, open_words, query_in, measure_in, p_in, q_in, allowance_in, search_for, places_for, columns_for, row_line, row_text, end_line, refusal_line, ends_answer, answer_lines, answers_text, output_of}
use Rattle.answers.proofs.Responding.{output_opened, output_refused}
use Rattle.answers.proofs.Ends.{lines_query, lines_stray, lines_once, lines_all, lines_count, output_broken}
use Rattle.statements.specs.Demands.{columns, answer, number, steps, found, Answered, touches_with, Demands}
use Rattle.statements.specs.Program.{index_words, Registered, asks, asked, number_to, rows_to, row_to, lines_to, Programs}
use Rattle.statements.proofs.Demands.{searches}
use Rattle.statements.proofs.Building.{end_to_end}

-- ---- the lines of an answer, by its number

lines_refused : (r : Answer) (c : Columns) → (number_in r ≡ 0 → ⊥) → answer_lines r c ≡ refusal_line (number_in r) (touches_in r) ∷ []
unfolding answer_lines
lines_refused (Found rows touches p q) c n = absurd (n refl)
lines_refused (Refused number touches) c n = refl

lines_found : (r : Answer) (c : Columns) (rows touches p q : ℕ) → r ≡ Found rows touches p q
    → answer_lines r c
    ≡ tabulate (row_text c) rows ++ (end_line rows touches p q ∷ [])
unfolding answer_lines
lines_found r c rows touches p q e = ap (λ (x : Answer). answer_lines x c) e

-- ---- one query line

module _ (input line : List ℕ) (query : is_frame query_frame line ≡ true) where
  w : List ℕ
  w = words_after (register_of input) index_words

  -- as many rows are lent to the question as to the search that the program makes
  lent : room_of (asks line).lent ≡ rows_lent
  lent = refl

  same : search_for w line ≡ answer columns (asked input line)
  unfolding w
  same = ap (search_of (query_in line) (measure_in line) (p_in line) (q_in line) (allowance_in line) w) (sym lent)

  demanded : Demands Columns columns (asked input line)
  demanded = searches.0 (asked input line)

  query_refused : (Answered columns (asked input line) → ⊥)
      → lines_to input line ≡ refusal_line (number_to input line) (touches_with (asked input line) (number_to input line)) ∷ []
  unfolding w
  query_refused n =
      let j = demanded.one.judged in
      lines_query w line query
      ∙ lines_refused (search_for w line) _ (λ z. n (sym j ∙ ap number_in (sym same) ∙ z))
      ∙ ap₂ (λ (x y : ℕ). refusal_line x y ∷ []) (ap number_in same ∙ j) (ap touches_in same ∙ demanded.one.touched ∙ ap (touches_with (asked input line)) j)

  -- a column holds what was given at its start
  column_at_lem : (f : ℕ → ℕ) (given places s : List ℕ) (k : ℕ) → given ≡ places → k < length given → get_or (map f given) k 0 ≡ get_or (over (map f places) s) k 0
  column_at_lem f given places s k e h =
      let m = length-map given f in
      sym (get_or-append (map f given) (drop (length (map f given)) s) 0 k (omega arith)) ∙ ap (λ (l : List ℕ). get_or (over (map f l) s) k 0) e

  row_same : (k : ℕ) → k < length (places_for w line) → row_text (columns_for w line) k ≡ row_to input line k
  unfolding w
  row_same k h =
      let e : places_for w line ≡ given_by (answer columns (asked input line)) (found (asked input line)) = ap (λ (r : Answer). given_by r (found (asked input line))) same in
      λ t. row_line
      (column_at_lem (name_id w) _ _ (replicate rows_lent 0) k e h t)
      (column_at_lem (shared_with w (features_of (query_in line))) _ _ (replicate rows_lent 0) k e h t)
      (column_at_lem (name_size w) _ _ (replicate rows_lent 0) k e h t)
      (column_at_lem (least_for w (measure_in line) (p_in line) (q_in line) (features_of (query_in line))) _ _ (replicate rows_lent 0) k e h t)

  -- the end of the answer, with so many rows
  end : ℕ → List (List ℕ)
  end n = end_line n (steps (asked input line)) (lowest_terms (p_in line) (q_in line)).p (lowest_terms (p_in line) (q_in line)).q ∷ []

  query_answered : Answered columns (asked input line)
      → lines_to input line
      ≡ tabulate (row_to input line) (rows_to input line)
      ++ (end_line (rows_to input line) (steps (asked input line)) (lowest_terms (p_in line) (q_in line)).p (lowest_terms (p_in line) (q_in line)).q ∷ [])
  unfolding w end
  query_answered n =
      let z : number_in (answer columns (asked input line)) ≡ 0 = demanded.one.judged ∙ n in
      let k = answered (query_in line) (measure_in line) (p_in line) (q_in line) (allowance_in line) w (room_of (asks line).lent) z in
      let e : rows_to input line ≡ length (found (asked input line)) = ap rows_in k.form in
      let g : places_for w line ≡ found (asked input line) = given_found (search_for w line) _ _ _ _ (found (asked input line)) (same ∙ k.form) in
      let l : rows_to input line ≡ length (places_for w line) = e ∙ ap length (sym g) in
      lines_query w line query
      ∙ lines_found (search_for w line) _ _ _ _ _ (same ∙ k.form)
      ∙ ap (λ (x : ℕ). tabulate (row_text (columns_for w line)) x ++ end x) (sym e)
      ∙ ap (λ (rs : List (List ℕ)). rs ++ end (rows_to input line)) (tabulate_ext (row_text (columns_for w line)) (row_to input line) (rows_to input line) (λ i h. row_same i (omega arith)))

-- ---- all of the output

opened_much : (input : List ℕ) → most_input < length input → (opened_of input program_words).number ≡ 8
unfolding opened_of
opened_much input h = rw (lt-ltb most_input (length input) h) refl

opened_few : (input : List ℕ) → length input ≤ most_input → (opened_of input program_words).number ≡ (built_of (register_of input) program_words).number
unfolding opened_of
opened_few input h = rw (le-ltb most_input (length input) h) refl

indexed : (input : List ℕ) → length input ≤ most_input → open_words input index_words ≡ words_after (register_of input) index_words
unfolding open_words
indexed input h = rw (le-ltb most_input (length input) h) refl

-- the program's words are as many as are lent
as_lent : (input : List ℕ) → (built_of (register_of input) (length {A = ℕ} index_words)).number ≡ (built_of (register_of input) program_words).number
as_lent input = ap (λ (n : ℕ). (built_of (register_of input) n).number) (length-replicate {A = ℕ} program_words 0)

answers : (input : List ℕ) → length input ≤ most_input → Registered input
    → output_of input ≡ answers_text (words_after (register_of input) index_words) (queries_of input)
answers input h k =
    output_opened input (opened_few input h ∙ sym (as_lent input) ∙ k) ∙ ap (λ (v : List ℕ). answers_text v (queries_of input)) (indexed input h)

pub programs : Programs
programs input =
    record {
      too_much = λ h.
          let e = opened_much input h in
          output_refused input (λ z. absurd (omega arith)) ∙ ap (λ (n : ℕ). refusal_line n 0) e;
      register_refused = λ h n.
          let e = opened_few input h in
          output_refused input (λ z. n (as_lent input ∙ sym e ∙ z)) ∙ ap (λ (k : ℕ). refusal_line k 0) e;
      in_order = λ h k. ap lines_of (answers input h k) ∙ lines_all (words_after (register_of input) index_words) (queries_of input);
      each = λ k line.
          record {
            malformed = lines_stray (words_after (register_of input) index_words) line;
            refused = query_refused input line;
            answered = query_answered input line;
            listed = λ e n. (end_to_end (register_of input) index_words).0 (asks line) (read_fits query_frame line e).bytes k n;
            once = lines_once (words_after (register_of input) index_words) line;
          };
      ends = λ h k. ap (λ (t : List ℕ). count_of ends_answer (lines_of t)) (answers input h k) ∙ lines_count (words_after (register_of input) index_words) (queries_of input);
      broken = output_broken input;
    }
