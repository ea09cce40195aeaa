-- The lines of an output: each query line's are one for each row and then one that ends the answer, a 45 or a 58 frame; so there are as many of those as
-- query lines, and an output that breaks off has fewer.
-- Assumes nothing.
use mathlib.Core.Path.{◌≡◌, refl, sym, ap, ap₂, subst, ◌∙◌}
use mathlib.Core.Logic.{⊎_elim}
use mathlib.Core.Bool.{Bool, true, false, cond, ◌||◌}
use mathlib.Core.List.{List, [], ◌∷◌, ◌++◌, map, append-nil}
use Prim.Native.Nat.{ℕ, zero, suc, ◌+◌, ◌-◌, ◌<◌}
use native.Mathlib.Omega.{arith}
use lib.ListN.{length, get_or, take, replicate}
use Rattle.laws.specs.Lists.{count_of, tabulate}
use Rattle.laws.specs.Each.{Each}
use Rattle.laws.proofs.Lists.{count_append}
use Rattle.laws.proofs.Tests.{or_right}
use Rattle.laws.proofs.Members.{or_cases, each_nil, each_append}
use Rattle.laws.proofs.Images.{each_tabulate}
use Rattle.laws.proofs.Order.{eq_or_ne}
use Rattle.hex_digits.specs.Lines.{digit_of, place_in, value_of, hex_of, hex_line, bytes_of}
use Rattle.hex_digits.proofs.Lines.{last_feed}
use Rattle.fields.specs.Layouts.{is_frame, line_of}
use Rattle.fields.proofs.Layouts.{frame_other, frame_well_formed}
use Rattle.fields.proofs.Laws.{frame_line}
use Rattle.frames.specs.Frames.{query_frame, row_frame, end_frame, refusal_frame}
use Rattle.lines.specs.Lines.{lines_of, joined}
use Rattle.search.specs.Answers.{Columns}
use Rattle.search.specs.Answers.{Answer}
use Rattle.search.specs.Answers.{Found, Refused}
use Rattle.answers.specs.Output.{row_line, end_line, refusal_line, row_text, rows_text, found_text, answer_text, search_for, columns_for, answer_of, ends_answer, answer_lines, queries_of, opened_of, open_words, program_words, answers_text, output_of}
use Rattle.lines.proofs.Cut.{Line, Ended, lines_joined, joined_append, ended_behind, ended_each, broken_fewer}
use Rattle.fields.proofs.Fitted.{one_line}
use Rattle.answers.proofs.Responding.{output_opened, output_refused}

-- ---- which lines end an answer

or_false : (a b : Bool) → a ≡ false → b ≡ false → a || b ≡ false
or_false a b p q = rw (p, q) refl

or_left : (a b : Bool) → a ≡ true → a || b ≡ true
or_left a b p = rw p refl

pub row_goes_on : (id shared size least : ℕ) → ends_answer (row_line id shared size least) ≡ false
unfolding ends_answer
row_goes_on id shared size least =
    or_false (is_frame end_frame (row_line id shared size least)) (is_frame refusal_frame (row_line id shared size least))
    (frame_other end_frame (row_line id shared size least) (λ e. let k = kind in omega arith))
    (frame_other refusal_frame (row_line id shared size least) (λ e. let k = kind in omega arith))
  where
    kind : get_or (bytes_of (row_line id shared size least)) 0 0 ≡ 82
    kind = unfold line_of hex_line hex_of bytes_of digit_of value_of place_in in refl

pub end_ends : (rows touches p q : ℕ) → ends_answer (end_line rows touches p q) ≡ true
unfolding ends_answer
end_ends rows touches p q = or_left _ _ (frame_line end_frame (rows ∷ touches ∷ p ∷ q ∷ []) [] (omega arith) (λ k. omega arith) (omega arith))

pub refusal_ends : (number touches : ℕ) → ends_answer (refusal_line number touches) ≡ true
unfolding ends_answer
refusal_ends number touches =
    or_right (is_frame end_frame (refusal_line number touches)) _ (frame_line refusal_frame (number ∷ touches ∷ []) [] (omega arith) (λ k. omega arith) (omega arith))

-- and each has its line feed
ends_feed : (l : List ℕ) → ends_answer l ≡ true → get_or l (length l - 1) 0 ≡ 10
unfolding ends_answer
ends_feed l e =
    ⊎_elim
    (λ (f : is_frame end_frame l ≡ true). last_feed l (frame_well_formed end_frame l f))
    (λ (f : is_frame refusal_frame l ≡ true). last_feed l (frame_well_formed refusal_frame l f))
    (or_cases (is_frame end_frame l) (is_frame refusal_frame l) e)

-- text that is lines, the last of which ends an answer, has fewer that do where it breaks off
broken : (text : List ℕ) (ls : List (List ℕ)) (n : ℕ) → text ≡ joined ls → Ended ends_answer ls → n < length text
    → count_of ends_answer (lines_of (take n text)) < count_of ends_answer (lines_of text)
broken text ls n e d h =
    let k = ap length e in
    subst (λ (s : List ℕ). count_of ends_answer (lines_of (take n s)) < count_of ends_answer (lines_of s)) (sym e) (broken_fewer ends_answer ends_feed ls n d (omega arith))

-- a refusal is the one line of its answer
refusal_ended : (number touches : ℕ) → Ended ends_answer (refusal_line number touches ∷ [])
refusal_ended number touches =
    record {
      before = [];
      last = refusal_line number touches;
      split = refl;
      each = each_nil Line;
      line = one_line refusal_frame (number ∷ touches ∷ []);
      passes = refusal_ends number touches;
    }

-- ---- the lines of one answer

module _ (c : Columns) where
  rows_go_on : (n : ℕ) → count_of ends_answer (tabulate (row_text c) n) ≡ 0
  unfolding tabulate count_of
  rows_go_on zero = refl
  rows_go_on (suc n) =
      count_append ends_answer (tabulate (row_text c) n) (row_text c n ∷ [])
      ∙ ap₂ ◌+◌ (rows_go_on n) (ap (λ (b : Bool). cond b 1 0 + 0) (row_goes_on (get_or c.ids n 0) (get_or c.shared n 0) (get_or c.sizes n 0) (get_or c.least n 0)))

  answer_joined : (r : Answer) → answer_text r c ≡ joined (answer_lines r c)
  unfolding answer_text found_text answer_lines joined
  answer_joined (Found rows touches p q) =
      ap (λ (t : List ℕ). rows_text c rows ++ t) (sym (append-nil (end_line rows touches p q))) ∙ sym (joined_append (tabulate (row_text c) rows) (end_line rows touches p q ∷ []))
  answer_joined (Refused number touches) = sym (append-nil (refusal_line number touches))

  answer_ended : (r : Answer) → Ended ends_answer (answer_lines r c)
  unfolding answer_lines
  answer_ended (Found rows touches p q) =
      record {
        before = tabulate (row_text c) rows;
        last = end_line rows touches p q;
        split = refl;
        each = each_tabulate Line (row_text c) rows (λ k h. one_line row_frame (get_or c.ids k 0 ∷ get_or c.shared k 0 ∷ get_or c.sizes k 0 ∷ get_or c.least k 0 ∷ []));
        line = one_line end_frame (rows ∷ touches ∷ p ∷ q ∷ []);
        passes = end_ends rows touches p q;
      }
  answer_ended (Refused number touches) = refusal_ended number touches

  answer_once : (r : Answer) → count_of ends_answer (answer_lines r c) ≡ 1
  unfolding answer_lines count_of
  answer_once (Found rows touches p q) =
      count_append ends_answer (tabulate (row_text c) rows) (end_line rows touches p q ∷ [])
      ∙ ap₂ ◌+◌ (rows_go_on rows) (ap (λ (b : Bool). cond b 1 0 + 0) (end_ends rows touches p q))
  answer_once (Refused number touches) = ap (λ (b : Bool). cond b 1 0 + 0) (refusal_ends number touches)

-- ---- the lines of a query line's answer

-- the answer to a query line, as its rows stand in the columns; a line that is no query is refused with 11
module _ (w : List ℕ) where
  asked : List ℕ → List (List ℕ)
  asked line = answer_lines (search_for w line) (columns_for w line)

  stray : List (List ℕ)
  stray = refusal_line 11 0 ∷ []

  lines_for : List ℕ → List (List ℕ)
  lines_for line = cond (is_frame query_frame line) (asked line) stray

  by_frame : (P : List ℕ → List (List ℕ) → Type 0) (line : List ℕ)
      → P (answer_text (search_for w line) (columns_for w line)) (asked line)
      → P (refusal_line 11 0) stray → P (answer_of w line) (lines_for line)
  unfolding answer_of lines_for
  by_frame P line f g = cases (is_frame query_frame line)
    where
      cases : (b : Bool)
          → P (cond b (answer_text (search_for w line) (columns_for w line)) (refusal_line 11 0))
          (cond b (asked line) stray)
      cases true = f
      cases false = g

  for_joined : (line : List ℕ) → answer_of w line ≡ joined (lines_for line)
  unfolding asked stray
  for_joined line =
      by_frame (λ (t : List ℕ) (ls : List (List ℕ)). t ≡ joined ls) line
      (answer_joined _ (search_for w line))
      (unfold joined in sym (append-nil (refusal_line 11 0)))

  for_ended : (line : List ℕ) → Ended ends_answer (lines_for line)
  unfolding asked stray
  for_ended line =
      by_frame (λ (t : List ℕ) (ls : List (List ℕ)). Ended ends_answer ls) line
      (answer_ended (columns_for w line) (search_for w line))
      (refusal_ended 11 0)

  for_once : (line : List ℕ) → count_of ends_answer (lines_for line) ≡ 1
  unfolding asked stray count_of
  for_once line =
      by_frame (λ (t : List ℕ) (ls : List (List ℕ)). count_of ends_answer ls ≡ 1) line
      (answer_once (columns_for w line) (search_for w line))
      (ap (λ (b : Bool). cond b 1 0 + 0) (refusal_ends 11 0))

  -- the lines of a query line's answer are its lines_for
  lines_for_lem : (line : List ℕ) → lines_of (answer_of w line) ≡ lines_for line
  lines_for_lem line = ap lines_of (for_joined line) ∙ lines_joined (lines_for line) (ended_each ends_answer (lines_for line) (for_ended line))

  -- of a 51 line: a 52 line for each row, in order, and the end; or one refusal
  pub lines_query : (line : List ℕ) → is_frame query_frame line ≡ true → lines_of (answer_of w line)
      ≡ answer_lines (search_for w line) (columns_for w line)
  unfolding lines_for asked
  lines_query line e = lines_for_lem line ∙ ap (λ (b : Bool). cond b (asked line) stray) e

  -- of any other one refusal
  pub lines_stray : (line : List ℕ) → is_frame query_frame line ≡ false → lines_of (answer_of w line) ≡ refusal_line 11 0 ∷ []
  unfolding lines_for stray
  lines_stray line e = lines_for_lem line ∙ ap (λ (b : Bool). cond b (asked line) stray) e

  pub lines_once : (line : List ℕ) → count_of ends_answer (lines_of (answer_of w line)) ≡ 1
  lines_once line = ap (count_of ends_answer) (lines_for_lem line) ∙ for_once line

  -- ---- the lines of all answers

  all : List (List ℕ) → List (List ℕ)
  all queries = joined (map lines_for queries)

  all_joined : (queries : List (List ℕ)) → answers_text w queries ≡ joined (all queries)
  unfolding answers_text joined all
  all_joined [] = refl
  all_joined (q ∷ qs) = ap₂ ◌++◌ (for_joined q) (all_joined qs) ∙ sym (joined_append (lines_for q) (all qs))

  all_each : (queries : List (List ℕ)) → Each Line (all queries)
  unfolding joined all
  all_each [] = each_nil Line
  all_each (q ∷ qs) = each_append Line (lines_for q) (all qs) (ended_each ends_answer (lines_for q) (for_ended q)) (all_each qs)

  all_once : (queries : List (List ℕ)) → count_of ends_answer (all queries) ≡ length queries
  unfolding joined all count_of
  all_once [] = refl
  all_once (q ∷ qs) = let a = count_append ends_answer (lines_for q) (all qs) in let b = for_once q in let c = all_once qs in omega arith

  all_ended : (q : List ℕ) (qs : List (List ℕ)) → Ended ends_answer (all (q ∷ qs))
  unfolding joined all
  all_ended q [] = subst (Ended ends_answer) (sym (append-nil (lines_for q))) (for_ended q)
  all_ended q (p ∷ qs) = ended_behind ends_answer (lines_for q) (all (p ∷ qs)) (ended_each ends_answer (lines_for q) (for_ended q)) (all_ended p qs)

  all_same : (qs : List (List ℕ)) → joined (map (λ (l : List ℕ). lines_of (answer_of w l)) qs) ≡ all qs
  unfolding joined all
  all_same [] = refl
  all_same (q ∷ qs) = ap₂ ◌++◌ (lines_for_lem q) (all_same qs)

  -- in order, those of each query line
  pub lines_all : (queries : List (List ℕ)) → lines_of (answers_text w queries) ≡ joined (map (λ (l : List ℕ). lines_of (answer_of w l)) queries)
  lines_all queries = ap lines_of (all_joined queries) ∙ lines_joined (all queries) (all_each queries) ∙ sym (all_same queries)

  pub lines_count : (queries : List (List ℕ)) → count_of ends_answer (lines_of (answers_text w queries)) ≡ length queries
  lines_count queries = ap (λ (s : List ℕ). count_of ends_answer (lines_of s)) (all_joined queries) ∙ ap (count_of ends_answer) (lines_joined (all queries) (all_each queries)) ∙ all_once queries

  all_broken : (queries : List (List ℕ)) (n : ℕ) → n < length (answers_text w queries)
      → count_of ends_answer (lines_of (take n (answers_text w queries))) < count_of ends_answer (lines_of (answers_text w queries))
  all_broken [] n h = absurd (let z = ap length none in omega arith)
    where
      none : answers_text w [] ≡ []
      none = unfold answers_text in refl
  all_broken (q ∷ qs) n h = broken (answers_text w (q ∷ qs)) (all (q ∷ qs)) n (all_joined (q ∷ qs)) (all_ended q qs) h

-- ---- the output

-- an output that breaks off has fewer lines that end an answer than the whole
pub output_broken : (input : List ℕ) (n : ℕ) → n < length (output_of input)
    → count_of ends_answer (lines_of (take n (output_of input))) < count_of ends_answer (lines_of (output_of input))
output_broken input n h =
    ⊎_elim
    (λ (z : (opened_of input program_words).number ≡ 0).
    let e = output_opened input z in
    let k = ap length e in
    subst (λ (s : List ℕ). count_of ends_answer (lines_of (take n s)) < count_of ends_answer (lines_of s)) (sym e)
    (all_broken (open_words input (replicate program_words 0)) (queries_of input) n (omega arith)))
    (λ (r : (opened_of input program_words).number ≡ 0 → ⊥).
    let m = (opened_of input program_words).number in
    broken (output_of input) (refusal_line m 0 ∷ []) n (output_refused input r ∙ alone (refusal_line m 0)) (refusal_ended m 0) h)
    (eq_or_ne (opened_of input program_words).number 0)
  where
    alone : (l : List ℕ) → l ≡ joined (l ∷ [])
    alone l = unfold joined in sym (append-nil l)
