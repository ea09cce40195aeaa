-- An input answered line by line: each answer is the first of what is left, and together they are the program's output.
-- Assumes nothing.
use mathlib.Core.Path.{◌≡◌, refl, sym, ap, ap₂, ◌∙◌}
use mathlib.Core.Logic.{◌⊎◌, ⊎_elim}
use Rattle.laws.proofs.Order.{le_or_lt}
use mathlib.Core.List.{List, [], ◌∷◌, ◌++◌}
use Prim.Native.Nat.{ℕ, ◌+◌, ◌-◌, ◌≤◌, ◌<◌}
use native.Mathlib.Nat.{add-zero}
use native.Mathlib.Omega.{arith}
use lib.ListN.{length, take, drop, length-drop, replicate, drop_of_length-le}
use lib.Seq.{drop-drop}
use borrow.Author.Tests.{eq-eqb, ne_eqb, lt-ltb, le-ltb}
use Rattle.fields.specs.Layouts.{Written}
use Rattle.lines.specs.Lines.{lines_of, line_length}
use Rattle.lines.proofs.Lines.{line_some, lines_nil, lines_step, length_line_end}
use Rattle.fields.specs.Fitted.{fitting_of, fitted_of}
use Rattle.fields.proofs.Fitted.{fitting_all, fitted_all, fitting_within}
use Rattle.answers.specs.Output.{register_end, opened_of, open_words, program_words, refusal_line, answer_of, line_text, responded_of, answers_text, output_of}

module _ (w input : List ℕ) (at : ℕ) where
  -- past the end
  text_none : length input ≤ at → line_text w input at ≡ []
  unfolding line_text
  text_none h = rw (le-ltb at (length input) h)

  pub responded_none : (room : ℕ) → length input ≤ at → record { number = 0; len = 0; next = at } ≡ responded_of w input at room
  unfolding responded_of
  responded_none room h =
      ap₂ (λ (x : Written) (k : ℕ). record { number = x.number; len = x.len; next = k })
      (fitting_all [] room 0 refl (omega arith) ∙ ap (λ (t : List ℕ). fitting_of t room) (sym (text_none h)))
      (sym (add-zero at) ∙ ap (λ (k : ℕ). at + k) (sym (length_line_end input at h)))

  pub fitted_past : (out : List ℕ) → length input ≤ at → out ≡ fitted_of (line_text w input at) out
  fitted_past out h = fitted_all [] out 0 refl (omega arith) ∙ ap (λ (t : List ℕ). fitted_of t out) (sym (text_none h))

  -- a line
  pub text_line : at < length input → line_text w input at ≡ answer_of w (take (line_length (drop at input)) (drop at input))
  unfolding line_text
  text_line h = rw (lt-ltb at (length input) h)

  pub responded_line : (room end : ℕ) (r : Written) → at < length input → end ≡ at + line_length (drop at input)
      → r ≡ fitting_of (answer_of w (take (end - at) (drop at input))) room
      → record { number = r.number; len = r.len; next = end } ≡ responded_of w input at room
  unfolding responded_of
  responded_line room end r h e f =
      let n : end - at ≡ line_length (drop at input) = omega arith in
      let g : r ≡ fitting_of (line_text w input at) room =
      f ∙ ap (λ (k : ℕ). fitting_of (answer_of w (take k (drop at input))) room) n ∙ ap (λ (t : List ℕ). fitting_of t room) (sym (text_line h)) in
      ap₂ (λ (x : Written) (k : ℕ). record { number = x.number; len = x.len; next = k }) g e

  pub fitted_line : (out after : List ℕ) (end : ℕ) → at < length input → end ≡ at + line_length (drop at input)
      → after ≡ fitted_of (answer_of w (take (end - at) (drop at input))) out → after ≡ fitted_of (line_text w input at) out
  fitted_line out after end h e f =
      let n : end - at ≡ line_length (drop at input) = omega arith in
      f ∙ ap (λ (k : ℕ). fitted_of (answer_of w (take k (drop at input))) out) n ∙ ap (λ (t : List ℕ). fitted_of t out) (sym (text_line h))

  -- what was written lies within the buffer, and the next line starts further on
  pub responded_within : (room : ℕ) → (responded_of w input at room).len ≤ room
  unfolding responded_of
  responded_within room = fitting_within (line_text w input at) room

  pub responded_next : (room : ℕ) → at < length input → at < (responded_of w input at room).next
  unfolding responded_of
  responded_next room h = let n = length-drop at input in let o = line_some (drop at input) (omega arith) in omega arith

  -- the answers of what is left: this line's, and then those of the lines after it
  pub text_first : answers_text w (lines_of (drop at input)) ≡ line_text w input at ++ answers_text w (lines_of (drop (at + line_length (drop at input)) input))
  text_first = by_end (le_or_lt (length input) at)
    where
      more : (l : List ℕ) (ls : List (List ℕ)) → answers_text w (l ∷ ls) ≡ answer_of w l ++ answers_text w ls
      more l ls = unfold answers_text in refl

      by_end : (length input ≤ at) ⊎ (at < length input)
          → answers_text w (lines_of (drop at input)) ≡ line_text w input at ++ answers_text w (lines_of (drop (at + line_length (drop at input)) input))
      by_end c =
          ⊎_elim
          (λ (h : length input ≤ at).
          ap (λ (k : ℕ). answers_text w (lines_of (drop k input))) (sym (add-zero at) ∙ ap (λ (k : ℕ). at + k) (sym (length_line_end input at h)))
          ∙ ap (λ (t : List ℕ). t ++ answers_text w (lines_of (drop (at + line_length (drop at input)) input))) (sym (text_none h)))
          (λ (h : at < length input). let n = length-drop at input in
          ap (answers_text w) (lines_step (drop at input) (omega arith))
          ∙ more (take (line_length (drop at input)) (drop at input)) (lines_of (drop (line_length (drop at input)) (drop at input)))
          ∙ ap₂ (λ (t r : List ℕ). t ++ answers_text w (lines_of r)) (sym (text_line h)) (drop-drop (line_length (drop at input)) at input))
          c

-- the output of an input that is opened is the answers from its queries on; of any other one refusal
pub output_opened : (input : List ℕ) → (opened_of input program_words).number ≡ 0
    → output_of input ≡ answers_text (open_words input (replicate program_words 0)) (lines_of (drop (register_end input) input))
unfolding output_of
output_opened input z = rw (eq-eqb (opened_of input program_words).number 0 z)

pub output_refused : (input : List ℕ) → ((opened_of input program_words).number ≡ 0 → ⊥) → output_of input ≡ refusal_line (opened_of input program_words).number 0
unfolding output_of
output_refused input n = rw (ne_eqb (opened_of input program_words).number 0 n)

-- at the end of the input nothing is left to answer
pub text_end : (w input : List ℕ) (at : ℕ) → length input ≤ at → answers_text w (lines_of (drop at input)) ≡ []
unfolding answers_text
text_end w input at h = ap (λ (l : List ℕ). answers_text w (lines_of l)) (drop_of_length-le input {i = at} h) ∙ ap (answers_text w) lines_nil
