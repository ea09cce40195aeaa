-- The output piece by piece: a buffer that holds the longest answer holds each line's answer whole, and these, one after the other, are the output.
-- Cited by the program. Assumes nothing.
use mathlib.Core.Path.{◌≡◌, refl, sym, ap, ap₂, ◌∙◌}
use mathlib.Core.Bool.{Bool, true, false, cond}
use mathlib.Core.List.{List, [], ◌++◌}
use Prim.Native.Nat.{ℕ, ◌+◌, ◌≤◌}
use native.Mathlib.Omega.{arith}
use lib.ListN.{length, take, drop, replicate, length-append, length-drop, length-replicate}
use lib.Seq.{drop-drop, take_at, drop_at}
use lib.Dec.{ltb}
use borrow.Author.Tests.{ltb-false}
use Rattle.fields.specs.Layouts.{Written}
use Rattle.lines.specs.Lines.{lines_of, line_length}
use Rattle.index_writer.specs.Written.{blank}
use Rattle.register.specs.Build.{built_of}
use Rattle.register.proofs.Names.{same_build}
use Rattle.std.proofs.Common.{Ok}
use Rattle.answers.specs.declared.Opening.{Opening}
use Rattle.answers.specs.Output.{Opened, opened_in, most_input, register_end, register_of, program_words, longest_answer, opened_of, open_words, answer_of, line_text, responded_of, answers_text, output_of}
use Rattle.fields.proofs.Fitted.{fitting_whole}
use Rattle.answers.proofs.Reading.{answer_most}
use Rattle.answers.proofs.Responding.{text_first, text_end, output_opened}

-- ---- an answer in a buffer that holds the longest

module _ (w input : List ℕ) (at : ℕ) where
  pub line_most : length (line_text w input at) ≤ longest_answer
  unfolding line_text
  line_most = by_end (ltb at (length input))
    where
      by_end : (b : Bool) → length (cond b (answer_of w (take (line_length (drop at input)) (drop at input))) []) ≤ longest_answer
      by_end true = answer_most w (take (line_length (drop at input)) (drop at input))
      by_end false = omega arith

  -- it is written, whole
  pub responded_whole : (room : ℕ) → longest_answer ≤ room
      → ((responded_of w input at room).number ≡ 0) × ((responded_of w input at room).len ≡ length (line_text w input at))
  unfolding responded_of
  responded_whole room h =
      let m = line_most in
      let e = fitting_whole (line_text w input at) room (omega arith) in
      (ap (λ (x : Written). x.number) e, ap (λ (x : Written). x.len) e)

  pub next_line : (room : ℕ) → (responded_of w input at room).next ≡ at + line_length (drop at input)
  unfolding responded_of
  next_line room = refl

  -- the first piece of what is left is the line's answer, and after it stand the answers of the lines after it
  module _ (output : List ℕ) (sent : ℕ) (left : drop sent output ≡ answers_text w (lines_of (drop at input))) where
    split : drop sent output ≡ line_text w input at ++ answers_text w (lines_of (drop (at + line_length (drop at input)) input))
    split = left ∙ text_first w input at

    pub piece_first : take (length (line_text w input at)) (drop sent output) ≡ line_text w input at
    piece_first = ap (take (length (line_text w input at))) split ∙ take_at (line_text w input at) (answers_text w (lines_of (drop (at + line_length (drop at input)) input))) (length (line_text w input at)) refl

    pub piece_rest : drop (sent + length (line_text w input at)) output ≡ answers_text w (lines_of (drop (at + line_length (drop at input)) input))
    piece_rest =
        sym (drop-drop (length (line_text w input at)) sent output)
        ∙ ap (drop (length (line_text w input at))) split
        ∙ drop_at (line_text w input at) (answers_text w (lines_of (drop (at + line_length (drop at input)) input))) (length (line_text w input at)) refl

    pub piece_within : sent ≤ length output → sent + length (line_text w input at) ≤ length output
    piece_within h =
        let a = ap length split in
        let b = length-append (line_text w input at) (answers_text w (lines_of (drop (at + line_length (drop at input)) input))) in
        let c = length-drop sent output in
        omega arith

-- after the last line all of the output is sent
pub pieces_end : (w input : List ℕ) (at : ℕ) (output : List ℕ) (sent : ℕ) → drop sent output ≡ answers_text w (lines_of (drop at input))
    → length input ≤ at → sent ≤ length output → sent ≡ length output
pieces_end w input at output sent left h k =
    let a = ap length (left ∙ text_end w input at h) in
    let b = length-drop sent output in
    omega arith

-- ---- the program's words

-- what opening leaves goes by how many words are lent, not by what they held
pub words_lent : (input words : List ℕ) → length words ≡ program_words → open_words input words ≡ open_words input (replicate program_words 0)
unfolding open_words
words_lent input words e =
    let l : length words ≡ length {A = ℕ} (replicate program_words 0) = e ∙ sym (length-replicate {A = ℕ} program_words 0) in
    ap₂ (λ (n : ℕ) (after : List ℕ). cond (ltb most_input (length input)) (replicate n blank) after) l
    (same_build (register_of input) words (replicate program_words 0) l).1

-- an opening whose index was built has number 0
pub opening_ok : {x : Unit {0}} (o : Opening) → o.built ≡ Ok x → (opened_in o).number ≡ 0
opening_ok o e = rw e refl

-- an input that is opened is not too much, and its queries begin where its register ends
pub opened_few : (input : List ℕ) (room : ℕ) → (opened_of input room).number ≡ 0 → (length input ≤ most_input) × ((opened_of input room).at ≡ register_end input)
unfolding opened_of
opened_few input room z = by_size (ltb most_input (length input)) refl z
  where
    opened : Bool → Opened
    opened b =
        cond b
        (record { number = 8; line = 0; at = 0 })
        (record { number = (built_of (register_of input) room).number; line = (built_of (register_of input) room).line; at = register_end input })

    by_size : (b : Bool) → ltb most_input (length input) ≡ b → (opened b).number ≡ 0 → (length input ≤ most_input) × ((opened b).at ≡ register_end input)
    by_size true e n = absurd (omega arith)
    by_size false e n = (ltb-false most_input (length input) e, refl)

-- the output of an input that is opened, from its first byte on
pub pieces_begin : (input : List ℕ) → (opened_of input program_words).number ≡ 0
    → drop 0 (output_of input) ≡ answers_text (open_words input (replicate program_words 0)) (lines_of (drop (opened_of input program_words).at input))
pieces_begin input z =
    output_opened input z ∙ ap (λ (k : ℕ). answers_text (open_words input (replicate program_words 0)) (lines_of (drop k input))) (sym (opened_few input program_words z).1)
