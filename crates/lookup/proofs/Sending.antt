-- What is sent between two lines: each answer is the next piece of the output, and after the last one all of it is sent.
-- Assumes nothing.
use mathlib.Core.Path.{◌≡◌, sym, ap, subst, ◌∙◌}
use mathlib.Core.List.{List, [], ◌∷◌}
use Prim.Native.Nat.{ℕ, ◌+◌, ◌*◌, ◌≤◌, ◌<◌}
use native.Mathlib.Omega.{arith}
use lib.ListN.{length, take, drop, replicate, length-replicate}
use lib.Seq.{take-length, length-take-le}
use Rattle.index.specs.Good.{Good}
use Rattle.lines.specs.Lines.{lines_of, line_length}
use Rattle.std.proofs.Common.{Result, Ok, IsOk}
use Rattle.refusals.specs.declared.Refusal.{Refusal}
use Rattle.fields.specs.Layouts.{Written, written_in, written_of}
use Rattle.frames.specs.Frames.{refusal_frame}
use Rattle.answers.specs.declared.Responded.{Responded}
use Rattle.answers.specs.Output.{most_input, program_words, longest_answer, opened_of, refusal_line, line_text, Response, responded_in, responded_of, answers_text, output_of}
use Rattle.answers.proofs.Text.{is_written, line_written, line_ok}
use Rattle.answers.proofs.Input.{opened_good}
use Rattle.fields.specs.Fitted.{fitted_of}
use Rattle.fields.proofs.Fitted.{length_fitted, fitted_whole}
use Rattle.answers.proofs.Reading.{refusal_length}
use Rattle.answers.proofs.Responding.{responded_next, output_refused}
use Rattle.answers.proofs.Pieces.{line_most, responded_whole, next_line, piece_first, piece_rest, piece_within, pieces_end, pieces_begin}
use Rattle.lookup.specs.Pieces.{Next, Opened}

-- a text that stands at the start of the buffer and is the next of the output
next_piece : (input out after text : List ℕ) (sent len : ℕ) → len ≡ length text → length text ≤ length out → after ≡ fitted_of text out
    → take (length text) (drop sent (output_of input)) ≡ text → sent + length text < 4294967296 → Next input sent (take len after)
next_piece input out after text sent len e h f t b =
    let p : take len after ≡ text = ap (λ (k : ℕ). take k after) e ∙ ap (take (length text)) f ∙ fitted_whole text out h in
    let n = ap length p in
    record {
      next = p ∙ sym t ∙ ap (λ (k : ℕ). take k (drop sent (output_of input))) (sym n);
      few = omega arith;
    }

within : (out after text : List ℕ) (len : ℕ) → len ≡ length text → length text ≤ length out → after ≡ fitted_of text out
    → (len ≤ length after) × (len ≡ length (take len after))
within out after text len e h f =
    let l : length after ≡ length out = ap length f ∙ length_fitted text out in
    (omega arith, sym (length-take-le len after (omega arith)))

-- ---- an input that is refused

-- its line has the room
module _ (n room : ℕ) (r : Result ℕ Refusal) (lent : room ≡ longest_answer) (answered : written_in r ≡ written_of refusal_frame (n ∷ 0 ∷ []) [] room) where
  fits : length (refusal_line n 0) ≤ room
  fits = let m = refusal_length n 0 in omega arith

  pub refusal_ok : IsOk r
  refusal_ok = line_ok refusal_frame (n ∷ 0 ∷ []) room r answered fits

  pub refusal_len : (len : ℕ) → r ≡ Ok len → len ≡ length (refusal_line n 0)
  refusal_len len e =
      sym (ap (λ (x : Result ℕ Refusal). (written_in x).len) e) ∙ ap (λ (x : Written). x.len) (line_written refusal_frame (n ∷ 0 ∷ []) room r answered fits)

module _ (input out after : List ℕ) (n len : ℕ) (refused : n ≡ (opened_of input program_words).number) (not-0 : n ≡ 0 → ⊥) where
  refusal : output_of input ≡ refusal_line n 0
  refusal = output_refused input (λ z. not-0 (refused ∙ z)) ∙ ap (λ (k : ℕ). refusal_line k 0) (sym refused)

  pub refusal_within : len ≡ length (refusal_line n 0) → length out ≡ longest_answer → after ≡ fitted_of (refusal_line n 0) out
      → (len ≤ length after) × (len ≡ length (take len after))
  refusal_within e l f = let m = refusal_length n 0 in within out after (refusal_line n 0) len e (omega arith) f

  pub refusal_next : len ≡ length (refusal_line n 0) → length out ≡ longest_answer → after ≡ fitted_of (refusal_line n 0) out
      → Next input 0 (take len after)
  refusal_next e l f =
      let m = refusal_length n 0 in
      next_piece input out after (refusal_line n 0) 0 len e (omega arith) f (ap (take (length (refusal_line n 0))) refusal ∙ take-length (refusal_line n 0)) (omega arith)

  pub refusal_whole : len ≡ length (refusal_line n 0) → 0 + len ≡ length (output_of input)
  refusal_whole e = let s = ap length refusal in omega arith

-- ---- the lines of an input that was opened

pub opened_words : (input words : List ℕ) (at : ℕ) → Opened input words at → Good words
opened_words input words at o =
    subst Good (sym o.index)
    (opened_good input (replicate program_words 0)
    (ap (λ (k : ℕ). (opened_of input k).number) (length-replicate {A = ℕ} program_words 0) ∙ o.opened))

-- before the line at a place: so much is sent, and what is left of the output are the answers from there on
pub record Sending (input words out : List ℕ) (sent at : ℕ) : Type 0 where
  pub lent : length out ≡ longest_answer
  pub left : drop sent (output_of input) ≡ answers_text words (lines_of (drop at input))
  pub within : sent ≤ length (output_of input)
  pub few : sent ≤ longest_answer * at

pub sending_starts : (input words out : List ℕ) (at : ℕ) → Opened input words at → length out ≡ longest_answer → Sending input words out 0 at
sending_starts input words out at o l =
    record {
      lent = l;
      left =
          pieces_begin input o.opened
          ∙ ap (λ (w : List ℕ). answers_text w (lines_of (drop (opened_of input program_words).at input))) (sym o.index)
          ∙ ap (λ (k : ℕ). answers_text words (lines_of (drop k input))) (sym o.queries);
      within = omega arith;
      few = omega arith;
    }

-- the answer to the line at a place, whole: it is written, and so many bytes long
module _ (input words out : List ℕ) (sent at : ℕ) (s : Sending input words out sent at) (r : Responded) (responded : responded_in r ≡ responded_of words input at (length out)) where
  response : ((responded_in r).number ≡ 0) × ((responded_in r).len ≡ length (line_text words input at))
  response =
      let l = s.lent in
      let w = responded_whole words input at (length out) (omega arith) in
      (ap (λ (x : Response). x.number) responded ∙ w.0, ap (λ (x : Response). x.len) responded ∙ w.1)

  pub sending_ok : IsOk r.written
  sending_ok = is_written r.written response.0

  module _ (after : List ℕ) (len : ℕ) (ok : r.written ≡ Ok len) (written : after ≡ fitted_of (line_text words input at) out) where
    long : len ≡ length (line_text words input at)
    long = sym (ap (λ (x : Result ℕ Refusal). (written_in x).len) ok) ∙ response.1

    pub sending_within : (len ≤ length after) × (len ≡ length (take len after))
    sending_within =
        let l = s.lent in
        let m = line_most words input at in
        within out after (line_text words input at) len long (omega arith) written

    pub sending_next : at < length input → length input ≤ most_input → Next input sent (take len after)
    sending_next h k =
        let l = s.lent in
        let f = s.few in
        let m = line_most words input at in
        next_piece input out after (line_text words input at) sent len long (omega arith) written
        (piece_first words input at (output_of input) sent s.left)
        (omega arith)

    pub sending_step : (next : ℕ) → at < length input → next ≡ sent + len → Sending input words after next r.next
    sending_step next h e =
        let l = s.lent in
        let f = s.few in
        let m = line_most words input at in
        let b : next ≡ sent + length (line_text words input at) = e ∙ ap (λ (k : ℕ). sent + k) long in
        let a = ap (λ (x : Response). x.next) responded in
        let d = responded_next words input at (length out) h in
        let n : r.next ≡ at + line_length (drop at input) = a ∙ next_line words input at (length out) in
        let w = piece_within words input at (output_of input) sent s.left s.within in
        record {
          lent = ap length written ∙ length_fitted (line_text words input at) out ∙ l;
          left =
              ap (λ (k : ℕ). drop k (output_of input)) b
              ∙ piece_rest words input at (output_of input) sent s.left
              ∙ ap (λ (k : ℕ). answers_text words (lines_of (drop k input))) (sym n);
          within = omega arith;
          few = omega arith;
        }

pub sending_ends : (input words out : List ℕ) (sent at : ℕ) → Sending input words out sent at → length input ≤ at → sent ≡ length (output_of input)
sending_ends input words out sent at s h = pieces_end words input at (output_of input) sent s.left h s.within
