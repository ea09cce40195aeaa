-- The lines of an answer in a lent buffer.
-- Assumes nothing.
use mathlib.Core.Path.{◌≡◌, refl, sym, ap, ◌∙◌}
use mathlib.Core.List.{List, [], ◌∷◌, ◌++◌}
use Prim.Native.Nat.{ℕ, ◌+◌, ◌*◌, ◌≤◌}
use native.Mathlib.Omega.{arith}
use lib.ListN.{length, get_or, drop, length-append}
use Rattle.lines.proofs.Evenly.{length_texts}
use Rattle.hex_digits.specs.Lines.{hex_of, hex_line}
use Rattle.hex_digits.specs.Numbers.{bytes_for}
use Rattle.std.proofs.Common.{Result, Ok, Err, IsOk}
use Rattle.refusals.specs.declared.Refusal.{Refusal}
use Rattle.refusals.proofs.Refusals.{refused}
use Rattle.fields.specs.declared.Layout.{Layout}
use Rattle.fields.specs.Layouts.{field_bytes, name_bytes, line_of, Written, written_in, written_of, out_of}
use Rattle.fields.specs.Fitted.{fitted_of}
use Rattle.fields.proofs.Fitted.{fitting_whole, fitted_all, written_plain, out_exact}
use Rattle.frames.specs.Frames.{row_frame, end_frame, row_line_length, end_line_length}
use Rattle.search.specs.Answers.{Columns}
use Rattle.answers.specs.Output.{row_line, end_line, row_text, rows_text, found_text}

-- ---- how long the lines are

pub length_row : (id shared size least : ℕ) → length (row_line id shared size least) ≡ row_line_length
unfolding line_of hex_line hex_of field_bytes name_bytes bytes_for
length_row id shared size least = refl

pub length_end : (rows touches p q : ℕ) → length (end_line rows touches p q) ≡ end_line_length
unfolding line_of hex_line hex_of field_bytes name_bytes bytes_for
length_end rows touches p q = refl

-- those of rows, wherever they stand, are all as long
pub row_even : (c : Columns) (k : ℕ) → length (row_text c k) ≡ row_line_length
row_even c k = length_row (get_or c.ids k 0) (get_or c.shared k 0) (get_or c.sizes k 0) (get_or c.least k 0)

pub length_rows : (c : Columns) (n : ℕ) → length (rows_text c n) ≡ row_line_length * n
length_rows c n = length_texts (row_text c) row_line_length (row_even c) n

pub row_exact : (id shared size least : ℕ) (out : List ℕ) → length out ≡ row_line_length → out_of row_frame (id ∷ shared ∷ size ∷ least ∷ []) [] out ≡ row_line id shared size least
row_exact id shared size least out e = out_exact row_frame (id ∷ shared ∷ size ∷ least ∷ []) out (length_row id shared size least ∙ sym e)

-- a writer that has the room for its line writes it
pub is_written : (r : Result ℕ Refusal) → (written_in r).number ≡ 0 → IsOk r
is_written (Ok n) z = refl
is_written (Err e) z = absurd (refused e z)

pub line_written : (y : Layout) (f : List ℕ) (room : ℕ) (r : Result ℕ Refusal) → written_in r ≡ written_of y f [] room → length (line_of y f []) ≤ room
    → written_in r ≡ record { number = 0; len = length (line_of y f []) }
line_written y f room r e h = e ∙ written_plain y f room ∙ fitting_whole (line_of y f []) room h

pub line_ok : (y : Layout) (f : List ℕ) (room : ℕ) (r : Result ℕ Refusal) → written_in r ≡ written_of y f [] room → length (line_of y f []) ≤ room → IsOk r
line_ok y f room r e h = is_written r (ap (λ (w : Written). w.number) (line_written y f room r e h))

-- ---- the rows and their end

pub end_exact : (rows touches p q : ℕ) (out : List ℕ) → length out ≡ end_line_length → out_of end_frame (rows ∷ touches ∷ p ∷ q ∷ []) [] out ≡ end_line rows touches p q
end_exact rows touches p q out e = out_exact end_frame (rows ∷ touches ∷ p ∷ q ∷ []) out (length_end rows touches p q ∙ sym e)

pub length_found : (rows touches p q : ℕ) (c : Columns) → length (found_text rows touches p q c) ≡ row_line_length * rows + end_line_length
unfolding found_text
length_found rows touches p q c =
    let a = length-append (rows_text c rows) (end_line rows touches p q) in
    let b = length_rows c rows in
    let d = length_end rows touches p q in
    omega arith

pub fitted_found : (rows touches p q : ℕ) (c : Columns) (out : List ℕ) → row_line_length * rows + end_line_length ≤ length out
    → (rows_text c rows ++ end_line rows touches p q) ++ drop (row_line_length * rows + end_line_length) out ≡ fitted_of (found_text rows touches p q c) out
fitted_found rows touches p q c out h =
    unfolded ∙ fitted_all (found_text rows touches p q c) out (row_line_length * rows + end_line_length) (length_found rows touches p q c) h
  where
    unfolded : (rows_text c rows ++ end_line rows touches p q) ++ drop (row_line_length * rows + end_line_length) out ≡ found_text rows touches p q c ++ drop (row_line_length * rows + end_line_length) out
    unfolded = unfold found_text in refl
