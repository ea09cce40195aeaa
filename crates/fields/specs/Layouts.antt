-- What a frame is, once for every layout: its bytes, whether a line is a frame of it, the fields and the name in the line, and what
-- reading and writing answer and leave. The five layouts are in `frames`; the laws are in proofs/Layouts.antt and proofs/Laws.antt.
-- Assumes nothing.
use Rattle.std.specs.Prelude.{◌≡◌, Result, Ok, Err, Bool, true, false, cond, ◌&&◌, List, [], ◌∷◌, ◌++◌, ℕ, ◌+◌, ◌^◌, ◌≤◌, ◌<◌, length, get_or, take, drop, replicate, leb, ltb, eqb}
use Rattle.laws.specs.Lists.{sum_of}
use Rattle.hex_digits.specs.Lines.{Bytes, hex_line, well_formed, bytes_of}
use Rattle.hex_digits.specs.Numbers.{number_of, bytes_for}
use Rattle.fields.specs.declared.Layout.{Layout}
use Rattle.fields.specs.declared.Parts.{Parts}
use Rattle.refusals.specs.declared.Refusal.{Refusal}
use Rattle.refusals.specs.Refusals.{refusal_number}

-- ---- the bytes of a frame

-- how many bytes the kind and the fields take
unfoldable pub head_size : Layout → ℕ
head_size y = 1 + sum_of y.widths

-- no field is wider than four bytes
abbrev pub narrow : List ℕ → Bool
narrow [] = true
narrow (w ∷ ws) = leb w 4 && narrow ws

-- the fields as bytes, each at its width; a field that is missing counts as 0
unfoldable pub field_bytes : List ℕ → List ℕ → List ℕ
field_bytes [] f = []
field_bytes (w ∷ ws) f = bytes_for w (get_or f 0 0) ++ field_bytes ws (drop 1 f)

-- the name after its length; nothing in a layout without a name
unfoldable pub name_bytes : Bool → List ℕ → List ℕ
name_bytes true name = length name ∷ name
name_bytes false name = []

-- the line of a frame
unfoldable pub line_of : Layout → List ℕ → List ℕ → List ℕ
line_of y f name = hex_line (y.kind ∷ (field_bytes y.widths f ++ name_bytes y.named name))

-- the fields are as many as the widths, and each fits its bytes
abbrev pub FieldsFit : List ℕ → List ℕ → Type 0
FieldsFit [] [] = Unit {0}
FieldsFit [] (n ∷ f) = ⊥
FieldsFit (w ∷ ws) [] = ⊥
FieldsFit (w ∷ ws) (n ∷ f) = (n < 256 ^ w) × FieldsFit ws f

-- the most bytes that a frame's name has: its length is one byte
abbrev pub longest_name : ℕ
longest_name = 255

-- the fields and the name fit the layout: a name is not too long, and has no byte in a layout without a name
pub record Fitting (y : Layout) (f name : List ℕ) : Type 0 where
  pub kind : y.kind < 256
  pub fields : FieldsFit y.widths f
  pub bytes : Bytes name
  pub short : length name ≤ longest_name
  pub plain : y.named ≡ false → name ≡ []

-- ---- a line

-- how many bytes come after the fields: the length byte and as many as it says; none in a layout without a name
unfoldable pub tail_size : Layout → List ℕ → ℕ
tail_size y s = cond y.named (1 + get_or s (head_size y) 0) 0

-- whether the bytes begin with the kind and are just as many as the layout has
unfoldable pub laid_out : Layout → List ℕ → Bool
laid_out y s = eqb (get_or s 0 0) y.kind && eqb (length s) (head_size y + tail_size y s)

-- whether the line is a frame of the layout
unfoldable pub is_frame : Layout → List ℕ → Bool
is_frame y line = well_formed line && laid_out y (bytes_of line)

-- the fields that stand at the widths, one after the other
unfoldable pub fields_of : List ℕ → List ℕ → List ℕ
fields_of [] s = []
fields_of (w ∷ ws) s = number_of (take w s) ∷ fields_of ws (drop w s)

-- the fields in a line, from after the kind
unfoldable pub fields_in : Layout → List ℕ → List ℕ
fields_in y line = fields_of y.widths (drop 1 (bytes_of line))

-- the name in a line, from after its length byte; none in a layout without a name
unfoldable pub name_in : Layout → List ℕ → List ℕ
name_in y line = cond y.named (drop (head_size y + 1) (bytes_of line)) []

-- ---- reading

-- a reading of a frame: its number, its fields and the length of its name
pub record Reading : Type 0 where
  pub number : ℕ
  pub fields : List ℕ
  pub len : ℕ

-- an accepted reading: number 0, the fields, and the length of the name
abbrev pub accepted_as : Layout → List ℕ → Reading
accepted_as y line = record { number = 0; fields = fields_in y line; len = length (name_in y line) }

-- a refused reading: the number, and 0 in every field
abbrev pub refused_with : Layout → ℕ → Reading
refused_with y n = record { number = n; fields = replicate (length y.widths) 0; len = 0 }

-- what reading a line answers where the name has the room: 11 where it is no frame of the layout, then 8 where the name is too long
unfoldable pub read_of : Layout → List ℕ → ℕ → Reading
read_of y line room =
    cond (is_frame y line) (cond (leb (length (name_in y line)) room) (accepted_as y line) (refused_with y 8)) (refused_with y 11)

-- what a reader answers, set out: 0 and what was read, or the number of the refusal and 0 in every field
abbrev pub reading_in : Layout → Result Parts Refusal → Reading
reading_in y (Ok p) = record { number = 0; fields = p.fields; len = p.len }
reading_in y (Err r) = refused_with y (refusal_number r)

-- what reading leaves in the buffer: the name and then what stood beyond it, or what stood there where the reading is refused
unfoldable pub buffer_of : Layout → List ℕ → List ℕ → List ℕ
buffer_of y line buffer =
    cond (eqb (read_of y line (length buffer)).number 0)
    (name_in y line ++ drop (length (name_in y line)) buffer)
    buffer

-- ---- writing

-- what writing answers: its number, and how many bytes were written
pub record Written : Type 0 where
  pub number : ℕ
  pub len : ℕ

-- what a writer answers, set out: 0 and how many bytes were written, or the number of the refusal and none
abbrev pub written_in : Result ℕ Refusal → Written
written_in (Ok n) = record { number = 0; len = n }
written_in (Err r) = record { number = refusal_number r; len = 0 }

-- what writing answers where the line has the room: 2 where the name is too long, then 8 where the line is too long
unfoldable pub written_of : Layout → List ℕ → List ℕ → ℕ → Written
written_of y f name room =
    cond (ltb longest_name (length name))
    (record { number = 2; len = 0 })
    (cond (leb (length (line_of y f name)) room)
    (record { number = 0; len = length (line_of y f name) })
    (record { number = 8; len = 0 }))

-- what writing leaves in the buffer: the line and then what stood beyond it, or what stood there where the writing is refused
unfoldable pub out_of : Layout → List ℕ → List ℕ → List ℕ → List ℕ
out_of y f name out =
    cond (eqb (written_of y f name (length out)).number 0)
    (line_of y f name ++ drop (length (line_of y f name)) out)
    out
