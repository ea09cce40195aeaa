-- The five frames as layouts, and the answers of their readers set out as a reading: number, fields and length of the name.
-- What a frame of a layout is, and what reading and writing it answer, is in `fields`.
-- Assumes nothing.
use Rattle.std.specs.Prelude.{Result, Ok, Err, true, false, List, [], ◌∷◌, ℕ}
use Rattle.fields.specs.declared.Layout.{Layout}
use Rattle.refusals.specs.declared.Refusal.{Refusal}
use Rattle.refusals.specs.Refusals.{refusal_number}
use Rattle.fields.specs.Layouts.{Reading, refused_with}
use Rattle.frames.specs.declared.Name.{Name}
use Rattle.frames.specs.declared.Query.{Query}
use Rattle.frames.specs.declared.Row.{Row}
use Rattle.frames.specs.declared.End.{End}
use Rattle.frames.specs.declared.Refused.{Refused}

-- ---- the layouts: a kind, the widths of the fields, and whether a name follows

-- a registered name: id
abbrev pub name_frame : Layout
name_frame = record { kind = 0x4E; widths = 2 ∷ []; named = true }

-- a query: measure, p, q, allowance
abbrev pub query_frame : Layout
query_frame = record { kind = 0x51; widths = 1 ∷ 2 ∷ 2 ∷ 4 ∷ []; named = true }

-- an answer row: id, shared, size, least count
abbrev pub row_frame : Layout
row_frame = record { kind = 0x52; widths = 2 ∷ 1 ∷ 1 ∷ 1 ∷ []; named = false }

-- the end of an answer: rows, touches, p, q
abbrev pub end_frame : Layout
end_frame = record { kind = 0x45; widths = 2 ∷ 4 ∷ 2 ∷ 2 ∷ []; named = false }

-- a refusal: number, touches
abbrev pub refusal_frame : Layout
refusal_frame = record { kind = 0x58; widths = 1 ∷ 4 ∷ []; named = false }

-- all of them
abbrev pub layouts : List Layout
layouts = name_frame ∷ query_frame ∷ row_frame ∷ end_frame ∷ refusal_frame ∷ []

-- how long a 52 line is, a 45 line and a 58 line, their line feed included
abbrev pub row_line_length : ℕ
row_line_length = 13

abbrev pub end_line_length : ℕ
end_line_length = 23

abbrev pub refusal_line_length : ℕ
refusal_line_length = 13

-- ---- the answers of the five readers, set out: 0 and what was read, or the number of the refusal and 0 in every field

-- of a 4E line
abbrev pub name_out : Result Name Refusal → Reading
name_out (Ok x) = record { number = 0; fields = x.id ∷ []; len = x.len }
name_out (Err r) = refused_with name_frame (refusal_number r)

-- of a 51 line
abbrev pub query_out : Result Query Refusal → Reading
query_out (Ok x) = record { number = 0; fields = x.measure ∷ x.p ∷ x.q ∷ x.allowance ∷ []; len = x.len }
query_out (Err r) = refused_with query_frame (refusal_number r)

-- of a 52 line
abbrev pub row_out : Result Row Refusal → Reading
row_out (Ok x) = record { number = 0; fields = x.id ∷ x.shared ∷ x.size ∷ x.least ∷ []; len = 0 }
row_out (Err r) = refused_with row_frame (refusal_number r)

-- of a 45 line
abbrev pub end_out : Result End Refusal → Reading
end_out (Ok x) = record { number = 0; fields = x.rows ∷ x.touches ∷ x.p ∷ x.q ∷ []; len = 0 }
end_out (Err r) = refused_with end_frame (refusal_number r)

-- of a 58 line
abbrev pub refusal_out : Result Refused Refusal → Reading
refusal_out (Ok x) = record { number = 0; fields = x.number ∷ x.touches ∷ []; len = 0 }
refusal_out (Err r) = refused_with refusal_frame (refusal_number r)

-- ---- what is read of a line, of its fields one by one

abbrev pub a_name : ℕ → ℕ → Result Name Refusal
a_name id len = Ok (record { id = id; len = len })

abbrev pub a_query : ℕ → ℕ → ℕ → ℕ → ℕ → Result Query Refusal
a_query measure p q allowance len = Ok (record { measure = measure; p = p; q = q; allowance = allowance; len = len })

abbrev pub a_row : ℕ → ℕ → ℕ → ℕ → Result Row Refusal
a_row id shared size least = Ok (record { id = id; shared = shared; size = size; least = least })

abbrev pub an_end : ℕ → ℕ → ℕ → ℕ → Result End Refusal
an_end rows touches p q = Ok (record { rows = rows; touches = touches; p = p; q = q })

abbrev pub a_refusal : ℕ → ℕ → Result Refused Refusal
a_refusal number touches = Ok (record { number = number; touches = touches })
