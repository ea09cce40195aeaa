-- The five frames of an import as layouts, and the answers of their readers set out as a reading: number, fields and length of the name.
-- What a frame of a layout is, and what reading and writing it answer, is in `fields`; the frames of a lookup are in `frames`.
-- Assumes nothing.
use Rattle.std.specs.Prelude.{Result, Ok, Err, true, false, List, [], ◌∷◌, ◌++◌, ℕ}
use Rattle.fields.specs.declared.Layout.{Layout}
use Rattle.refusals.specs.declared.Refusal.{Refusal}
use Rattle.refusals.specs.Refusals.{refusal_number}
use Rattle.fields.specs.Layouts.{Reading, refused_with}
use Rattle.frames.specs.Frames.{layouts}
use Rattle.log_frames.specs.declared.Log.{Log}
use Rattle.log_frames.specs.declared.Outcome.{Outcome}
use Rattle.log_frames.specs.declared.Pair.{Pair}
use Rattle.log_frames.specs.declared.ImportEnd.{ImportEnd}
use Rattle.log_frames.specs.declared.ImportRefused.{ImportRefused}

-- ---- the layouts: a kind, the widths of the fields, and whether a name follows

-- a log line: day, reading
abbrev pub log_frame : Layout
log_frame = record { kind = 0x4C; widths = 2 ∷ 2 ∷ []; named = true }

-- an outcome: case, value
abbrev pub outcome_frame : Layout
outcome_frame = record { kind = 0x4F; widths = 1 ∷ 2 ∷ []; named = false }

-- a pair: id, week, sum, count
abbrev pub pair_frame : Layout
pair_frame = record { kind = 0x50; widths = 2 ∷ 2 ∷ 4 ∷ 2 ∷ []; named = false }

-- the end of an import: outcomes, pairs
abbrev pub import_end_frame : Layout
import_end_frame = record { kind = 0x5A; widths = 2 ∷ 2 ∷ []; named = false }

-- a refusal of an import: part, number, line
abbrev pub import_refusal_frame : Layout
import_refusal_frame = record { kind = 0x59; widths = 1 ∷ 1 ∷ 2 ∷ []; named = false }

-- all frames: those of a lookup, and these
abbrev pub all_layouts : List Layout
all_layouts = layouts ++ (log_frame ∷ outcome_frame ∷ pair_frame ∷ import_end_frame ∷ import_refusal_frame ∷ [])

-- how long a 4F line is, a 50 line, a 5A line and a 59 line, their line feed included
abbrev pub outcome_line_length : ℕ
outcome_line_length = 9

abbrev pub pair_line_length : ℕ
pair_line_length = 23

abbrev pub import_end_line_length : ℕ
import_end_line_length = 11

abbrev pub import_refusal_line_length : ℕ
import_refusal_line_length = 11

-- ---- the answers of the five readers, set out: 0 and what was read, or the number of the refusal and 0 in every field

-- of a 4C line
abbrev pub log_out : Result Log Refusal → Reading
log_out (Ok x) = record { number = 0; fields = x.day ∷ x.reading ∷ []; len = x.len }
log_out (Err r) = refused_with log_frame (refusal_number r)

-- of a 4F line
abbrev pub outcome_out : Result Outcome Refusal → Reading
outcome_out (Ok x) = record { number = 0; fields = x.case ∷ x.value ∷ []; len = 0 }
outcome_out (Err r) = refused_with outcome_frame (refusal_number r)

-- of a 50 line
abbrev pub pair_out : Result Pair Refusal → Reading
pair_out (Ok x) = record { number = 0; fields = x.id ∷ x.week ∷ x.sum ∷ x.count ∷ []; len = 0 }
pair_out (Err r) = refused_with pair_frame (refusal_number r)

-- of a 5A line
abbrev pub import_end_out : Result ImportEnd Refusal → Reading
import_end_out (Ok x) = record { number = 0; fields = x.outcomes ∷ x.pairs ∷ []; len = 0 }
import_end_out (Err r) = refused_with import_end_frame (refusal_number r)

-- of a 59 line
abbrev pub import_refusal_out : Result ImportRefused Refusal → Reading
import_refusal_out (Ok x) = record { number = 0; fields = x.part ∷ x.number ∷ x.line ∷ []; len = 0 }
import_refusal_out (Err r) = refused_with import_refusal_frame (refusal_number r)

-- ---- what is read of a line, of its fields one by one

abbrev pub a_log : ℕ → ℕ → ℕ → Result Log Refusal
a_log day reading len = Ok (record { day = day; reading = reading; len = len })

abbrev pub an_outcome : ℕ → ℕ → Result Outcome Refusal
an_outcome case value = Ok (record { case = case; value = value })

abbrev pub a_pair : ℕ → ℕ → ℕ → ℕ → Result Pair Refusal
a_pair id week sum count = Ok (record { id = id; week = week; sum = sum; count = count })

abbrev pub an_import_end : ℕ → ℕ → Result ImportEnd Refusal
an_import_end outcomes pairs = Ok (record { outcomes = outcomes; pairs = pairs })

abbrev pub an_import_refusal : ℕ → ℕ → ℕ → Result ImportRefused Refusal
an_import_refusal part number line = Ok (record { part = part; number = number; line = line })
