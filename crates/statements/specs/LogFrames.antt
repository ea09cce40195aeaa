-- The frames of an import: what is written reads back, and a good line that was read is written again; and no line is a frame of two kinds, of these
-- and those of a lookup together. `LogFrames` has nothing left open, and is proved as it stands by `log_frames`.
-- The frames of a lookup are in Demands.antt.
-- Assumes nothing.
use Rattle.std.specs.Prelude.{◌≡◌, Ok, true, false, cond, List, [], ◌∷◌, ◌++◌, ℕ, ◌≤◌, ◌<◌, length, get_or, drop}
use Rattle.fields.specs.Layouts.{is_frame, fields_in, name_in, line_of, accepted_as, refused_with, read_of, buffer_of}
use Rattle.log_frames.specs.declared.Log.{Log}
use Rattle.log_frames.specs.Frames.{log_frame, outcome_frame, pair_frame, import_end_frame, import_refusal_frame, all_layouts, log_out, outcome_out, pair_out, import_end_out, import_refusal_out, a_log, an_outcome, a_pair, an_import_end, an_import_refusal}
use Rattle.hex_digits.specs.Lines.{Bytes}

pub record LogFrames : Type 0 where
  pub log_back : (day reading : ℕ) (name : List ℕ) → day < 65536 → reading < 65536 → Bytes name → length name ≤ 255 → (room : ℕ) → length name ≤ room
      → read_of log_frame (line_of log_frame (day ∷ reading ∷ []) name) room ≡ log_out (a_log day reading (length name))
  -- and the lent buffer starts with the typed name; what stood after that is kept
  pub log_buffer : (day reading : ℕ) (name : List ℕ) → day < 65536 → reading < 65536 → Bytes name → length name ≤ 255
      → (buffer : List ℕ) → length name ≤ length buffer
      → buffer_of log_frame (line_of log_frame (day ∷ reading ∷ []) name) buffer ≡ name ++ drop (length name) buffer
  -- a buffer of 255 bytes is room for every typed name, so that such a reading is 0 or 11; and a typed name is at most 255 bytes
  pub log_room : (l : List ℕ) (room : ℕ) → 255 ≤ room → read_of log_frame l room ≡ cond (is_frame log_frame l) (accepted_as log_frame l) (refused_with log_frame 11)
  pub log_bytes : (l : List ℕ) → is_frame log_frame l ≡ true → Bytes (name_in log_frame l) × (length (name_in log_frame l) ≤ 255)
  -- it stands at the start of such a buffer, and what stood after it is kept
  pub log_typed : (l buffer : List ℕ) → is_frame log_frame l ≡ true → 255 ≤ length buffer
      → buffer_of log_frame l buffer ≡ name_in log_frame l ++ drop (length (name_in log_frame l)) buffer
  -- no bytes at all are no frame
  pub log_empty : is_frame log_frame [] ≡ false
  -- its day and its reading have two bytes each
  pub log_fields : (l : List ℕ) → is_frame log_frame l ≡ true → (get_or (fields_in log_frame l) 0 0 < 65536) × (get_or (fields_in log_frame l) 1 0 < 65536)
  pub outcome_back : (number value : ℕ) → number < 256 → value < 65536
      → read_of outcome_frame (line_of outcome_frame (number ∷ value ∷ []) []) 0 ≡ outcome_out (an_outcome number value)
  pub pair_back : (id week sum count : ℕ) → id < 65536 → week < 65536 → sum < 4294967296 → count < 65536
      → read_of pair_frame (line_of pair_frame (id ∷ week ∷ sum ∷ count ∷ []) []) 0 ≡ pair_out (a_pair id week sum count)
  pub end_back : (outcomes pairs : ℕ) → outcomes < 65536 → pairs < 65536
      → read_of import_end_frame (line_of import_end_frame (outcomes ∷ pairs ∷ []) []) 0 ≡ import_end_out (an_import_end outcomes pairs)
  pub refusal_back : (part number line : ℕ) → part < 256 → number < 256 → line < 65536
      → read_of import_refusal_frame (line_of import_refusal_frame (part ∷ number ∷ line ∷ []) []) 0 ≡ import_refusal_out (an_import_refusal part number line)
  pub log_again : (l : List ℕ) (room : ℕ) (r : Log) → log_out (Ok r) ≡ read_of log_frame l room
      → line_of log_frame (r.day ∷ r.reading ∷ []) (name_in log_frame l) ≡ l
  pub outcome_again : (l : List ℕ) (number value : ℕ) → outcome_out (an_outcome number value) ≡ read_of outcome_frame l 0
      → line_of outcome_frame (number ∷ value ∷ []) [] ≡ l
  pub pair_again : (l : List ℕ) (id week sum count : ℕ) → pair_out (a_pair id week sum count) ≡ read_of pair_frame l 0
      → line_of pair_frame (id ∷ week ∷ sum ∷ count ∷ []) [] ≡ l
  pub end_again : (l : List ℕ) (outcomes pairs : ℕ) → import_end_out (an_import_end outcomes pairs) ≡ read_of import_end_frame l 0
      → line_of import_end_frame (outcomes ∷ pairs ∷ []) [] ≡ l
  pub refusal_again : (l : List ℕ) (part number line : ℕ) → import_refusal_out (an_import_refusal part number line) ≡ read_of import_refusal_frame l 0
      → line_of import_refusal_frame (part ∷ number ∷ line ∷ []) [] ≡ l
  -- no line is a frame of two kinds
  pub one_kind : (l : List ℕ) (i j : ℕ) → i < 10 → j < 10 → is_frame (get_or all_layouts i log_frame) l ≡ true → is_frame (get_or all_layouts j log_frame) l ≡ true
      → i ≡ j
