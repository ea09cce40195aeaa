-- The frames of an import: specs/LogFrames.antt says what, this file cites why.
-- Assumes nothing.
use mathlib.Core.Path.{◌≡◌, refl, ap, ◌∙◌}
use mathlib.Core.Bool.{Bool, true, cond}
use mathlib.Core.List.{List, [], ◌∷◌}
use Prim.Native.Nat.{ℕ, ◌≤◌, ◌<◌}
use lib.ListN.{length, get_or}
use Rattle.hex_digits.specs.Lines.{well_formed}
use Rattle.fields.specs.Layouts.{FieldsFit, is_frame, fields_in, accepted_as, refused_with, read_of}
use Rattle.fields.specs.Layouts.{Reading}
use Rattle.fields.proofs.Layouts.{buffer_good}
use Rattle.fields.proofs.Laws.{read_fits, read_roomy}
use Rattle.log_frames.specs.Frames.{log_frame}
use Rattle.log_frames.proofs.RoundTrips.{read_write_log, buffer_write_log, read_write_outcome, read_write_pair, read_write_import_end, read_write_import_refusal, write_read_log, write_read_outcome, write_read_pair, write_read_import_end, write_read_import_refusal, layout_unique}
use Rattle.statements.specs.LogFrames.{LogFrames}

-- what was read fits the layout, field by field
below : (f : List ℕ) → FieldsFit (2 ∷ 2 ∷ []) f → (get_or f 0 0 < 65536) × (get_or f 1 0 < 65536)
below [] h = absurd h
below (x ∷ []) h = absurd h.1
below (x ∷ y ∷ []) h = (h.0, h.1.0)
below (x ∷ y ∷ z ∷ f) h = absurd h.1.1

fields_below : (l : List ℕ) → is_frame log_frame l ≡ true → (get_or (fields_in log_frame l) 0 0 < 65536) × (get_or (fields_in log_frame l) 1 0 < 65536)
fields_below l e = below (fields_in log_frame l) (read_fits log_frame l e).fields

-- a frame is read with number 0 where there is room for every name
read_number : (l : List ℕ) (room : ℕ) → is_frame log_frame l ≡ true → 255 ≤ room → (read_of log_frame l room).number ≡ 0
read_number l room e h =
    ap (λ (r : Reading). r.number) (read_roomy log_frame l room h)
    ∙ ap (λ (b : Bool). (cond {A = Reading} b (accepted_as log_frame l) (refused_with log_frame 11)).number) e

pub log_frames : LogFrames
log_frames =
    record {
      log_back = read_write_log;
      log_buffer = buffer_write_log;
      log_room = read_roomy log_frame;
      log_bytes = λ l e. ((read_fits log_frame l e).bytes, (read_fits log_frame l e).short);
      log_typed = λ l buffer e h. buffer_good log_frame l buffer (read_number l (length buffer) e h);
      log_empty = unfold is_frame in unfold well_formed in refl;
      log_fields = fields_below;
      outcome_back = read_write_outcome;
      pair_back = read_write_pair;
      end_back = read_write_import_end;
      refusal_back = read_write_import_refusal;
      log_again = write_read_log;
      outcome_again = write_read_outcome;
      pair_again = write_read_pair;
      end_again = write_read_import_end;
      refusal_again = write_read_import_refusal;
      one_kind = layout_unique;
    }
