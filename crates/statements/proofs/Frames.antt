-- The frames: specs/Demands.antt says what, this file cites why.
-- Assumes nothing.
use mathlib.Core.Path.{refl}
use mathlib.Core.List.{List, [], ◌∷◌}
use Prim.Native.Nat.{ℕ}
use native.Mathlib.Omega.{arith}
use Rattle.fields.proofs.Laws.{fitting_named, buffer_write}
use Rattle.frames.specs.Frames.{name_frame, query_frame}
use Rattle.frames.proofs.RoundTrips.{read_write_name, read_write_query, read_write_row, read_write_end, read_write_refusal, write_read_name, write_read_query, write_read_row, write_read_end, write_read_refusal, layout_unique}
use Rattle.statements.specs.Demands.{Frames}

pub frames : Frames
frames =
    record {
      name_back = read_write_name;
      query_back = read_write_query;
      name_buffer = λ id name buffer i b h r.
          let f : List ℕ = id ∷ [] in
          buffer_write name_frame f name (fitting_named name_frame f name refl (omega arith) (i, tt) b h) buffer r;
      query_buffer = λ measure p q allowance query buffer i j k a b h r.
          let f : List ℕ = measure ∷ p ∷ q ∷ allowance ∷ [] in
          buffer_write query_frame f query (fitting_named query_frame f query refl (omega arith) (i, (j, (k, (a, tt)))) b h) buffer r;
      row_back = read_write_row;
      end_back = read_write_end;
      refusal_back = read_write_refusal;
      name_again = write_read_name;
      query_again = write_read_query;
      row_again = write_read_row;
      end_again = write_read_end;
      refusal_again = write_read_refusal;
      one_kind = layout_unique;
    }
