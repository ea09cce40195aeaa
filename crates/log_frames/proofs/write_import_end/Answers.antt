-- `write_import_end` meets its contract.
-- Assumes nothing.
use Rattle.hex_digits.specs.Numbers.{bytes_for}
use Rattle.fields.specs.Layouts.{field_bytes, line_of, written_of, out_of}
use Rattle.log_frames.proofs.write_import_end.Goals as goal

pub returns : goal.returns
unfolding written_of out_of line_of field_bytes bytes_for
returns c = record {
  value = rw (c.from.ensures, c.from-2.ensures) at c.write.ensures.value;
  out_after = rw (c.from.ensures, c.from-2.ensures) at c.write.ensures.out_after;
}
