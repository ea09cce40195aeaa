-- `read` meets its contract: its tests come in the order of the definition.
-- Assumes nothing.
use Rattle.std.proofs.Common.{sym, ◌∙◌, arith}
use Rattle.fields.proofs.Layouts.{read_malformed, read_long, read_good}
use Rattle.fields.proofs.read.Goals as goal

pub returns-then-not-is_frame : goal.returns-then-not-is_frame
returns-then-not-is_frame c =
    let a = c.args in
    sym (read_malformed a.layout a.line.now a.room (sym c.is_frame.ensures ∙ c.if-not-is_frame.true))

-- past the first test the line is a frame
pub name_len-len-requires : goal.name_len-len-requires
name_len-len-requires c = sym c.is_frame.ensures ∙ c.if-not-is_frame.false

pub returns-then-room-len : goal.returns-then-room-len
returns-then-room-len c =
    let a = c.args in
    let e = c.name_len-len.ensures in
    sym (read_long a.layout a.line.now a.room (sym c.is_frame.ensures ∙ c.if-not-is_frame.false) (omega arith))

pub returns : goal.returns
returns c =
    let a = c.args in
    let e = c.name_len-len.ensures in
    rw (c.fields-fields.ensures, e) (sym (read_good a.layout a.line.now a.room (sym c.is_frame.ensures ∙ c.if-not-is_frame.false) (omega arith)))
