-- `is_frame` meets its contract: each test settles one part of what makes a line a frame of the layout.
-- Assumes nothing.
use mathlib.Core.Path.{sym, ◌∙◌}
use native.Mathlib.Omega.{arith}
use Rattle.std.proofs.lemmas.Bool.{not-true, not-false}
use Rattle.hex_digits.specs.Lines.{bytes_of}
use Rattle.fields.specs.Layouts.{head_size}
use Rattle.fields.proofs.Layouts.{size_named, frame_damaged, frame_other, frame_short, frame_sized, frame_plain}
use Rattle.fields.proofs.is_frame.Goals as goal

pub returns-then-not-is_well_formed : goal.returns-then-not-is_well_formed
returns-then-not-is_well_formed c =
    let a = c.args in
    sym (frame_damaged a.layout a.line.now (sym c.is_well_formed.ensures ∙ c.if-not-is_well_formed.true))

pub returns-then-n-eq0 : goal.returns-then-n-eq0
unfolding head_size
returns-then-n-eq0 c =
    let a = c.args in
    sym (frame_short a.layout a.line.now (omega arith))

pub returns-then-byte_at-layout : goal.returns-then-byte_at-layout
returns-then-byte_at-layout c =
    let a = c.args in
    sym (frame_other a.layout a.line.now (λ e. c.if-byte_at-layout.true (c.byte_at.ensures.0 ∙ e)))

pub returns-then-not-layout : goal.returns-then-not-layout
returns-then-not-layout c =
    let a = c.args in
    rw c.head_size-head.ensures.0
    (sym
    (frame_plain a.layout a.line.now (sym c.is_well_formed.ensures ∙ c.if-not-is_well_formed.false) (sym c.byte_at.ensures.0 ∙ c.if-byte_at-layout.false)
    (not-true _ c.if-not-layout.true)))

pub returns-then-n-head : goal.returns-then-n-head
returns-then-n-head c =
    let a = c.args in
    let n = size_named a.layout (bytes_of a.line.now) (not-false _ c.if-not-layout.false) in
    let e = c.head_size-head.ensures.0 in
    sym (frame_short a.layout a.line.now (omega arith))

pub returns : goal.returns
returns c =
    let a = c.args in
    let n = size_named a.layout (bytes_of a.line.now) (not-false _ c.if-not-layout.false) in
    rw (c.byte_at-2.ensures.0, c.head_size-head.ensures.0, ← n)
    (sym
    (frame_sized a.layout a.line.now (sym c.is_well_formed.ensures ∙ c.if-not-is_well_formed.false)
    (sym c.byte_at.ensures.0 ∙ c.if-byte_at-layout.false)))
