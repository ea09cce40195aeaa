-- `hear` meets its contract: a frame is read, and its typed name stands at the start of the buffer.
-- Assumes nothing.
use Rattle.std.proofs.Common.{◌≤◌, length, refl, sym, ap, ◌∙◌, arith}
use lib.Seq.{length-take-le}
use Rattle.log_frames.specs.Frames.{log_out}
use Rattle.importer.proofs.Judging.{read_ok, read_frame, read_day, read_reading, read_within, read_typed}
use Rattle.importer.proofs.Searching.{outcome_typed}
use Rattle.importer.proofs.hear.Goals as goal

pub unwrap-log-requires : goal.unwrap-log-requires
unwrap-log-requires c =
    let y = c.read_log in
    read_ok c.args.line.now 255 (omega arith) y.result y.ensures.result_value c.requires.1

pub slice_bounds-name-end : goal.slice_bounds-name-end
slice_bounds-name-end c =
    let y = c.read_log in
    let e = ap log_out (sym c.unwrap-log.ensures) ∙ read_frame c.args.line.now 255 (omega arith) y.result y.ensures.result_value c.requires.1 in
    let w = read_within c.args.line.now c.unwrap-log.result e c.requires.1 in
    omega arith

pub slice_bounds-outcome_of-end : goal.slice_bounds-outcome_of-end
slice_bounds-outcome_of-end c =
    let y = c.read_log in
    let e = ap log_out (sym c.unwrap-log.ensures) ∙ read_frame c.args.line.now 255 (omega arith) y.result y.ensures.result_value c.requires.1 in
    let w = read_within c.args.line.now c.unwrap-log.result e c.requires.1 in
    let k = y.auto.name in
    let h : c.unwrap-log.result.len ≤ length y.new.name = omega arith in
    sym (length-take-le c.unwrap-log.result.len y.new.name h)

pub returns : goal.returns
returns c =
    let y = c.read_log in
    let x = c.unwrap-log.result in
    let e = ap log_out (sym c.unwrap-log.ensures) ∙ read_frame c.args.line.now 255 (omega arith) y.result y.ensures.result_value c.requires.1 in (
      outcome_typed c.args.words.now c.args.s c.args.line.now _ _ (read_typed c.args.line.now x e _ _ y.ensures.name_after refl c.requires.1) c.outcome_of-outcome.ensures,
      read_day c.args.line.now x e,
      read_reading c.args.line.now x e,
    )
