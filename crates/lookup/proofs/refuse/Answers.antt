-- The refusal fits the buffer and is all of the output.
use Rattle.std.proofs.Common.{◌≤◌, ◌∙◌, sym, [], ◌∷◌, length, take, take_all, arith}
use Rattle.refusals.proofs.Refusals.{refused}
use Rattle.answers.specs.Output.{output_of}
use Rattle.fields.proofs.Fitted.{out_plain}
use Rattle.frames.specs.Frames.{refusal_frame}
use Rattle.lookup.proofs.Sending.{refusal_ok, refusal_len, refusal_within, refusal_next, refusal_whole}
use Rattle.lookup.proofs.refuse.Goals as goal

pub unwrap-len-requires : goal.unwrap-len-requires
unwrap-len-requires g c = refusal_ok c.number.result _ _ c.requires.1 c.write_refusal.ensures.value

pub slice_bounds-hand_over-end : goal.slice_bounds-hand_over-end
slice_bounds-hand_over-end g c =
    let w = c.write_refusal in
    let e = c.number.ensures in
    (refusal_within c.args.input.now c.args.out.now w.new.out c.number.result _ (e ∙ c.requires.0) (λ z. refused _ (sym e ∙ z))
    (refusal_len c.number.result _ _ c.requires.1 w.ensures.value _ c.unwrap-len.ensures)
    c.requires.1
    (w.ensures.out_after ∙ out_plain refusal_frame (c.number.result ∷ 0 ∷ []) c.args.out.now)).0

pub slice_bounds-hand_over-end-2 : goal.slice_bounds-hand_over-end-2
slice_bounds-hand_over-end-2 g c =
    let w = c.write_refusal in
    let e = c.number.ensures in
    (refusal_within c.args.input.now c.args.out.now w.new.out c.number.result _ (e ∙ c.requires.0) (λ z. refused _ (sym e ∙ z))
    (refusal_len c.number.result _ _ c.requires.1 w.ensures.value _ c.unwrap-len.ensures)
    c.requires.1
    (w.ensures.out_after ∙ out_plain refusal_frame (c.number.result ∷ 0 ∷ []) c.args.out.now)).1

pub hand_over-requires : goal.hand_over-requires
hand_over-requires g c =
    let a = c.args in
    let w = c.write_refusal in
    let e = c.number.ensures in
    refusal_next a.input.now a.out.now w.new.out c.number.result _ (e ∙ c.requires.0) (λ z. refused _ (sym e ∙ z))
    (refusal_len c.number.result _ _ c.requires.1 w.ensures.value _ c.unwrap-len.ensures)
    c.requires.1
    (w.ensures.out_after ∙ out_plain refusal_frame (c.number.result ∷ 0 ∷ []) a.out.now)

pub returns : goal.returns
returns g c =
    let a = c.args in
    let w = c.write_refusal in
    let e = c.number.ensures in
    let n =
    refusal_whole a.input.now a.out.now w.new.out c.number.result _ (e ∙ c.requires.0) (λ z. refused _ (sym e ∙ z))
    (refusal_len c.number.result _ _ c.requires.1 w.ensures.value _ c.unwrap-len.ensures) in
    let k =
    (refusal_within a.input.now a.out.now w.new.out c.number.result _ (e ∙ c.requires.0) (λ z. refused _ (sym e ∙ z))
    (refusal_len c.number.result _ _ c.requires.1 w.ensures.value _ c.unwrap-len.ensures)
    c.requires.1
    (w.ensures.out_after ∙ out_plain refusal_frame (c.number.result ∷ 0 ∷ []) a.out.now)).1 in
    let h : length (output_of a.input.now) ≤ length (take c.unwrap-len.result w.new.out) = omega arith in
    rw (take_all (length (take c.unwrap-len.result w.new.out)) (output_of a.input.now) h) at c.hand_over.ensures
