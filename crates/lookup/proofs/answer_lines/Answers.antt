-- Each answer is the next piece of the output, and after the last one all of it is sent.
use Rattle.std.proofs.Common.{◌≤◌, ◌∙◌, ◌++◌, ℕ, refl, ap, sym, subst, arith, length, take, drop, take_all}
use Rattle.std.specs.Io.KnownBytes.{Appends}
use Rattle.std.proofs.KnownBytes.{Appends-nil, Appends-trans}
use lib.Seq.{take-add}
use Rattle.answers.specs.Output.{program_words, output_of}
use Rattle.answers.specs.Output.{Response}
use Rattle.answers.proofs.Responding.{responded_next}
use Rattle.answers.proofs.Pieces.{opened_few}
use Rattle.lookup.proofs.Sending.{opened_words, sending_starts, sending_ok, sending_within, sending_next, sending_step, sending_ends}
use Rattle.lookup.proofs.answer_lines.Goals as goal

pub loop-at-init : goal.loop-at-init
loop-at-init g c = record {
  next = sending_starts c.args.input.now c.args.words.now c.args.out.now c.args.from c.requires.0 c.requires.1;
  taken = Appends-nil _;
}

pub respond_good-response-requires : goal.respond_good-response-requires
respond_good-response-requires g c = opened_words c.args.input.now c.args.words.now c.args.from c.requires.0

pub unwrap-len-requires : goal.unwrap-len-requires
unwrap-len-requires g c =
    let a = c.args in
    let l = c.loop-at in
    let w = c.respond_good-response in
    sending_ok a.input.now a.words.now l.out l.sent l.at l.invariant.next w.result w.ensures.value

pub slice_bounds-hand_over-end : goal.slice_bounds-hand_over-end
slice_bounds-hand_over-end g c =
    let a = c.args in
    let l = c.loop-at in
    let w = c.respond_good-response in
    (sending_within a.input.now a.words.now l.out l.sent l.at l.invariant.next w.result w.ensures.value w.new.out _ c.unwrap-len.ensures w.ensures.out_after).0

pub slice_bounds-hand_over-end-in-loop-at : goal.slice_bounds-hand_over-end-in-loop-at
slice_bounds-hand_over-end-in-loop-at g c =
    let a = c.args in
    let l = c.loop-at in
    let w = c.respond_good-response in
    (sending_within a.input.now a.words.now l.out l.sent l.at l.invariant.next w.result w.ensures.value w.new.out _ c.unwrap-len.ensures w.ensures.out_after).1

pub hand_over-requires : goal.hand_over-requires
hand_over-requires g c =
    let a = c.args in
    let l = c.loop-at in
    let w = c.respond_good-response in
    sending_next a.input.now a.words.now l.out l.sent l.at l.invariant.next w.result w.ensures.value w.new.out _ c.unwrap-len.ensures w.ensures.out_after c.loop-at-test.true
    (opened_few a.input.now program_words c.requires.0.opened).0

pub overflow_add-sent : goal.overflow_add-sent
overflow_add-sent g c =
    let a = c.args in
    let l = c.loop-at in
    let w = c.respond_good-response in
    let n = sending_next a.input.now a.words.now l.out l.sent l.at l.invariant.next w.result w.ensures.value w.new.out _ c.unwrap-len.ensures w.ensures.out_after c.loop-at-test.true
    (opened_few a.input.now program_words c.requires.0.opened).0 in
    let f = n.few in
    let k = (sending_within a.input.now a.words.now l.out l.sent l.at l.invariant.next w.result w.ensures.value w.new.out _ c.unwrap-len.ensures w.ensures.out_after).1 in
    omega arith

pub loop-at-smaller : goal.loop-at-smaller
loop-at-smaller g c =
    let a = c.args in
    let l = c.loop-at in
    let t = c.loop-at-test.true in
    let e = ap (λ (x : Response). x.next) c.respond_good-response.ensures.value in
    let n = responded_next a.words.now a.input.now l.at (length l.out) t in
    omega arith

pub loop-at-preserved : goal.loop-at-preserved
loop-at-preserved g c =
    let a = c.args in
    let l = c.loop-at in
    let w = c.respond_good-response in
    let n = (sending_within a.input.now a.words.now l.out l.sent l.at l.invariant.next w.result w.ensures.value w.new.out _ c.unwrap-len.ensures w.ensures.out_after).1 in
    record {
      next =
          sending_step a.input.now a.words.now l.out l.sent l.at l.invariant.next w.result w.ensures.value w.new.out _ c.unwrap-len.ensures w.ensures.out_after _ c.loop-at-test.true refl;
      taken =
          subst (Appends _ _) (ap (λ (k : ℕ). take l.sent (output_of a.input.now) ++ take k (drop l.sent (output_of a.input.now))) (sym n) ∙ sym (take-add l.sent c.unwrap-len.result (output_of a.input.now)))
          (Appends-trans _ _ _ _ _ l.invariant.taken c.in_ok-hand_over.ensures);
    }

pub returns : goal.returns
returns g c =
    let l = c.loop-at in
    let s = output_of c.args.input.now in
    let e = sending_ends c.args.input.now c.args.words.now l.out l.sent l.at l.invariant.next c.loop-at-test.false in
    let h : length s ≤ l.sent = omega arith in
    subst (Appends _ _) (take_all l.sent s h) l.invariant.taken
