-- `keep` meets its contract: after some of those met, their counts are in the answers, and 0 in their place.
use Rattle.std.proofs.Common.{◌≡◌, ◌∙◌, sym, subst, List, [], ℕ, ◌+◌, ◌<◌, length, get_or, take, set, arith}
use Rattle.std.proofs.lemmas.List.{length-take-le}
use lib.Seq.{get_or-take}
use Rattle.index.specs.Good.{most_names}
use Rattle.candidates.specs.Tables.{MetBy}
use Rattle.candidates.proofs.Places.{Keeps, keeps_nil, keeps_step, keeps_ends, met_within, Clears, count_next, clears_ends}
use Rattle.candidates.proofs.keep.Goals as goal

pub loop-i-init : goal.loop-i-init
loop-i-init c =
    record {
      kept = keeps_nil c.args.counts.now c.args.met.now c.args.answers.now;
      cleared = keeps_nil [] c.args.met.now c.args.counts.now;
    }

-- a place of those met is the next one's, and within the tables
within : (counts met : List ℕ) (m k : ℕ) → MetBy counts met m → length counts ≡ most_names → k < length (take m met)
    → (k < m) × (get_or (take m met) k 0 ≡ get_or met k 0) × (k < length met) × (get_or (take m met) k 0 < most_names)
within counts met m k b n h =
    let l = length-take-le m met b.within in
    let km : k < m = omega arith in
    let e = get_or-take m met k 0 km in
    let w = met_within counts met m k b n km in
    let p = w.1 in
    (km, e, w.0, omega arith)

pub offset_bounds-counts-i : goal.offset_bounds-counts-i
offset_bounds-counts-i c = let w = within c.args.counts.now c.args.met.now c.args.m c.loop-i.i-index c.requires.1 c.requires.0 c.loop-i-test.true in let l = w.3 in omega arith

pub bounds-counts-i : goal.bounds-counts-i
bounds-counts-i c = let w = within c.args.counts.now c.args.met.now c.args.m c.loop-i.i-index c.requires.1 c.requires.0 c.loop-i-test.true in let l = w.3 in omega arith

pub offset_bounds-answers-i : goal.offset_bounds-answers-i
offset_bounds-answers-i c = let w = within c.args.counts.now c.args.met.now c.args.m c.loop-i.i-index c.requires.1 c.requires.0 c.loop-i-test.true in let l = w.3 in omega arith

pub bounds-answers-i : goal.bounds-answers-i
bounds-answers-i c = let w = within c.args.counts.now c.args.met.now c.args.m c.loop-i.i-index c.requires.1 c.requires.0 c.loop-i-test.true in let l = w.3 in omega arith

pub offset_bounds-counts-i-in-loop-i : goal.offset_bounds-counts-i-in-loop-i
offset_bounds-counts-i-in-loop-i c = let w = within c.args.counts.now c.args.met.now c.args.m c.loop-i.i-index c.requires.1 c.requires.0 c.loop-i-test.true in let l = w.3 in omega arith

pub bounds-counts-i-in-loop-i : goal.bounds-counts-i-in-loop-i
bounds-counts-i-in-loop-i c = let w = within c.args.counts.now c.args.met.now c.args.m c.loop-i.i-index c.requires.1 c.requires.0 c.loop-i-test.true in let l = w.3 in omega arith

pub loop-i-preserved : goal.loop-i-preserved
loop-i-preserved c =
    let a = c.args in
    let l = c.loop-i in
    let k = l.i-index in
    let w = within a.counts.now a.met.now a.m k c.requires.1 c.requires.0 c.loop-i-test.true in
    let e = w.1 in
    let p = w.3 in
    let same = count_next a.counts.now a.met.now l.counts a.m k c.requires.1 w.0 l.invariant.cleared in
    rw e (record {
      kept =
          subst (λ (n : ℕ). Keeps a.counts.now a.met.now a.answers.now (k + 1) (set l.answers (get_or a.met.now k 0) n)) (sym same)
          (keeps_step a.counts.now a.met.now a.answers.now l.answers k w.2 (omega arith) l.invariant.kept);
      cleared = keeps_step [] a.met.now a.counts.now l.counts k w.2 (omega arith) l.invariant.cleared;
    })

pub returns : goal.returns
returns c =
    let b = c.requires.1 in
    let t = length-take-le c.args.m c.args.met.now b.within in
    let e : c.loop-i.i-index ≡ c.args.m = omega arith in (
      keeps_ends c.args.counts.now c.args.met.now c.args.answers.now c.loop-i.answers c.args.m b (c.loop-i.auto.answers ∙ c.requires.2)
          (subst (λ (k : ℕ). Keeps c.args.counts.now c.args.met.now c.args.answers.now k c.loop-i.answers) e c.loop-i.invariant.kept),
      clears_ends c.args.counts.now c.args.met.now c.loop-i.counts c.args.m b (c.loop-i.auto.counts ∙ c.requires.0)
          (subst (λ (k : ℕ). Clears c.args.counts.now c.args.met.now k c.loop-i.counts) e c.loop-i.invariant.cleared),
    )
