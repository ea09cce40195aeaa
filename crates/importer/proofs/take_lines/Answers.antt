-- `take_lines` meets its contract: at each place, the tables start with the outcomes and the entries of the lines before it.
-- Assumes nothing.
use Rattle.std.proofs.Common.{◌≡◌, List, ℕ, ◌+◌, ◌<◌, ◌++◌, min, true, length, ap, ◌∙◌, arith, rules}
use Rattle.std.specs.List.{IsFirstMatchOrLen}
use Rattle.std.proofs.lemmas.List.Sorted.{answers_always}
use Rattle.lines.specs.Lines.{lines_of}
use Rattle.fields.specs.Layouts.{is_frame}
use Rattle.log_frames.specs.Frames.{log_frame}
use Rattle.lines.proofs.Lines.{is_feed}
use Rattle.importer.specs.Import.{most_lines, verdict_on}
use Rattle.importer.proofs.Reached.{Reached, Turn, turn, reached_nil, reached_all}
use Rattle.importer.proofs.Judging.{all_good, lines_few}
use Rattle.importer.proofs.Tables.{told_nil, told_room, told_turn, told_lengths, told_all}
use Rattle.importer.proofs.take_lines.Goals as goal

pub loop-n-init : goal.loop-n-init
loop-n-init c =
    rw (c.into_iter-n-iterator.ensures.into_iter_gives, c.enumerate-n-items.ensures.source, c.enumerate-n-items.ensures.count, c.split_inclusive.ensures.rest)
    (reached_nil _, c.requires.4, told_nil _ _ _ _ _)

-- the first line of the rest is a frame, and not one too many
record Here (log line more : List ℕ) (n : ℕ) : Type 0 where
  turn : Turn log line more n
  few : n < most_lines
  frame : is_frame log_frame line ≡ true

here : {log rest line more : List ℕ} {n i : ℕ} → Reached log rest n → rest ≡ line ++ more → length line ≡ min (i + 1) (length rest)
    → IsFirstMatchOrLen is_feed rest i → 0 < length rest → (verdict_on log).number ≡ 0 → Here log line more n
here {log} {rest} {line} {more} {n} r e l f h z =
    let t = turn r e l f h in
    let g = all_good 0 (lines_of log) z n t.some in
    record { turn = t; few = (let a = g.0 in omega arith); frame = ap (is_frame log_frame) t.nth ∙ g.1 }

pub hear-heard-requires : goal.hear-heard-requires
hear-heard-requires c =
    let s = c.in-Some.ensures.steps in
    let h = here c.loop-n.invariant.0 s.0.0 s.0.1.1 (s.0.1.2 is_feed (answers_always _ _ _ (λ f a r g h. search rules))).1 s.0.2 c.requires.1 in
    (c.requires.0, h.frame)

pub bounds-cases-n : goal.bounds-cases-n
bounds-cases-n c =
    let s = c.in-Some.ensures.steps in
    let h = here c.loop-n.invariant.0 s.0.0 s.0.1.1 (s.0.1.2 is_feed (answers_always _ _ _ (λ f a r g h. search rules))).1 s.0.2 c.requires.1 in
    let n : c.in-Some.n ≡ c.loop-n.n-iterator.count = s.1 in
    let r = told_room _ _ _ _ _ _ _ _ c.loop-n.invariant.2 h.turn.some h.few c.requires.2 c.requires.3 c.loop-n.invariant.1 in
    let b = r.0 in
    omega arith

pub bounds-values-n : goal.bounds-values-n
bounds-values-n c =
    let s = c.in-Some.ensures.steps in
    let h = here c.loop-n.invariant.0 s.0.0 s.0.1.1 (s.0.1.2 is_feed (answers_always _ _ _ (λ f a r g h. search rules))).1 s.0.2 c.requires.1 in
    let n : c.in-Some.n ≡ c.loop-n.n-iterator.count = s.1 in
    let r = told_room _ _ _ _ _ _ _ _ c.loop-n.invariant.2 h.turn.some h.few c.requires.2 c.requires.3 c.loop-n.invariant.1 in
    let b = r.1 in
    omega arith

pub add_entry-k-requires : goal.add_entry-k-requires
add_entry-k-requires c =
    let s = c.in-Some.ensures.steps in
    let h = here c.loop-n.invariant.0 s.0.0 s.0.1.1 (s.0.1.2 is_feed (answers_always _ _ _ (λ f a r g h. search rules))).1 s.0.2 c.requires.1 in
    let n : c.in-Some.n ≡ c.loop-n.n-iterator.count = s.1 in
    let r = told_room _ _ _ _ _ _ _ _ c.loop-n.invariant.2 h.turn.some h.few c.requires.2 c.requires.3 c.loop-n.invariant.1 in
    r.2

pub loop-n-preserved : goal.loop-n-preserved
loop-n-preserved c =
    let s = c.in-Some.ensures.steps in
    let w = here c.loop-n.invariant.0 s.0.0 s.0.1.1 (s.0.1.2 is_feed (answers_always _ _ _ (λ f a r g h. search rules))).1 s.0.2 c.requires.1 in
    let few = w.few in
    let l = c.loop-n in
    let h = c.hear-heard.ensures in
    let e = c.add_entry-k.ensures in
    let p = c.requires.2 in
    let q = c.requires.3 in
    let x : l.n-iterator.count < length c.args.cases.now = omega arith in
    let y : l.n-iterator.count < length c.args.values.now = omega arith in
    rw (s.1, s.2) (
      w.turn.next,
      e.room ∙ l.invariant.1,
      told_turn _ _ _ _ _ _ _ _ l.invariant.2 w.turn.some _ _ _ _ _ _ w.turn.nth h.0 h.1 h.2 c.case_of.ensures c.value_of.ensures x y _ _ e,
    )

pub shape_of-cases : goal.shape_of-cases
shape_of-cases c =
    let l = c.loop-n in
    let f = lines_few _ c.requires.1 in
    let w = l.invariant.0.few in
    let p = c.requires.2 in
    let q = c.requires.3 in
    (told_lengths _ _ _ _ _ _ _ _ l.invariant.2 w (omega arith) (omega arith)).0

pub shape_of-values : goal.shape_of-values
shape_of-values c =
    let l = c.loop-n in
    let f = lines_few _ c.requires.1 in
    let w = l.invariant.0.few in
    let p = c.requires.2 in
    let q = c.requires.3 in
    (told_lengths _ _ _ _ _ _ _ _ l.invariant.2 w (omega arith) (omega arith)).1

pub returns : goal.returns
returns c =
    let l = c.loop-n in
    told_all _ _ _ _ _ _ _ _ (reached_all l.invariant.0 c.in-None.ensures.steps.0.0) l.invariant.2
