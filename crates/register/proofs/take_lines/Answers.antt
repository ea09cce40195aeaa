-- `take_lines` meets its contract: the tables hold the names of the lines so far, and the lines of the rest come to what all lines come to.
-- A turn of the loop is a `Turn` of Taking.antt, and what follows from a turn is proved there.
use mathlib.Core.Path.{refl, ap, ap₂, ◌∙◌}
use mathlib.Core.List.{List, map}
use Prim.Native.Nat.{ℕ, ◌+◌, ◌*◌}
use native.Mathlib.Omega.{arith}
use borrow.Author.Rules.{rules}
use lib.ListN.{length, set}
use lib.Seq.{paste}
use Rattle.names.specs.Names.{judge_of}
use Rattle.names.specs.Features.{features_of}
use Rattle.refusals.proofs.Refusals.{refused}
use Rattle.index_writer.specs.Keys.{place_span}
use Rattle.std.proofs.lemmas.Result.{err_from_is_err_and}
use Rattle.std.proofs.lemmas.List.Sorted.{answers_always}
use Rattle.lines.proofs.Lines.{is_feed}
use Rattle.register.proofs.Taking.{turn_cut, reached_nil, reached_all, turn_bad, turn_name, turn_id, turn_room, turn_more, heard_ok, heard_err}
use Rattle.register.proofs.take_lines.Goals as goal

pub loop-bytes-init : goal.loop-bytes-init
loop-bytes-init c =
    rw (c.into_iter-bytes-iterator.ensures.into_iter_gives, c.split_inclusive-bytes-items.ensures.rest)
    (reached_nil c.args.register.now c.args.names.now c.args.keys.now)

pub returns-in_err-read : goal.returns-in_err-read
returns-in_err-read c =
    let s = c.in-Some.ensures.steps in
    let p = err_from_is_err_and c.from_residual.result c.from_residual.ensures.1 in
    let e = heard_err _ _ _ _ c.judge_line.result _ c.in_err-read.field-0.0 (c.loop-bytes.n + 1) c.in_err-read.ensures.cases (λ e p. search rules) c.judge_line.ensures in
    let t = turn_cut c.loop-bytes.invariant s.0 s.1.1 (s.1.2 is_feed (answers_always _ _ _ (λ f a r g h. search rules))).1 s.2 e.0 in
    rw (p.1, p.2, e.1) (turn_bad t (refused c.in_err-read.field-0.0.refusal) c.loop-bytes.names c.loop-bytes.keys)

pub add_name-p-requires : goal.add_name-p-requires
add_name-p-requires c =
    let s = c.in-Some.ensures.steps in
    let h = heard_ok _ _ _ _ c.judge_line.result _ c.in_ok-read.read c.in_ok-read.ensures.variant c.in_ok-read.ensures.cases c.judge_line.ensures in
    let t = turn_cut c.loop-bytes.invariant s.0 s.1.1 (s.1.2 is_feed (answers_always _ _ _ (λ f a r g h. search rules))).1 s.2 h.number in
    let room = turn_room t refl (length c.args.keys.now) c.requires.2 in
    let small = room.0 in
    let wide = room.1 in
    let i = c.from-id.ensures ∙ h.id refl in
    let most = turn_id t refl in
    let ln = c.loop-bytes.auto.names in
    let p1 = c.requires.1 in
    let lt = c.loop-bytes.auto.keys in
    let name = ap (λ (s : List ℕ). length (features_of s)) (h.name refl) in
    (ap judge_of (h.name refl) ∙ turn_name t refl, omega arith, small, omega arith, omega arith)

pub loop-bytes-preserved : goal.loop-bytes-preserved
loop-bytes-preserved c =
    let s = c.in-Some.ensures.steps in
    let h = heard_ok _ _ _ _ c.judge_line.result _ c.in_ok-read.read c.in_ok-read.ensures.variant c.in_ok-read.ensures.cases c.judge_line.ensures in
    let t = turn_cut c.loop-bytes.invariant s.0 s.1.1 (s.1.2 is_feed (answers_always _ _ _ (λ f a r g h. search rules))).1 s.2 h.number in
    let l = c.loop-bytes in
    let x = c.add_name-p in
    let room = turn_room t refl (length c.args.keys.now) c.requires.2 in
    let small = room.0 in
    let wide = room.1 in
    let ln = l.auto.names in
    let p1 = c.requires.1 in
    let lt = l.auto.keys in
    let i = c.from-id.ensures ∙ h.id refl in
    let name = h.name refl in
    turn_more t refl x.new.names x.new.keys x.result c.from-id.result (omega arith) (omega arith) i
    (x.ensures.0 ∙ ap (λ (s : List ℕ). l.p + length (features_of s)) name)
    (x.ensures.1 ∙ ap₂ (λ (s : List ℕ) (k : ℕ). set l.names l.n (k * 256 + length (features_of s))) name i)
    (x.ensures.2 ∙ ap (λ (s : List ℕ). paste l.keys l.p (map (λ (f : ℕ). f * place_span + l.n) (features_of s)) (length (features_of s))) name)

pub returns : goal.returns
returns c = reached_all c.loop-bytes.invariant c.in-None.ensures.steps.0
