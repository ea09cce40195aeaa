-- `rows_at` meets its contract: with the least count 0 those that were known are below the next size too; otherwise both ends are sought.
use Rattle.std.proofs.Common.{◌∙◌, ap, ℕ, ◌+◌, arith}
use Rattle.lists.specs.Sizes.{rows_under}
use Rattle.lists.proofs.Sized.{under_next}
use Rattle.sizes.proofs.rows_at.Goals as goal

pub returns-then-least-eq0 : goal.returns-then-least-eq0
returns-then-least-eq0 c =
    let n = under_next c.args.words.now c.args.size in
    let k = c.requires.1 in
    let t = c.if-least-eq0.true in
    ((λ h. absurd (omega arith)), omega arith)

pub rows_under-from-requires : goal.rows_under-from-requires
rows_under-from-requires c = rw c.from.ensures c.requires

pub rows_under-to-requires : goal.rows_under-to-requires
rows_under-to-requires c =
    let e = c.rows_under-from.ensures ∙ ap (rows_under c.args.words.now) c.from.ensures in
    let n = under_next c.args.words.now c.args.size in
    (c.requires.0, (rw c.from-2.ensures (omega arith)))

pub returns : goal.returns
returns c =
    let f = c.rows_under-from.ensures ∙ ap (rows_under c.args.words.now) c.from.ensures in
    let e = c.rows_under-to.ensures ∙ ap (λ (n : ℕ). rows_under c.args.words.now (n + 1)) c.from-2.ensures in
    ((λ h. (f, e)), omega arith)
