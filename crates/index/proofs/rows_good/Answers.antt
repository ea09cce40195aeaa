-- `rows_good` meets its contract: what was looked at of the first r rows is good, and the sum of their counts is due next.
use Rattle.std.proofs.Common.{ℕ, ◌+◌, ◌-◌, sym, subst, ◌∙◌, arith}
use Rattle.words.proofs.Laws.{row_in_lem}
use Rattle.index.proofs.Facts.{head_facts}
use Rattle.index.proofs.Keys.{before_key}
use Rattle.index.proofs.Check.{RowsTo, rows_none, rows_more, rows_all, rows_empty, rows_misplaced, rows_out}
use Rattle.index.proofs.rows_good.Goals as goal
use Rattle.index.proofs.rows_good.Goals.{else-r-gt0-via-then-r-gt0+else-row_key, else-r-gt0-via-else-r-gt0}

pub row_count-rows-requires : goal.row_count-rows-requires
row_count-rows-requires c = (head_facts _ c.requires).three

pub loop-r-init : goal.loop-r-init
loop-r-init c = rows_none c.args.words.now

pub row_length-count-requires : goal.row_length-count-requires
row_length-count-requires c = row_in_lem c.args.words.now _ (head_facts _ c.requires).within (omega (arith, c.row_count-rows.ensures.0))

pub returns-then-count-lt1 : goal.returns-then-count-lt1
returns-then-count-lt1 c =
    sym (rows_empty c.args.words.now c.loop-r.r (omega (arith, c.row_count-rows.ensures.0)) (omega (arith, c.row_length-count.ensures.0)))

pub row_place-requires : goal.row_place-requires
row_place-requires c = row_in_lem c.args.words.now _ (head_facts _ c.requires).within (omega (arith, c.row_count-rows.ensures.0))

pub returns-then-row_place-due : goal.returns-then-row_place-due
returns-then-row_place-due c =
    sym (rows_misplaced c.args.words.now c.loop-r.r c.loop-r.due c.loop-r.invariant (omega (arith, c.row_count-rows.ensures.0)) (λ e. c.if-row_place-due.true (c.row_place.ensures.0 ∙ e)))

pub row_key-requires : goal.row_key-requires
row_key-requires c = row_in_lem c.args.words.now _ (head_facts _ c.requires).within (omega (arith, c.row_count-rows.ensures.0))

pub row_key-requires-then-r-gt0 : goal.row_key-requires-then-r-gt0
row_key-requires-then-r-gt0 c = row_in_lem c.args.words.now _ (head_facts _ c.requires).within (omega (arith, c.row_count-rows.ensures.0))

pub returns-then-row_key : goal.returns-then-row_key
returns-then-row_key c =
    let a = c.row_key.ensures in
    let b = c.row_key-then-r-gt0.ensures in
    sym
    (rows_out c.args.words.now (λ i. omega (arith, c.type_inv.words i)) c.loop-r.r (omega (arith, c.row_count-rows.ensures.0))
    c.if-r-gt0.true (omega arith))

pub loop-r-preserved : goal.loop-r-preserved
loop-r-preserved c =
    let w = c.args.words.now in
    let n = c.row_count-rows.ensures.0 in
    let k = c.row_length-count.ensures.0 in
    subst (λ (m : ℕ). RowsTo w (c.loop-r.r + 1) (c.loop-r.due + m)) (sym k)
    (rows_more w c.loop-r.r c.loop-r.due c.loop-r.invariant (omega arith) (omega arith) (sym c.row_place.ensures.0 ∙ c.if-row_place-due.false)
    (λ z.
    elim c.else-r-gt0.branch [
      | else-r-gt0-via-then-r-gt0+else-row_key v ↦ (let a = v.row_key.ensures in
          let b = v.row_key-then-r-gt0.ensures in
          let d = v.if-row_key.false in
          before_key w (λ i. omega (arith, c.type_inv.words i)) (c.loop-r.r - 1) c.loop-r.r (omega arith))
      | else-r-gt0-via-else-r-gt0 v ↦ (let d = v.if-r-gt0.false in absurd (omega arith))
    ]))

pub posting_count-requires : goal.posting_count-requires
posting_count-requires c = (head_facts _ c.requires).three

pub returns : goal.returns
returns c =
    let n = c.row_count-rows.ensures.0 in
    let p = c.posting_count in
    rows_all c.args.words.now c.loop-r.r c.loop-r.due p.result c.loop-r.invariant (omega arith) p.ensures.0
