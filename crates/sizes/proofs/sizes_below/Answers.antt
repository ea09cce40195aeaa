-- `sizes_below` meets its contract: the last row lies within the words, and its size is one that a name has.
use mathlib.Core.Path.{◌≡◌, sym, ap, ◌∙◌}
use Prim.Native.Nat.{ℕ, ◌+◌, ◌-◌}
use native.Mathlib.Omega.{arith}
use Rattle.words.specs.Words.{row_count, row_size}
use Rattle.index.proofs.Laws.{good_three, good_within_lem}
use Rattle.sizes.specs.Tables.{sizes_below}
use Rattle.sizes.proofs.Largest.{last_none, last_one, below_most}
use Rattle.sizes.proofs.sizes_below.Goals as goal

pub row_count-rows-requires : goal.row_count-rows-requires
row_count-rows-requires c = good_three _ c.requires

pub returns-then-rows-eq0 : goal.returns-then-rows-eq0
returns-then-rows-eq0 c =
    let e = c.row_count-rows.ensures.0 in
    let t = c.if-rows-eq0.true in
    (sym (last_none c.args.words.now c.requires (omega arith)), omega arith)

pub overflow_sub-rows : goal.overflow_sub-rows
overflow_sub-rows c = let t = c.if-rows-eq0.false in omega arith

pub row_size-requires : goal.row_size-requires
row_size-requires c =
    let w = good_within_lem c.args.words.now c.requires in
    let e = c.row_count-rows.ensures.0 in
    let t = c.if-rows-eq0.false in
    omega arith

pub returns : goal.returns
returns c =
    let w = c.args.words.now in
    let e = c.row_count-rows.ensures.0 in
    let t = c.if-rows-eq0.false in
    let z : c.row_size.result ≡ row_size w (row_count w - 1) = c.row_size.ensures ∙ ap (λ (n : ℕ). row_size w (n - 1)) e in
    let b : c.row_size.result + 1 ≡ sizes_below w = ap (λ (n : ℕ). n + 1) z ∙ sym (last_one w c.requires (omega arith)) in
    let m = below_most w c.requires in
    (b, omega arith)
