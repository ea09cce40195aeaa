-- `put_in` meets its contract: the values from place j on are put in, and `to` is the place of the last of them.
-- Assumes nothing.
use mathlib.Core.Path.{◌≡◌, sym, ap, ◌∙◌}
use Prim.Native.Nat.{ℕ, ◌+◌, ◌-◌}
use native.Mathlib.Omega.{arith}
use lib.ListN.{get_or, get_or-eq_default}
use Rattle.splicing.proofs.Lemmas.{get_d_there, block_before, putting, put_starts, put_step, put_ends}
use Rattle.splicing.proofs.put_in.Goals as goal

pub loop-j-init : goal.loop-j-init
loop-j-init c =
    let a = c.args in
    (omega arith, sym (get_or-eq_default a.at.now a.end (omega arith)), sym (put_starts a.at.now a.values.now a.words.now a.end))

pub copy_within-requires-clause-start_le_end : goal.copy_within-requires-clause-start_le_end
copy_within-requires-clause-start_le_end c =
    let l = c.loop-j in
    let b = block_before c.args.end c.args.at.now (l.j - 1) l.j l.to (omega arith) c.requires.0 c.requires.1 (omega arith) l.invariant.1 in
    omega arith

pub copy_within-requires-clause-dest_in_bounds : goal.copy_within-requires-clause-dest_in_bounds
copy_within-requires-clause-dest_in_bounds c =
    let l = c.loop-j in
    let b = block_before c.args.end c.args.at.now (l.j - 1) l.j l.to (omega arith) c.requires.0 c.requires.1 (omega arith) l.invariant.1 in
    omega arith

pub bounds-words-from : goal.bounds-words-from
bounds-words-from c =
    let l = c.loop-j in
    let b = block_before c.args.end c.args.at.now (l.j - 1) l.j l.to (omega arith) c.requires.0 c.requires.1 (omega arith) l.invariant.1 in
    omega arith

pub loop-j-preserved : goal.loop-j-preserved
loop-j-preserved c =
    let l = c.loop-j in
    let a = c.args in
    let b = block_before a.end a.at.now (l.j - 1) l.j l.to (omega arith) c.requires.0 c.requires.1 (omega arith) l.invariant.1 in
    let e = get_d_there a.at.now (l.j - 1) 0 a.end (omega arith) in
    let d : get_or a.at.now (l.j - 1) 0 + (l.j - 1) + 1 ≡ get_or a.at.now (l.j - 1) 0 + l.j = omega arith in (
      omega arith,
      e,
      put_step a.at.now a.values.now a.words.now a.end c.requires.0 c.requires.1 c.requires.2 c.requires.3 l.words _ (l.j - 1) l.j _ l.to
          (omega arith) (omega arith) e l.invariant.1 l.invariant.0 l.invariant.2 (rw d at c.copy_within.ensures.after),
    )

pub returns : goal.returns
returns c =
    let l = c.loop-j in
    let a = c.args in
    let e : l.j ≡ 0 = omega arith in
    let q : l.to ≡ get_or a.at.now 0 a.end = rw e at l.invariant.1 in
    l.invariant.2
    ∙ ap (λ (j : ℕ). putting a.at.now a.values.now a.words.now a.end j l.to) e
    ∙ put_ends a.at.now a.values.now a.words.now a.end c.requires.0 c.requires.1 c.requires.2 c.requires.3 l.to q l.invariant.0
