-- `import_lines` meets its contract: the outcomes stay in the tables until the pairs have their room.
-- Assumes nothing.
use mathlib.Core.Path.{refl, sym, ◌∙◌}
use Prim.Native.Nat.{ℕ, ◌≤◌}
use native.Mathlib.Omega.{arith}
use Rattle.std.proofs.Common.{rules}
use lib.ListN.{length, replicate}
use lib.Seq.{length-take-le}
use Rattle.std.proofs.lemmas.Result.{err_from_is_err_and}
use Rattle.importer.proofs.Judging.{lines_few}
use Rattle.importer.proofs.Tables.{taken_few, put_over}
use Rattle.importer.proofs.Whole.{pairs_full, import_all}
use Rattle.importer.proofs.import_lines.Goals as goal

pub take_lines-k-requires : goal.take_lines-k-requires
take_lines-k-requires c = (c.good-good.ensures, c.requires.0, refl, refl, refl)

pub slice_bounds-entries-end : goal.slice_bounds-entries-end
slice_bounds-entries-end c =
    let t = c.take_lines-k in
    let f = lines_few _ c.requires.0 in
    let w = taken_few _ _ _ _ _ _ _ t.ensures f in
    let k = t.auto.entries in
    omega arith

pub slice_bounds-pairs-end : goal.slice_bounds-pairs-end
slice_bounds-pairs-end c =
    let t = c.take_lines-k in
    let f = lines_few _ c.requires.0 in
    let w = taken_few _ _ _ _ _ _ _ t.ensures f in
    let k = t.auto.entries in
    let h : t.result ≤ length t.new.entries = omega arith in
    sym (length-take-le t.result t.new.entries h)

pub slice_bounds-spare-end : goal.slice_bounds-spare-end
slice_bounds-spare-end c =
    let t = c.take_lines-k in
    let f = lines_few _ c.requires.0 in
    let w = taken_few _ _ _ _ _ _ _ t.ensures f in
    omega arith

pub slice_bounds-pairs-end-2 : goal.slice_bounds-pairs-end-2
slice_bounds-pairs-end-2 c =
    let t = c.take_lines-k in
    let f = lines_few _ c.requires.0 in
    let w = taken_few _ _ _ _ _ _ _ t.ensures f in
    sym (length-take-le {A = ℕ} t.result (replicate 1024 0) w)

pub pairs-paired-requires : goal.pairs-paired-requires
pairs-paired-requires c =
    let t = c.take_lines-k in
    let f = lines_few _ c.requires.0 in
    let w = taken_few _ _ _ _ _ _ _ t.ensures f in
    let k = t.auto.entries in
    let h : t.result ≤ length t.new.entries = omega arith in
    let l = length-take-le t.result t.new.entries h in
    (length-take-le {A = ℕ} t.result (replicate 1024 0) w ∙ sym l, omega arith)

pub returns-in_err-pairs : goal.returns-in_err-pairs
returns-in_err-pairs c =
    let p = err_from_is_err_and c.from_residual.result c.from_residual.ensures.1 in
    let q = c.pairs-paired.ensures in
    rw (p.1, p.2) (pairs_full _ _ _ _ _ c.requires.0 _ _ _ _ c.take_lines-k.ensures _ _ _ (search (rules, c.in_err-pairs.ensures.cases)) q.value q.counts_after)

pub overflow_cast-lines : goal.overflow_cast-lines
overflow_cast-lines c =
    let f = lines_few _ c.requires.0 in
    let e = c.requires.1 in
    record { fits = omega arith }

pub returns : goal.returns
returns c =
    let t = c.take_lines-k in
    let f = lines_few _ c.requires.0 in
    let e = c.requires.1 in
    let k = t.auto.cases in
    let m = t.auto.values in
    let h : c.args.n ≤ length t.new.cases = omega arith in
    let l : c.args.n ≤ length t.new.values = omega arith in
    let p = c.pairs-paired.ensures in
    import_all _ _ _ _ _ c.requires.0 _ c.requires.1 c.requires.2 _ _ _ _ t.ensures _ _ _ (search (rules, c.in_ok-pairs.ensures.cases)) p.value p.counts_after _ _
    (put_over c.args.n t.new.cases c.args.cases.now _ c.copy_from_slice.ensures.after h)
    (put_over c.args.n t.new.values c.args.values.now _ c.copy_from_slice-2.ensures.after l)
