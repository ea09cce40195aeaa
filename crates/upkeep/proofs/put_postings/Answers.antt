-- `put_postings` meets its contract: after j turns, the places of j postings are pasted behind the n others.
use mathlib.Core.Path.{◌≡◌, sym, ap, ap₂, ◌∙◌}
use mathlib.Core.List.{List, ◌++◌}
use Prim.Native.Nat.{ℕ, ◌+◌}
use native.Mathlib.Numerals.{add-one}
use native.Mathlib.Omega.{arith}
use lib.ListN.{length, get_or, set, take, length-map}
use lib.Seq.{take-length, paste, paste-zero, paste-suc, take-paste}
use Rattle.laws.proofs.Images.{get_d_map_lt}
use Rattle.upkeep.proofs.put_postings.Invariants.{placed}
use Rattle.upkeep.proofs.put_postings.Goals as goal

pub loop-j-init : goal.loop-j-init
loop-j-init c = let a = c.args in paste-zero a.at.now a.n (placed a.first a.postings.now)

pub overflow_cast-at : goal.overflow_cast-at
overflow_cast-at c = let f = c.requires.1 c.loop-j.j (omega arith) in record { fits = omega arith }

pub overflow_add-at : goal.overflow_add-at
overflow_add-at c = let f = c.requires.1 c.loop-j.j (omega arith) in record { fits = omega arith }

pub overflow_cast-at-in-loop-j : goal.overflow_cast-at-in-loop-j
overflow_cast-at-in-loop-j c = let f = c.requires.1 c.loop-j.j (omega arith) in record { fits = omega arith }

pub loop-j-preserved : goal.loop-j-preserved
loop-j-preserved c =
    let a = c.args in
    let j = c.loop-j.j in
    let m = placed a.first a.postings.now in
    let n : length m ≡ length a.postings.now = length-map a.postings.now (λ (p : ℕ). a.first + p) in
    let v : get_or m j 0 ≡ a.first + get_or a.postings.now j 0 = get_d_map_lt (λ (p : ℕ). a.first + p) a.postings.now j 0 0 (omega arith) in
    ap₂ (λ (d : List ℕ) (x : ℕ). set d (a.n + j) x) c.loop-j.invariant (sym v)
    ∙ paste-suc a.at.now a.n m j 0 (omega arith) (omega arith)
    ∙ ap (paste a.at.now a.n m) (sym (add-one j))

pub returns : goal.returns
returns c =
    let a = c.args in
    let m = placed a.first a.postings.now in
    let k : length m ≡ length a.postings.now = length-map a.postings.now (λ (p : ℕ). a.first + p) in
    let e : c.loop-j.j ≡ length a.postings.now = omega arith in
    ap (take (a.n + length a.postings.now)) (c.loop-j.invariant ∙ ap (paste a.at.now a.n m) e)
    ∙ take-paste a.at.now a.n m (length a.postings.now) (omega arith) (omega arith)
    ∙ ap (λ (x : List ℕ). take a.n a.at.now ++ x) (ap (λ (i : ℕ). take i m) (sym k) ∙ take-length m)
