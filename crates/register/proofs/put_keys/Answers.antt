-- `put_keys` meets its contract: after k turns, the keys of k features are pasted.
use mathlib.Core.Path.{◌≡◌, sym, ap, ◌∙◌}
use mathlib.Core.List.{List, map}
use Prim.Native.Nat.{ℕ, ◌+◌, ◌*◌}
use native.Mathlib.Omega.{arith}
use native.Mathlib.Numerals.{add-one}
use lib.ListN.{length, get_or, set, length-map, get_or-map}
use lib.Seq.{paste, paste-zero, paste-suc}
use Rattle.index_writer.specs.Keys.{place_span}
use Rattle.register.proofs.put_keys.Goals as goal

pub loop-k-init : goal.loop-k-init
loop-k-init c = let a = c.args in paste-zero a.keys.now a.at (map (λ (f : ℕ). f * place_span + a.place) a.features.now)

pub overflow_mul-keys : goal.overflow_mul-keys
overflow_mul-keys c = let f = c.requires.0 c.loop-k.k (omega arith) in record { fits = omega arith }

pub overflow_add-keys : goal.overflow_add-keys
overflow_add-keys c = let f = c.requires.0 c.loop-k.k (omega arith) in let p = c.requires.1 in record { fits = omega arith }

pub loop-k-preserved : goal.loop-k-preserved
loop-k-preserved c =
    let a = c.args in
    let k = c.loop-k.k in
    let p = c.requires.2 in
    let g : ℕ → ℕ = λ (f : ℕ). f * place_span + a.place in
    let m = map g a.features.now in
    let n : length m ≡ length a.features.now = length-map a.features.now g in
    let v : get_or m k (0 * place_span + a.place) ≡ get_or a.features.now k 0 * place_span + a.place = get_or-map g a.features.now k 0 in
    ap (λ (d : List ℕ). set d (a.at + k) (get_or a.features.now k 0 * place_span + a.place)) c.loop-k.invariant
    ∙ ap (λ (x : ℕ). set (paste a.keys.now a.at m k) (a.at + k) x) (sym v)
    ∙ paste-suc a.keys.now a.at m k (0 * place_span + a.place) (omega arith) (omega arith)
    ∙ ap (paste a.keys.now a.at m) (sym (add-one k))

pub returns : goal.returns
returns c =
    let a = c.args in
    let e : c.loop-k.k ≡ length a.features.now = omega arith in
    c.loop-k.invariant ∙ ap (paste a.keys.now a.at (map (λ (f : ℕ). f * place_span + a.place) a.features.now)) e
