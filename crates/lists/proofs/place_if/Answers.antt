-- `place_if` meets its contract: a number times 1 or 0.
use Rattle.std.proofs.Common.{◌≡◌, Bool, true, false, cond, ℕ, ◌+◌, ◌*◌, ◌≤◌, mul-one, mul-zero, eqb, arith}
use mir.Val.{bool_byte}
use Rattle.words.specs.Words.{part_feature}
use Rattle.lists.proofs.place_if.Goals as goal

times : (b : Bool) (x : ℕ) → x * bool_byte b ≡ cond b x 0
times true x = mul-one x
times false x = mul-zero x

times-most : (b : Bool) (x : ℕ) → x * bool_byte b ≤ x
times-most true x = rw (mul-one x) (omega arith)
times-most false x = rw (mul-zero x) (omega arith)

pub overflow_mul-result : goal.overflow_mul-result
overflow_mul-result c =
    let f = c.requires.1 in
    let p = c.part_place.ensures.1 in
    let t = times-most (eqb c.part_feature.result c.args.feature) (c.args.first + c.part_place.result) in
    rw c.from-hit.ensures (omega arith)

pub overflow_mul-result-2 : goal.overflow_mul-result-2
overflow_mul-result-2 c =
    let p = c.part_length-count.ensures.1 in
    let t = times-most (eqb c.part_feature.result c.args.feature) c.part_length-count.result in
    rw c.from-hit.ensures (omega arith)

pub returns : goal.returns
returns c =
    let v = eqb (part_feature c.args.rows.now c.args.row) c.args.feature in
    rw (c.from-hit.ensures, c.part_feature.ensures, c.part_place.ensures.0, c.part_length-count.ensures.0) (times v _, times v _)
