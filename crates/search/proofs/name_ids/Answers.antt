-- `name_ids` meets its contract: the first i places have the first i names' ids.
use Rattle.std.proofs.Common.{◌≡◌, ◌∙◌, ap₂, ℕ, ◌≤◌, List, ◌++◌, length, take, drop, arith}
use Rattle.std.proofs.lemmas.List.{length-take-le}
use Rattle.laws.proofs.Tables.{table_of}
use Rattle.words.specs.Words.{name_count, name_id}
use Rattle.index.specs.Good.{Good, ids_in}
use Rattle.index.proofs.Laws.{good_three, good_within_lem}
use Rattle.search.proofs.name_ids.Goals as goal

pub name_count-n-requires : goal.name_count-n-requires
name_count-n-requires c = good_three _ c.requires.0

-- as many places are written as there are names
many : (w t : List ℕ) (n : ℕ) → Good w × (name_count w ≤ length t) → n ≡ name_count w → length (take n t) ≡ name_count w
many w t n h e = length-take-le n t (omega arith) ∙ e

pub name_id-requires : goal.name_id-requires
name_id-requires c =
    let w = good_within_lem c.args.words.now c.requires.0 in
    let m = many c.args.words.now c.args.table.now c.name_count-n.result c.requires c.name_count-n.ensures.0 in
    omega arith

pub returns : goal.returns
unfolding ids_in
returns c =
    let w = c.args.words.now in
    let m = many w c.args.table.now c.name_count-n.result c.requires c.name_count-n.ensures.0 in
    ap₂ (λ (l : List ℕ) (k : ℕ). l ++ drop k c.args.table.now)
    (table_of c.loop-i.id-items (name_count w) (name_id w) (c.loop-i.auto.id-items ∙ m) (λ k h. c.loop-i.invariant k (omega arith)))
    c.name_count-n.ensures.0
