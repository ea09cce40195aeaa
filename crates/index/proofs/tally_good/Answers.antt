-- `tally_good` meets its contract: the test of each place is the definition's.
use Rattle.std.proofs.Common.{ℕ, ◌+◌, ◌≤◌, ◌<◌, length, get_or, ap, zero-add, rules, tests, arith, eqb}
use Rattle.std.proofs.lemmas.Iterator.{serves_from_Range}
use Rattle.words.specs.Words.{name_count, name_size, name_start, name_width}
use Rattle.index.proofs.Facts.{head_facts}
use Rattle.index.proofs.Ranges.{all_from_range}
use Rattle.index.proofs.tally_good.Goals as goal

pub name_count-requires : goal.name_count-requires
name_count-requires c = (head_facts _ c.requires.0).three

pub all-requires-clause-callable : goal.all-requires-clause-callable
all-requires-clause-callable c =
    let n = c.name_count.ensures.0 in
    let h = (head_facts _ c.requires.0).within in
    serves_from_Range (λ x q k. search (rules, tests))
    (λ x low high.
    let within : x < length c.args.tally.now = omega (arith, c.requires.1) in
    let inside : name_start x + name_width ≤ length c.args.words.now = omega arith in
    search rules)

pub returns : goal.returns
returns c =
    let t = λ (i : ℕ). eqb (get_or c.args.tally.now i 0) (name_size c.args.words.now i) in
    all_from_range t (name_count c.args.words.now) t _ _ _ c.all.result c.all.ensures.ran (λ x b q k. search (rules, tests))
    (omega (arith, c.name_count.ensures.0))
    (λ i. ap t (zero-add i))
