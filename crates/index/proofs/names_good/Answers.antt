-- `names_good` meets its contract: each name is tested, and that it comes after the one before it, where the definition tests first the names and then
-- their order.
use Rattle.std.proofs.Common.{Bool, ◌&&◌, ◌||◌, ℕ, ◌+◌, ◌-◌, ◌≤◌, length, ap, ◌∙◌, zero-add, rules, tests, arith, ltb, eqb}
use Rattle.std.proofs.lemmas.Iterator.{serves_from_Range}
use Rattle.words.specs.Words.{name_count, name_id, name_start, name_width}
use Rattle.index.specs.Good.{name_good, names_good}
use Rattle.index.proofs.Facts.{head_facts}
use Rattle.index.proofs.Ranges.{all_from_range, all_paired}
use Rattle.index.proofs.names_good.Goals as goal

pub name_count-requires : goal.name_count-requires
name_count-requires c = (head_facts _ c.requires).three

pub all-requires-clause-callable : goal.all-requires-clause-callable
all-requires-clause-callable c =
    let w = c.args.words.now in
    let n = c.name_count.ensures.0 in
    let h = (head_facts _ c.requires).within in
    serves_from_Range (λ x q k. search (rules, tests))
    (λ x low high.
    let before : name_start (x - 1) + name_width ≤ length w = omega arith in
    let inside : name_start x + name_width ≤ length w = omega arith in
    search rules)

pub returns : goal.returns
unfolding names_good
returns c =
    let w = c.args.words.now in
    let ascends : ℕ → ℕ → Bool = λ (i j : ℕ). ltb (name_id w i) (name_id w j) in
    let t : ℕ → Bool = λ (i : ℕ). name_good w i && (eqb i 0 || ascends (i - 1) i) in
    all_from_range t (name_count w) t _ _ _ c.all.result c.all.ensures.ran (λ x v q k. search (rules, tests)) (omega (arith, c.name_count.ensures.0)) (λ i. ap t (zero-add i))
    ∙ all_paired (name_good w) ascends (name_count w)
