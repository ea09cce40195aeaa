-- `list_good` meets its contract: what was looked at of the first ids is good, and the tally has them.
use Rattle.std.proofs.Common.{◌≡◌, ℕ, List, ◌+◌, ◌-◌, ◌≤◌, ◌<◌, sym, ap, ◌∙◌, rules, arith}
use mathlib.Core.Logic.{⊎_elim}
use Rattle.laws.proofs.Order.{le_or_lt}
use Rattle.words.proofs.Laws.{row_in_lem}
use Rattle.index.specs.Check.{NameAt}
use Rattle.index.proofs.Facts.{head_facts}
use Rattle.index.proofs.Tally.{id_at, part_within, part_long, part_id, list_start_lem, list_out, list_unnamed, list_more, tally_most, list_whole}
use Rattle.index.proofs.list_good.Invariants.{Follows}
use Rattle.index.proofs.list_good.Goals as goal

pub postings_start-requires : goal.postings_start-requires
postings_start-requires c = (head_facts _ c.requires.0.named.head).three

pub row_place-requires : goal.row_place-requires
row_place-requires c = row_in_lem c.args.words.now c.args.r (head_facts _ c.requires.0.named.head).within c.requires.2

pub row_length-requires : goal.row_length-requires
row_length-requires c = row_in_lem c.args.words.now c.args.r (head_facts _ c.requires.0.named.head).within c.requires.2

pub row_size-size-requires : goal.row_size-size-requires
row_size-size-requires c = row_in_lem c.args.words.now c.args.r (head_facts _ c.requires.0.named.head).within c.requires.2

pub slice_bounds-list-end : goal.slice_bounds-list-end
slice_bounds-list-end c =
    let s = c.postings_start in
    let p = c.row_place in
    let n = c.row_length in
    let h = part_within c.args.words.now c.requires.0 c.args.r c.requires.2 s.result p.result n.result s.ensures.0 p.ensures.0 n.ensures.0 in
    search rules

pub loop-id-init : goal.loop-id-init
loop-id-init c = (list_start_lem _ _ _ c.requires.4, (λ e. e, λ z. absurd (omega arith)))

-- a name of an id and a size, as either is read
named_as : {w : List ℕ} {y z i j at : ℕ} → NameAt w y i at → y ≡ z → i ≡ j → NameAt w z j at
named_as n e f = record { within = n.within; id_is = n.id_is ∙ f; size_is = n.size_is ∙ e }

-- an id that is below the least that it may be has one before it that it isn't above
not_above : (w : List ℕ) (r k next id : ℕ) → Follows w r k next → id < next → id ≡ id_at w r k → (0 < k) × (id_at w r k ≤ id_at w r (k - 1))
not_above w r k next id f l e =
    let later : 0 < k = ⊎_elim (λ (z : k ≤ 0). let h = f.0 (omega arith) in absurd (omega arith)) (λ (z : 0 < k). z) (le_or_lt k 0) in
    (later, omega (arith, f.1 later))

-- and one that isn't is above the one before it
above : (w : List ℕ) (r k next id : ℕ) → Follows w r k next → next ≤ id → id ≡ id_at w r k → 0 < k → id_at w r (k - 1) < id_at w r k
above w r k next id f l e z = omega (arith, f.1 z)

pub returns-then-from-next-clause-value : goal.returns-then-from-next-clause-value
returns-then-from-next-clause-value c =
    let w = c.args.words.now in
    let r = c.args.r in
    let s = c.postings_start in
    let p = c.row_place in
    let n = c.row_length in
    let k = c.loop-id.id-index in
    let i = part_id w c.requires.0 r c.requires.2 s.result p.result n.result s.ensures.0 p.ensures.0 n.ensures.0 k c.loop-id-test.true in
    let b = not_above w r k c.loop-id.next c.from.result c.loop-id.invariant.1 c.if-from-next.true (c.from.ensures ∙ i.1) in
    sym (list_out w r k i.0 b.0 b.1)

pub returns-in_default-clause-value : goal.returns-in_default-clause-value
returns-in_default-clause-value c =
    let w = c.args.words.now in
    let r = c.args.r in
    let s = c.postings_start in
    let p = c.row_place in
    let n = c.row_length in
    let k = c.loop-id.id-index in
    let i = part_id w c.requires.0 r c.requires.2 s.result p.result n.result s.ensures.0 p.ensures.0 n.ensures.0 k c.loop-id-test.true in
    sym (list_unnamed w r k i.0 (λ at h. c.in_default.ensures.found at (named_as h (sym c.row_size-size.ensures) (sym i.1))))

pub overflow_add-tally : goal.overflow_add-tally
overflow_add-tally c =
    let w = c.args.words.now in
    let r = c.args.r in
    let s = c.postings_start in
    let p = c.row_place in
    let n = c.row_length in
    let k = c.loop-id.id-index in
    let i = part_id w c.requires.0 r c.requires.2 s.result p.result n.result s.ensures.0 p.ensures.0 n.ensures.0 k c.loop-id-test.true in
    let u = above w r k c.loop-id.next c.from.result c.loop-id.invariant.1 c.if-from-next.false (c.from.ensures ∙ i.1) in
    let most = tally_most w c.requires.0 r c.requires.2 k c.loop-id.tally c.loop-id.invariant.0 i.0 u c.in-Some.at (named_as c.in-Some.ensures.found c.row_size-size.ensures i.1) in
    omega (arith, c.requires.2, c.type_inv.words 1)

pub loop-id-preserved : goal.loop-id-preserved
loop-id-preserved c =
    let w = c.args.words.now in
    let r = c.args.r in
    let s = c.postings_start in
    let p = c.row_place in
    let n = c.row_length in
    let k = c.loop-id.id-index in
    let i = part_id w c.requires.0 r c.requires.2 s.result p.result n.result s.ensures.0 p.ensures.0 n.ensures.0 k c.loop-id-test.true in
    let u = above w r k c.loop-id.next c.from.result c.loop-id.invariant.1 c.if-from-next.false (c.from.ensures ∙ i.1) in
    let e : k + 1 - 1 ≡ k = omega arith in (
      list_more w c.requires.0 r c.requires.2 k c.loop-id.tally c.loop-id.invariant.0 i.0 u c.in-Some.at (named_as c.in-Some.ensures.found c.row_size-size.ensures i.1)
          (omega (arith, c.requires.3, c.loop-id.auto.tally)),
      (λ z. absurd (omega arith), λ z. ap (λ (x : ℕ). x + 1) (c.from-next.ensures ∙ i.1 ∙ ap (id_at w r) (sym e))),
    )

pub returns-clause-value : goal.returns-clause-value
returns-clause-value c =
    let s = c.postings_start in
    let p = c.row_place in
    let n = c.row_length in
    let l = part_long c.args.words.now c.requires.0 c.args.r c.requires.2 s.result p.result n.result s.ensures.0 p.ensures.0 n.ensures.0 in
    sym (list_whole c.args.words.now c.requires.0 c.args.r c.requires.2 c.loop-id.id-index c.loop-id.tally c.loop-id.invariant.0 (omega arith)).0

pub returns-clause-tallied : goal.returns-clause-tallied
returns-clause-tallied c =
    let s = c.postings_start in
    let p = c.row_place in
    let n = c.row_length in
    let l = part_long c.args.words.now c.requires.0 c.args.r c.requires.2 s.result p.result n.result s.ensures.0 p.ensures.0 n.ensures.0 in
    λ e. (list_whole c.args.words.now c.requires.0 c.args.r c.requires.2 c.loop-id.id-index c.loop-id.tally c.loop-id.invariant.0 (omega arith)).1
