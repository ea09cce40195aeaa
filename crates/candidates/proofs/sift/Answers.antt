-- `sift` meets its contract: after k candidates, their counts are tested, and those that stay stand in front.
use Rattle.std.proofs.Common.{◌≡◌, ◌∙◌, sym, ap, subst, cond, List, ℕ, ◌+◌, ◌≤◌, ◌<◌, length, get_or, set, arith}
use Rattle.laws.specs.Lists.{member}
use Rattle.index.specs.Good.{most_names}
use Rattle.candidates.specs.Tables.{MetBy, tested_at}
use Rattle.candidates.proofs.Testing.{Testing, testing_starts, testing_drops, testing_keeps, testing_ends, next_candidate, count_before, count_positive, place_within, tested_drops, tested_stays}
use Rattle.candidates.proofs.sift.Goals as goal
use Rattle.candidates.proofs.sift.Goals.{then-count-needed, else-count-needed}

pub loop-k-init : goal.loop-k-init
loop-k-init c = testing_starts c.args.ids.now c.args.list.now c.args.needed c.args.counts.now c.args.met.now c.args.already c.requires.counts_len.0 c.requires.counts_len.1

-- what the tables are before the tests
abbrev Lent : List ℕ → List ℕ → List ℕ → ℕ → Type 0
Lent ids counts met m =
    (length counts ≡ most_names) × (length met ≡ most_names) × MetBy counts met m × ((i : ℕ) → get_or counts i 0 ≤ 65535) × ((i : ℕ) → 1 ≤ get_or counts i 0 → i < length ids)

-- the candidate of a turn, and what is known of its place and count
pub record Turn (ids counts₀ met₀ counts met : List ℕ) (k : ℕ) : Type 0 where
  pub next : get_or met k 0 ≡ get_or met₀ k 0
  pub place : get_or met k 0 < most_names
  pub name : get_or met k 0 < length ids
  pub was : get_or counts (get_or met k 0) 0 ≡ get_or counts₀ (get_or met k 0) 0
  pub one : 1 ≤ get_or counts₀ (get_or met k 0) 0
  pub small : get_or counts (get_or met k 0) 0 ≤ 65535

turn : (ids l : List ℕ) (needed : ℕ) (counts₀ met₀ : List ℕ) (m₀ : ℕ) (counts met : List ℕ) (m k : ℕ) → Lent ids counts₀ met₀ m₀
    → Testing ids l needed counts₀ met₀ m₀ counts met m k → k < m₀ → Turn ids counts₀ met₀ counts met k
turn ids l needed counts₀ met₀ m₀ counts met m k h t more =
    let n = next_candidate ids l needed counts₀ met₀ m₀ h.2 counts met m k t more in
    let w = count_before ids l needed counts₀ met₀ m₀ h.2 counts met m k t more in
    let o = count_positive ids l needed counts₀ met₀ m₀ h.2 counts met m k t more in
    let p = place_within ids l needed counts₀ met₀ m₀ h.2 counts met m k t more in
    let v : get_or counts (get_or met k 0) 0 ≡ get_or counts₀ (get_or met k 0) 0 =
    ap (λ (i : ℕ). get_or counts i 0) n ∙ w ∙ ap (λ (i : ℕ). get_or counts₀ i 0) (sym n)
    in
    let s = h.3 (get_or met k 0) in
    record {
      next = n;
      place = omega arith;
      name = h.4 (get_or met k 0) (rw n o);
      was = v;
      one = rw n o;
      small = omega arith;
    }

pub offset_bounds-ids-i : goal.offset_bounds-ids-i
offset_bounds-ids-i c =
    let t = turn c.args.ids.now c.args.list.now c.args.needed c.args.counts.now c.args.met.now c.args.already c.loop-k.counts c.loop-k.met c.loop-k.m c.loop-k.k c.requires.counts_len c.loop-k.invariant c.loop-k-test.true in
    omega arith

pub bounds-ids-i : goal.bounds-ids-i
bounds-ids-i c =
    (turn c.args.ids.now c.args.list.now c.args.needed c.args.counts.now c.args.met.now c.args.already c.loop-k.counts c.loop-k.met c.loop-k.m c.loop-k.k c.requires.counts_len c.loop-k.invariant c.loop-k-test.true).name

pub offset_bounds-counts-i : goal.offset_bounds-counts-i
offset_bounds-counts-i c =
    let t = turn c.args.ids.now c.args.list.now c.args.needed c.args.counts.now c.args.met.now c.args.already c.loop-k.counts c.loop-k.met c.loop-k.m c.loop-k.k c.requires.counts_len c.loop-k.invariant c.loop-k-test.true in
    omega arith

pub bounds-counts-i : goal.bounds-counts-i
bounds-counts-i c =
    let t = turn c.args.ids.now c.args.list.now c.args.needed c.args.counts.now c.args.met.now c.args.already c.loop-k.counts c.loop-k.met c.loop-k.m c.loop-k.k c.requires.counts_len c.loop-k.invariant c.loop-k-test.true in
    let w = c.loop-k.invariant.wide in
    omega arith

pub counted-test-requires : goal.counted-test-requires
counted-test-requires c =
    let t = turn c.args.ids.now c.args.list.now c.args.needed c.args.counts.now c.args.met.now c.args.already c.loop-k.counts c.loop-k.met c.loop-k.m c.loop-k.k c.requires.counts_len c.loop-k.invariant c.loop-k-test.true in
    (c.requires.ids_len_bound.1, t.small)

pub offset_bounds-counts-i-then-count-needed : goal.offset_bounds-counts-i-then-count-needed
offset_bounds-counts-i-then-count-needed c =
    let t = turn c.args.ids.now c.args.list.now c.args.needed c.args.counts.now c.args.met.now c.args.already c.loop-k.counts c.loop-k.met c.loop-k.m c.loop-k.k c.requires.counts_len c.loop-k.invariant c.loop-k-test.true in
    omega arith

pub bounds-counts-i-then-count-needed : goal.bounds-counts-i-then-count-needed
bounds-counts-i-then-count-needed c =
    let t = turn c.args.ids.now c.args.list.now c.args.needed c.args.counts.now c.args.met.now c.args.already c.loop-k.counts c.loop-k.met c.loop-k.m c.loop-k.k c.requires.counts_len c.loop-k.invariant c.loop-k-test.true in
    let w = c.loop-k.invariant.wide in
    omega arith

pub offset_bounds-counts-i-else-count-needed : goal.offset_bounds-counts-i-else-count-needed
offset_bounds-counts-i-else-count-needed c =
    let t = turn c.args.ids.now c.args.list.now c.args.needed c.args.counts.now c.args.met.now c.args.already c.loop-k.counts c.loop-k.met c.loop-k.m c.loop-k.k c.requires.counts_len c.loop-k.invariant c.loop-k-test.true in
    omega arith

pub bounds-counts-i-else-count-needed : goal.bounds-counts-i-else-count-needed
bounds-counts-i-else-count-needed c =
    let t = turn c.args.ids.now c.args.list.now c.args.needed c.args.counts.now c.args.met.now c.args.already c.loop-k.counts c.loop-k.met c.loop-k.m c.loop-k.k c.requires.counts_len c.loop-k.invariant c.loop-k-test.true in
    let w = c.loop-k.invariant.wide in
    omega arith

pub offset_bounds-met-m : goal.offset_bounds-met-m
offset_bounds-met-m c = let t = c.loop-k.invariant in let f = t.front in let p = t.long₀ in let b = c.requires.counts_len.2.within in omega arith

pub bounds-met-m : goal.bounds-met-m
bounds-met-m c = let t = c.loop-k.invariant in let f = t.front in let q = t.long in let p = t.long₀ in let b = c.requires.counts_len.2.within in omega arith

pub overflow_add-m : goal.overflow_add-m
overflow_add-m c = let t = c.loop-k.invariant in let f = t.front in let p = t.long₀ in let b = c.requires.counts_len.2.within in omega arith

-- the tables after a candidate is dropped, and after it stays
module _ (ids l : List ℕ) (needed : ℕ) (counts₀ met₀ : List ℕ) (m₀ : ℕ) (counts met : List ℕ) (m k : ℕ) (h : Lent ids counts₀ met₀ m₀)
    (t : Testing ids l needed counts₀ met₀ m₀ counts met m k) (more : k < m₀) (count : ℕ)
    (e : count ≡ get_or counts (get_or met k 0) 0 + cond (member (get_or ids (get_or met k 0) 0) l) 1 0) where
  dropped : count < needed → Testing ids l needed counts₀ met₀ m₀ (set counts (get_or met k 0) 0) met m (k + 1)
  dropped less =
      let u = turn ids l needed counts₀ met₀ m₀ counts met m k h t more in
      let i = get_or met k 0 in
      let v = e ∙ ap (λ (x : ℕ). x + cond (member (get_or ids i 0) l) 1 0) u.was in
      subst (λ (j : ℕ). Testing ids l needed counts₀ met₀ m₀ (set counts j 0) met m (k + 1)) (sym u.next)
      (testing_drops ids l needed counts₀ met₀ m₀ h.2 counts met m k t more
      (ap (tested_at ids l needed counts₀) (sym u.next) ∙ tested_drops ids l needed counts₀ i count u.name u.one v less))

  stays : needed ≤ count → Testing ids l needed counts₀ met₀ m₀ (set counts (get_or met k 0) count) (set met m (get_or met k 0)) (m + 1) (k + 1)
  stays enough =
      let u = turn ids l needed counts₀ met₀ m₀ counts met m k h t more in
      let i = get_or met k 0 in
      let v = e ∙ ap (λ (x : ℕ). x + cond (member (get_or ids i 0) l) 1 0) u.was in
      subst (λ (j : ℕ). Testing ids l needed counts₀ met₀ m₀ (set counts j count) (set met m j) (m + 1) (k + 1)) (sym u.next)
      (testing_keeps ids l needed counts₀ met₀ m₀ h.2 counts met m k t more count
      (sym (ap (tested_at ids l needed counts₀) (sym u.next) ∙ tested_stays ids l needed counts₀ i count u.name u.one v enough))
      (let o = u.one in omega arith))

pub loop-k-preserved : goal.loop-k-preserved
loop-k-preserved c =
    let a = c.args in
    let l = c.loop-k in
    let h = c.requires.counts_len in
    elim c.if-count-needed.branch [
      | then-count-needed w ↦ rw (w.counts-is, w.met-is, w.m-is)
          (dropped a.ids.now a.list.now a.needed a.counts.now a.met.now a.already l.counts l.met l.m l.k h l.invariant c.loop-k-test.true c.counted-test.result.count c.counted-test.ensures.0 w.if-count-needed.true)
      | else-count-needed w ↦ rw (w.counts-is, w.met-is, w.m-is)
          (stays a.ids.now a.list.now a.needed a.counts.now a.met.now a.already l.counts l.met l.m l.k h l.invariant c.loop-k-test.true c.counted-test.result.count c.counted-test.ensures.0 w.if-count-needed.false)
    ]

pub returns : goal.returns
returns c =
    let e : c.loop-k.k ≡ c.args.already = omega arith in
    testing_ends c.args.ids.now c.args.list.now c.args.needed c.args.counts.now c.args.met.now c.args.already c.requires.counts_len.2 c.loop-k.counts c.loop-k.met c.loop-k.m
    (subst (λ (k : ℕ). Testing c.args.ids.now c.args.list.now c.args.needed c.args.counts.now c.args.met.now c.args.already c.loop-k.counts c.loop-k.met c.loop-k.m k) e c.loop-k.invariant)
