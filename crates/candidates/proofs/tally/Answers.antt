-- `tally` meets its contract: after some postings, the counts are tallied over them, and those met are those with a count.
use Rattle.std.proofs.Common.{◌≡◌, ◌∙◌, sym, ap, List, ℕ, ◌+◌, ◌≤◌, ◌<◌, length, get_or, take, set, arith}
use mathlib.Core.Path.{subst₂}
use lib.Seq.{take_all}
use Rattle.laws.specs.Lists.{Ascending}
use Rattle.laws.proofs.Members.{member_at}
use Rattle.laws.proofs.Sort.{ascending_distinct}
use Rattle.index.specs.Good.{most_names}
use Rattle.binary_search.specs.declared.Seat.{Seat}
use Rattle.binary_search.specs.Seats.{seat_of, seat_place}
use Rattle.binary_search.proofs.Search.{place_met}
use Rattle.binary_search.proofs.Seats.{seat_place_lem}
use Rattle.candidates.specs.Tables.{Known, MetBy, tallied}
use Rattle.candidates.proofs.Tables.{tallied_nil, tallied_step, tallied_bound, met_room, met_push, met_keep}
use Rattle.candidates.proofs.Testing.{distinct_fresh}
use Rattle.candidates.proofs.tally.Goals as goal
use Rattle.candidates.proofs.tally.Goals.{else-count-eq0, then-count-eq0}

pub loop-id-init : goal.loop-id-init
loop-id-init c =
    record {
      counted = sym (tallied_nil c.args.ids.now c.args.list.now c.args.counts.now c.requires.counts_len.0);
      those = c.requires.counts_len.2;
    }

-- where a posting is found is its name's place
found : (ids list : List ℕ) (k i : ℕ) (seat : Seat) → (length ids ≤ most_names) × Ascending ids × Ascending list × Known ids list → k < length list
    → seat ≡ seat_of ids (get_or list k 0) → i ≡ seat_place seat → (i < most_names) × (i < length ids) × (get_or ids i 0 ≡ get_or list k 0)
found ids list k i seat h l s p =
    let x = get_or list k 0 in
    let w = h.3 x (member_at list k l) in
    let e : i ≡ w.0 = p ∙ ap seat_place s ∙ seat_place_lem ids x ∙ sym (place_met ids x w.0 h.1 w.1 w.2) in
    let few = h.0 in
    let n = w.1 in
    (omega arith, omega arith, ap (λ (j : ℕ). get_or ids j 0) e ∙ w.2)

pub overflow_add-next : goal.overflow_add-next
overflow_add-next c =
    let w = found c.args.ids.now c.args.list.now c.loop-id.id-index _ _ c.requires.ids_len_bound c.loop-id-test.true c.seat_near-seat.ensures c.place_of-i.ensures in
    let l = w.0 in
    omega arith

pub offset_bounds-counts-i : goal.offset_bounds-counts-i
offset_bounds-counts-i c =
    let w = found c.args.ids.now c.args.list.now c.loop-id.id-index _ _ c.requires.ids_len_bound c.loop-id-test.true c.seat_near-seat.ensures c.place_of-i.ensures in
    let l = w.0 in
    omega arith

pub bounds-counts-i : goal.bounds-counts-i
bounds-counts-i c =
    let w = found c.args.ids.now c.args.list.now c.loop-id.id-index _ _ c.requires.ids_len_bound c.loop-id-test.true c.seat_near-seat.ensures c.place_of-i.ensures in
    let l = w.0 in
    let e = c.requires.counts_len.0 in
    omega arith

-- there is room for one that is met first
room : (counts counts₀ met : List ℕ) (m i : ℕ) → length counts ≡ length counts₀ → length counts₀ ≡ most_names → MetBy counts met m → i < most_names
    → get_or counts i 0 ≡ 0 → m < most_names
room counts counts₀ met m i e f b l z = met_room counts met m i b (e ∙ f) l z

pub offset_bounds-met-m : goal.offset_bounds-met-m
offset_bounds-met-m c =
    let w = found c.args.ids.now c.args.list.now c.loop-id.id-index _ _ c.requires.ids_len_bound c.loop-id-test.true c.seat_near-seat.ensures c.place_of-i.ensures in
    let r = room c.loop-id.counts c.args.counts.now c.loop-id.met c.loop-id.m _ c.loop-id.auto.counts c.requires.counts_len.0 c.loop-id.invariant.those w.0 c.if-count-eq0.true in
    omega arith

pub bounds-met-m : goal.bounds-met-m
bounds-met-m c =
    let w = found c.args.ids.now c.args.list.now c.loop-id.id-index _ _ c.requires.ids_len_bound c.loop-id-test.true c.seat_near-seat.ensures c.place_of-i.ensures in
    let r = room c.loop-id.counts c.args.counts.now c.loop-id.met c.loop-id.m _ c.loop-id.auto.counts c.requires.counts_len.0 c.loop-id.invariant.those w.0 c.if-count-eq0.true in
    let e = c.requires.counts_len.1 in
    omega arith

pub overflow_add-m : goal.overflow_add-m
overflow_add-m c =
    let w = found c.args.ids.now c.args.list.now c.loop-id.id-index _ _ c.requires.ids_len_bound c.loop-id-test.true c.seat_near-seat.ensures c.place_of-i.ensures in
    let r = room c.loop-id.counts c.args.counts.now c.loop-id.met c.loop-id.m _ c.loop-id.auto.counts c.requires.counts_len.0 c.loop-id.invariant.those w.0 c.if-count-eq0.true in
    omega arith

pub overflow_add-counts : goal.overflow_add-counts
overflow_add-counts c =
    let s : get_or c.loop-id.counts c.place_of-i.result 0 ≤ 65536 =
    rw c.loop-id.invariant.counted (tallied_bound c.args.ids.now (take c.loop-id.id-index c.args.list.now) c.args.counts.now 65535 c.requires.counts_len.3 c.place_of-i.result)
    in
    omega arith

pub offset_bounds-counts-i-in-loop-id : goal.offset_bounds-counts-i-in-loop-id
offset_bounds-counts-i-in-loop-id c =
    let w = found c.args.ids.now c.args.list.now c.loop-id.id-index _ _ c.requires.ids_len_bound c.loop-id-test.true c.seat_near-seat.ensures c.place_of-i.ensures in
    let l = w.0 in
    omega arith

pub bounds-counts-i-in-loop-id : goal.bounds-counts-i-in-loop-id
bounds-counts-i-in-loop-id c =
    let w = found c.args.ids.now c.args.list.now c.loop-id.id-index _ _ c.requires.ids_len_bound c.loop-id-test.true c.seat_near-seat.ensures c.place_of-i.ensures in
    let l = w.0 in
    let e = c.requires.counts_len.0 in
    omega arith

pub loop-id-preserved : goal.loop-id-preserved
loop-id-preserved c =
    let k = c.loop-id.id-index in
    let counts = c.loop-id.counts in
    let met = c.loop-id.met in
    let m = c.loop-id.m in
    let i = c.place_of-i.result in
    let v = get_or counts i 0 + 1 in
    let h = c.requires.ids_len_bound in
    let b = c.loop-id.invariant.those in
    let w = found c.args.ids.now c.args.list.now k _ _ h c.loop-id-test.true c.seat_near-seat.ensures c.place_of-i.ensures in
    let wide : length counts ≡ most_names = c.loop-id.auto.counts ∙ c.requires.counts_len.0 in
    let long : length met ≡ most_names = c.loop-id.auto.met ∙ c.requires.counts_len.1 in
    let counted : set counts i v ≡ tallied c.args.ids.now (take (k + 1) c.args.list.now) c.args.counts.now =
    ap (λ (t : List ℕ). set t i (get_or t i 0 + 1)) c.loop-id.invariant.counted
    ∙ tallied_step c.args.ids.now c.args.list.now c.args.counts.now h.0 h.1 k i c.loop-id-test.true
    (distinct_fresh c.args.list.now k (ascending_distinct c.args.list.now h.2) c.loop-id-test.true)
    w.1 w.2
    in
    elim c.if-count-eq0.branch [
      | then-count-eq0 t ↦ (record {
        counted = counted;
        those =
            subst₂ (λ (a : List ℕ) (n : ℕ). MetBy (set counts i v) a n) (sym t.met-is) (sym t.m-is)
            (met_push counts met m i v b wide long w.0 t.if-count-eq0.true (omega arith));
      })
      | else-count-eq0 t ↦ (record {
        counted = counted;
        those =
            subst₂ (λ (a : List ℕ) (n : ℕ). MetBy (set counts i v) a n) (sym t.met-is) (sym t.m-is)
            (met_keep counts met m i v b (rw wide w.0) (let n = t.if-count-eq0.false in omega arith) (omega arith));
      })
    ]

pub returns : goal.returns
returns c =
    (c.loop-id.invariant.counted ∙ ap (λ (r : List ℕ). tallied c.args.ids.now r c.args.counts.now) (take_all c.loop-id.id-index c.args.list.now (omega arith)), c.loop-id.invariant.those)
