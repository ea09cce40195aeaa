-- `narrow` meets its contract: after the lists up to k, the tables hold the counts of those that remain, and the touches are one for each
-- that remained before each list.
use Rattle.std.proofs.Common.{◌≡◌, ◌∙◌, sym, ap, ap₂, List, [], ℕ, ◌+◌, ◌≤◌, ◌<◌, ◌-◌, length, get_or, arith}
use mathlib.Core.Bool.{true≢false}
use Rattle.laws.specs.Below.{count_below}
use Rattle.index.specs.Good.{most_names}
use Rattle.candidates.specs.Method.{signatures, later_count}
use Rattle.candidates.specs.Tables.{MetBy, tested, cut_lists, remain_table, remains_at, later_touches}
use Rattle.candidates.proofs.Spending.{spend_within, spend_over}
use Rattle.candidates.proofs.Counts.{length_cut, get_d_cut, length_remain, remain_most, remain_known, remain_count, remain_step, later_step, later_up, later_nil}
use Rattle.candidates.proofs.narrow.Goals as goal

-- what is needed before the lists that are left: together they are the least count
with-those-left : (x least k : ℕ) → x - least + 1 ≤ k → least - (x - k - 1) + (x - k - 1) ≡ least
with-those-left x least k h = omega arith

pub loop-k-init : goal.loop-k-init
loop-k-init c =
    let x = length c.args.keys.now in
    let ls = cut_lists c.args.words.now c.args.keys.now c.args.starts.now in
    let z : (x - c.args.least + 1) - (x - c.args.least + 1) ≡ 0 = omega arith in
    record {
      cost = sym (ap (later_touches c.args.ids.now ls c.args.least) z ∙ later_nil c.args.ids.now ls c.args.least);
      within = omega arith;
      counted = c.requires.counts_value.0 ∙ ap (remain_table c.args.ids.now ls c.args.least) (sym z);
      those = c.requires.counts_value.2;
    }

pub overflow_sub-budget : goal.overflow_sub-budget
overflow_sub-budget c = c.loop-k.invariant.within

-- the numbers of a turn
module _ (ids words keys starts counts met : List ℕ) (least m k : ℕ) (one : 1 ≤ least) (high : least ≤ length keys) (low : length keys - least + 1 ≤ k)
    (more : k < length keys) where
  here : signatures (length (cut_lists words keys starts)) least + (k - (length keys - least + 1)) ≡ k
  here = let n = length_cut words keys starts in omega arith

  later : k - (length keys - least + 1) < later_count (cut_lists words keys starts) least
  later = let n = length_cut words keys starts in omega arith

  candidates : counts ≡ remain_table ids (cut_lists words keys starts) least (k - (length keys - least + 1)) → MetBy counts met m
      → m ≡ count_below most_names (remains_at ids (cut_lists words keys starts) least (k - (length keys - least + 1)))
  candidates e b =
      let n = length_cut words keys starts in
      let l = later in
      remain_count ids (cut_lists words keys starts) least one (omega arith) (k - (length keys - least + 1)) (omega arith) met m (rw e at b)

pub returns-then-budget-touches : goal.returns-then-budget-touches
returns-then-budget-touches c =
    let a = c.args in
    let l = c.loop-k in
    let p = c.requires.ids_len_bound in
    let ls = cut_lists a.words.now a.keys.now a.starts.now in
    let d = l.k - (length a.keys.now - a.least + 1) in
    let s = later_step a.ids.now ls a.least d in
    let q = later a.ids.now a.words.now a.keys.now a.starts.now l.counts l.met a.least l.m l.k p.3 p.4 l.auto.k c.loop-k-test.true in
    let e : d + 1 + (later_count ls a.least - (d + 1)) ≡ later_count ls a.least = omega arith in
    let u = later_up a.ids.now ls a.least (d + 1) (later_count ls a.least - (d + 1)) in
    let f = ap (later_touches a.ids.now ls a.least) e in
    let i = l.invariant.cost in
    let m = candidates a.ids.now a.words.now a.keys.now a.starts.now l.counts l.met a.least l.m l.k p.3 p.4 l.auto.k c.loop-k-test.true l.invariant.counted l.invariant.those in
    record {
      spent = spend_over (later_touches a.ids.now ls a.least (later_count ls a.least)) a.budget 0 (omega arith);
      table = λ q. absurd (true≢false q);
      candidates = λ q. absurd (true≢false q);
    }

pub sift-m-requires-clause-counts_len : goal.sift-m-requires-clause-counts_len
sift-m-requires-clause-counts_len c =
    let l = c.loop-k in
    let p = c.requires.ids_len_bound in
    let ls = cut_lists c.args.words.now c.args.keys.now c.args.starts.now in
    let n = length_cut c.args.words.now c.args.keys.now c.args.starts.now in
    let d = l.k - (length c.args.keys.now - c.args.least + 1) in
    let f = p.2 in (
      ap length l.invariant.counted ∙ length_remain c.args.ids.now ls c.args.least d,
      l.auto.met ∙ c.requires.counts_value.1,
      l.invariant.those,
      λ i. let a = ap (λ (v : List ℕ). get_or v i 0) l.invariant.counted in let m = remain_most c.args.ids.now ls c.args.least d i in omega arith,
      λ i o. remain_known c.args.ids.now ls c.args.least d i (rw l.invariant.counted at o),
    )

pub loop-k-preserved : goal.loop-k-preserved
loop-k-preserved c =
    let a = c.args in
    let l = c.loop-k in
    let y = c.sift-m in
    let p = c.requires.ids_len_bound in
    let i = c.if-budget-touches.false in
    let low = l.auto.k in
    let ls = cut_lists a.words.now a.keys.now a.starts.now in
    let d = l.k - (length a.keys.now - a.least + 1) in
    let e : (l.k + 1) - (length a.keys.now - a.least + 1) ≡ d + 1 = omega arith in
    let s = later_step a.ids.now ls a.least d in
    let n = length_cut a.words.now a.keys.now a.starts.now in
    let h = here a.ids.now a.words.now a.keys.now a.starts.now l.counts l.met a.least l.m l.k p.3 p.4 low c.loop-k-test.true in
    let q = later a.ids.now a.words.now a.keys.now a.starts.now l.counts l.met a.least l.m l.k p.3 p.4 low c.loop-k-test.true in
    let m = candidates a.ids.now a.words.now a.keys.now a.starts.now l.counts l.met a.least l.m l.k p.3 p.4 low c.loop-k-test.true l.invariant.counted l.invariant.those in
    let u = l.invariant.cost in
    let list : c.list_in-list.result.now ≡ get_or ls (signatures (length ls) a.least + d) [] =
    c.list_in-list.ensures.0 ∙ sym (get_d_cut a.words.now a.keys.now a.starts.now l.k c.loop-k-test.true) ∙ ap (λ (k : ℕ). get_or ls k []) (sym h)
    in
    let needed = a.least - (length a.keys.now - l.k - 1) in
    let whole : needed + (length ls - (signatures (length ls) a.least + d) - 1) ≡ a.least =
    ap₂ (λ (x k : ℕ). needed + (x - k - 1)) n h ∙ with-those-left (length a.keys.now) a.least l.k low
    in
    record {
      cost = (let v : l.touches + l.m ≡ later_touches a.ids.now ls a.least (d + 1) = omega arith in v) ∙ ap (later_touches a.ids.now ls a.least) (sym e);
      within = omega arith;
      counted =
          y.ensures.0
          ∙ ap₂ (λ (x v : List ℕ). tested a.ids.now x needed v) list l.invariant.counted
          ∙ remain_step a.ids.now ls a.least p.3 (omega arith) d needed q whole
          ∙ ap (remain_table a.ids.now ls a.least) (sym e);
      those = y.ensures.1;
    }

pub returns : goal.returns
returns c =
    let l = c.loop-k in
    let ls = cut_lists c.args.words.now c.args.keys.now c.args.starts.now in
    let n = length_cut c.args.words.now c.args.keys.now c.args.starts.now in
    let p = c.requires.ids_len_bound in
    let e : l.k - (length c.args.keys.now - c.args.least + 1) ≡ later_count ls c.args.least = omega arith in
    let f = l.invariant.cost ∙ ap (later_touches c.args.ids.now ls c.args.least) e in
    let w = l.invariant.within in
    record {
      spent = spend_within (later_touches c.args.ids.now ls c.args.least (later_count ls c.args.least)) c.args.budget l.touches f (omega arith);
      table = λ q. l.invariant.counted ∙ ap (remain_table c.args.ids.now ls c.args.least) e;
      candidates = λ q. l.invariant.those;
    }
