-- `gather` meets its contract: after k lists, the tables hold their counts, and the touches are their postings.
use Rattle.std.proofs.Common.{◌≡◌, ◌∙◌, refl, sym, ap, ap₂, List, [], ℕ, ◌+◌, ◌<◌, ◌-◌, length, get_or, take, arith}
use mathlib.Core.Bool.{true≢false}
use Rattle.std.proofs.lemmas.List.{length-take-le}
use Rattle.laws.specs.Lists.{sum_of}
use Rattle.laws.proofs.Lists.{length_tabulate}
use Rattle.index.specs.Good.{most_names}
use Rattle.candidates.specs.Method.{postings_of}
use Rattle.candidates.specs.Tables.{tallied, cut_at, cut_lists, held_table}
use Rattle.candidates.proofs.Spending.{spend_within, spend_over}
use Rattle.candidates.proofs.Tables.{met_nil}
use Rattle.candidates.proofs.Counts.{postings_step, postings_up, held_table_nil, held_table_step, held_table_most, length_cut, get_d_cut, zero_table}
use Rattle.candidates.proofs.gather.Goals as goal

pub loop-k-init : goal.loop-k-init
loop-k-init c =
    let ls = cut_lists c.args.words.now c.args.keys.now c.args.starts.now in
    record {
      cost = unfold sum_of in refl;
      within = omega arith;
      counted = c.requires.counts_value.0 ∙ sym (held_table_nil c.args.ids.now ls);
      those = met_nil c.args.counts.now c.args.met.now (λ i. ap (λ (l : List ℕ). get_or l i 0) c.requires.counts_value.0 ∙ zero_table i);
    }

pub overflow_sub-budget : goal.overflow_sub-budget
overflow_sub-budget c = c.loop-k.invariant.within

-- a list in the keys' order, and its postings more
module _ (words keys starts list : List ℕ) (k : ℕ) (h : k < length keys) (e : list ≡ cut_at words keys starts k) where
  listed : get_or (cut_lists words keys starts) k [] ≡ list
  listed = get_d_cut words keys starts k h ∙ sym e

  dearer : (touches : ℕ) → touches ≡ postings_of (cut_lists words keys starts) k → postings_of (cut_lists words keys starts) (k + 1) ≡ touches + length list
  dearer touches t =
      let n = length_cut words keys starts in
      let s = postings_step (cut_lists words keys starts) k (omega arith) in
      let l = ap length listed in
      omega arith

pub returns-then-budget-touches : goal.returns-then-budget-touches
returns-then-budget-touches c =
    let l = c.loop-k in
    let ls = cut_lists c.args.words.now c.args.keys.now c.args.starts.now in
    let h = c.requires.ids_len_bound.3 in
    let d = dearer c.args.words.now c.args.keys.now c.args.starts.now c.list_in-list.result.now l.k (omega arith) c.list_in-list.ensures.0 l.touches l.invariant.cost in
    let e : l.k + 1 + (c.args.signatures - (l.k + 1)) ≡ c.args.signatures = omega arith in
    let u = postings_up ls (l.k + 1) (c.args.signatures - (l.k + 1)) in
    let f = ap (postings_of ls) e in
    record {
      spent = spend_over (postings_of ls c.args.signatures) c.args.budget 0 (omega arith);
      table = λ q. absurd (true≢false q);
      candidates = λ q. absurd (true≢false q);
    }

pub tally-m-requires-clause-counts_len : goal.tally-m-requires-clause-counts_len
tally-m-requires-clause-counts_len c =
    let l = c.loop-k in
    let h = c.requires.ids_len_bound.3 in
    let g = c.requires.ids_len_bound.4 in
    let ls = cut_lists c.args.words.now c.args.keys.now c.args.starts.now in
    let n = length_cut c.args.words.now c.args.keys.now c.args.starts.now in
    let w : length c.args.counts.now ≡ most_names = ap length c.requires.counts_value.0 ∙ length_tabulate {A = ℕ} (λ (i : ℕ). 0) most_names in (
      l.auto.counts ∙ w,
      l.auto.met ∙ c.requires.counts_value.1,
      l.invariant.those,
      λ i.
          let a = ap (λ (v : List ℕ). get_or v i 0) l.invariant.counted in
          let m = held_table_most c.args.ids.now (take l.k ls) i in
          let q = length-take-le l.k ls (omega arith) in
          omega arith,
    )

pub loop-k-preserved : goal.loop-k-preserved
loop-k-preserved c =
    let l = c.loop-k in
    let y = c.tally-m in
    let h = c.requires.ids_len_bound.3 in
    let kl : l.k < length c.args.keys.now = omega arith in
    let i = c.if-budget-touches.false in
    let ls = cut_lists c.args.words.now c.args.keys.now c.args.starts.now in
    let n = length_cut c.args.words.now c.args.keys.now c.args.starts.now in
    let e = c.list_in-list.ensures.0 in
    record {
      cost = sym (dearer c.args.words.now c.args.keys.now c.args.starts.now c.list_in-list.result.now l.k kl e l.touches l.invariant.cost);
      within = omega arith;
      counted =
          y.ensures.0
          ∙ ap₂ (λ (a v : List ℕ). tallied c.args.ids.now a v) (sym (listed c.args.words.now c.args.keys.now c.args.starts.now c.list_in-list.result.now l.k kl e)) l.invariant.counted
          ∙ held_table_step c.args.ids.now ls l.k (omega arith);
      those = y.ensures.1;
    }

pub returns : goal.returns
returns c =
    let l = c.loop-k in
    let ls = cut_lists c.args.words.now c.args.keys.now c.args.starts.now in
    let e : l.k ≡ c.args.signatures = omega arith in
    let f = ap (postings_of ls) e in
    let w = l.invariant.within in
    record {
      spent = spend_within (postings_of ls c.args.signatures) c.args.budget l.touches (l.invariant.cost ∙ f) (let g = l.invariant.cost in omega arith);
      table = λ q. l.invariant.counted ∙ ap (λ (n : ℕ). held_table c.args.ids.now (take n ls)) e;
      candidates = λ q. l.invariant.those;
    }
