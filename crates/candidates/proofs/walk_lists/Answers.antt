-- `walk_lists` meets its contract: the touches of the two phases together, and the answers with what is left.
use Rattle.std.proofs.Common.{◌≡◌, ◌∙◌, refl, sym, ap, subst, Bool, true, false, List, ℕ, ◌+◌, ◌-◌, length, take, arith}
use mathlib.Core.Bool.{true≢false}
use Rattle.candidates.specs.Method.{signatures, later_count, postings_of}
use Rattle.candidates.specs.Spending.{Spending}
use Rattle.candidates.specs.Tables.{cut_lists, held_table, later_touches, kept}
use Rattle.candidates.proofs.Spending.{spend_more, spend_both}
use Rattle.candidates.proofs.Counts.{length_cut, remain_starts, length_remain}
use Rattle.candidates.proofs.walk_lists.Goals as goal

-- the lists of the first phase are the signatures
all-signatures : (words keys starts : List ℕ) (least : ℕ) → length keys - least + 1 ≡ signatures (length (cut_lists words keys starts)) least
all-signatures words keys starts least = ap (λ (x : ℕ). signatures x least) (sym (length_cut words keys starts))

-- what the first phase came to
first : (words keys starts : List ℕ) (least budget : ℕ) (past : Bool) (touches : ℕ) → Spending (postings_of (cut_lists words keys starts) (length keys - least + 1)) budget past touches
    → Spending (postings_of (cut_lists words keys starts) (signatures (length (cut_lists words keys starts)) least)) budget past touches
first words keys starts least budget past touches =
    subst (λ (n : ℕ). Spending (postings_of (cut_lists words keys starts) n) budget past touches) (all-signatures words keys starts least)

pub returns-in_err-first : goal.returns-in_err-first
returns-in_err-first c =
    let a = c.args in
    let ls = cut_lists a.words.now a.keys.now a.starts.now in
    let p : ℕ = postings_of ls (signatures (length ls) a.least) in
    let l : ℕ = later_touches a.ids.now ls a.least (later_count ls a.least) in
    rw c.from_residual.ensures (record {
      spent = spend_more p (p + l) a.budget true 0 0 (first a.words.now a.keys.now a.starts.now a.least a.budget true 0 c.in_err-first.ensures.spent) refl (omega arith);
      answers = λ q. absurd (true≢false q);
      cleared = λ q. absurd (true≢false q);
      none = λ q. (refl, refl);
    })

pub narrow-requires-clause-counts_value : goal.narrow-requires-clause-counts_value
narrow-requires-clause-counts_value c =
    let g = c.in_ok-first.ensures in
    let a = c.args in
    let ls = cut_lists a.words.now a.keys.now a.starts.now in
    let n = length_cut a.words.now a.keys.now a.starts.now in
    let q = c.requires.ids_len_bound in
    let start = remain_starts a.ids.now ls a.least q.4 (let r = q.5 in omega arith) in (
      g.table refl ∙ ap (λ (x : ℕ). held_table a.ids.now (take x ls)) (all-signatures a.words.now a.keys.now a.starts.now a.least) ∙ start,
      c.gather.auto.met ∙ c.requires.counts_value.1,
      g.candidates refl,
    )

-- what both phases came to
both : (words keys starts : List ℕ) (least budget touches : ℕ) (past : Bool) (n t u : ℕ)
    → Spending (postings_of (cut_lists words keys starts) (length keys - least + 1)) budget false touches → Spending n (budget - touches) past t → (past ≡ false → u ≡ touches + t)
    → Spending (postings_of (cut_lists words keys starts) (signatures (length (cut_lists words keys starts)) least) + n) budget past u
both words keys starts least budget touches past n t u s r e =
    spend_both (postings_of (cut_lists words keys starts) (signatures (length (cut_lists words keys starts)) least)) budget false touches
    (first words keys starts least budget false touches s) refl n past t u r e

pub returns-in_err-then : goal.returns-in_err-then
returns-in_err-then c =
    let a = c.args in
    rw c.from_residual-in_err-then.ensures (record {
      spent =
          both a.words.now a.keys.now a.starts.now a.least a.budget c.in_ok-first.first.touches true _ 0 0 c.in_ok-first.ensures.spent c.in_err-then.ensures.spent
          (λ q. absurd (true≢false q));
      answers = λ q. absurd (true≢false q);
      cleared = λ q. absurd (true≢false q);
      none = λ q. (refl, refl);
    })

pub keep-requires : goal.keep-requires
keep-requires c =
    let a = c.args in
    let ls = cut_lists a.words.now a.keys.now a.starts.now in
    let w = c.in_ok-then.ensures in
    (ap length (w.table refl) ∙ length_remain a.ids.now ls a.least (later_count ls a.least), w.candidates refl, c.requires.ids_len_bound.6)

pub returns : goal.returns
returns c =
    let a = c.args in
    let w = c.in_ok-then.ensures in
    record {
      spent =
          both a.words.now a.keys.now a.starts.now a.least a.budget c.in_ok-first.first.touches false _ c.in_ok-then.then.touches _ c.in_ok-first.ensures.spent w.spent (λ q. refl);
      answers = λ q. c.keep.ensures.0 ∙ ap (λ (v : List ℕ). kept v a.answers.now) (w.table refl);
      cleared = λ q. c.keep.ensures.1;
      none = λ q. absurd (true≢false (sym q));
    }
