-- `find_lists` meets its contract: the size's rows are cut out once; after j turns, the starts and the keys of the first j features stand in front, and
-- those that are empty are as many as they may be, or fewer. With one more than that, the others are too few, whatever comes.
use Rattle.std.proofs.Common.{◌≡◌, ◌∙◌, refl, sym, ap, ap₂, Bool, true, false, cond, List, ℕ, zero, suc, ◌+◌, ◌*◌, ◌≤◌, ◌<◌, ◌-◌, length, get_or, set, eqb, ltb, arith}
use native.Mathlib.Nat.{add-zero}
use borrow.Author.Tests.{lt-ltb, le-ltb, ltb-true, ltb-false, le-leb, lt-leb}
use mir.Val.{bool_byte}
use Rattle.laws.specs.Below.{sum_below}
use Rattle.laws.proofs.Tables.{table_over, over_nil, over_step}
use Rattle.laws.proofs.Below.{count_below_most, sum_below_step}
use Rattle.laws.proofs.Tests.{cond_most}
use Rattle.words.specs.Words.{name_count, name_size}
use Rattle.lists.specs.Lists.{span_in, list_in}
use Rattle.lists.proofs.Spans.{span_count}
use Rattle.index.specs.Good.{Good}
use Rattle.index.proofs.Laws.{good_three, good_names_most}
use Rattle.sizes.specs.Tables.{start_of, small_key, filled_of}
use Rattle.sizes.proofs.Work.{list_length}
use Rattle.sizes.proofs.find_lists.Goals as goal

-- a list has ids or it has none
either : (k : ℕ) → cond (ltb k 256) 1 0 + cond (ltb 255 k) 1 0 ≡ 1
either k = by_test (ltb 255 k) refl
  where
    by_test : (b : Bool) → ltb 255 k ≡ b → cond (ltb k 256) 1 0 + cond b 1 0 ≡ 1
    by_test true e = rw (le-ltb k 256 (ltb-true 255 k e))
    by_test false e = rw (lt-ltb k 256 (let h = ltb-false 255 k e in omega arith))

module _ (w : List ℕ) (y : ℕ) (f : List ℕ) where
  -- one list more, as it is counted among those that are empty
  one_more : (j e : ℕ) → e + filled_of w y f j ≡ j → e + cond (ltb (small_key w y f j) 256) 1 0 + filled_of w y f (j + 1) ≡ j + 1
  unfolding filled_of
  one_more j e h =
      let s = sum_below_step (λ (i : ℕ). cond (ltb 255 (small_key w y f i)) 1 0) j in
      let o = either (small_key w y f j) in
      omega arith

  -- of d lists more, at most d have ids
  at_most : (n d : ℕ) → filled_of w y f (n + d) ≤ filled_of w y f n + d
  at_most n zero = let e = ap (filled_of w y f) (add-zero n) in omega arith
  at_most n (suc d) =
      let a = at_most n d in
      let k : n + suc d ≡ (n + d) + 1 = omega arith in
      let e = ap (filled_of w y f) k in
      let s : filled_of w y f (n + d + 1) ≡ filled_of w y f (n + d) + cond (ltb 255 (small_key w y f (n + d))) 1 0 = unfold filled_of in sum_below_step (λ (i : ℕ). cond (ltb 255 (small_key w y f i)) 1 0) (n + d) in
      let m = cond_most (ltb 255 (small_key w y f (n + d))) 1 in
      omega arith

  -- where more than may be are empty, those with ids are too few
  too_few : (j e x t : ℕ) → j ≤ x → t ≤ x → e + filled_of w y f j ≡ j → x - t < e → filled_of w y f x < t
  too_few j e x t jx tx h l =
      let a = at_most j (x - j) in
      let k : j + (x - j) ≡ x = omega arith in
      let q = ap (filled_of w y f) k in
      omega arith

pub postings_start-first-requires : goal.postings_start-first-requires
postings_start-first-requires c = good_three _ c.requires.0

pub loop-j-init : goal.loop-j-init
loop-j-init c =
    record {
      starts = over_nil (start_of c.args.words.now c.args.size c.args.features.now) c.args.starts.now;
      keys = over_nil (small_key c.args.words.now c.args.size c.args.features.now) c.args.keys.now;
      counted = unfold filled_of sum_below in refl;
      few = omega arith;
    }

-- a list's length, by its rows
counted : (w : List ℕ) → Good w → (y f count : ℕ) → count ≡ (span_in w y f).count → count ≡ length (list_in w y f)
counted w good y f count e = e ∙ span_count w good y f

short : (w : List ℕ) → Good w → (y f count : ℕ) → count ≡ (span_in w y f).count → count ≤ 256
short w good y f count e =
    let c = counted w good y f count e in
    let l = list_length w good y f in
    let m = count_below_most (name_count w) (λ (i : ℕ). eqb (name_size w i) y) in
    let n = good_names_most w good in
    omega arith

-- a test counts for one or none
byte : (b : Bool) → bool_byte b ≡ cond b 1 0
byte true = refl
byte false = refl

one_most : (b : Bool) (more : ℕ) → more ≡ bool_byte b → more ≤ 1
one_most b more h = rw (h ∙ byte b) (cond_most b 1)

-- what is found of the j-th feature: its list's start and length, which make its key
module _ (w : List ℕ) (good : Good w) (y : ℕ) (f : List ℕ) (j start count : ℕ)
    (e : (start ≡ (span_in w y (get_or f j 0)).start) × (count ≡ (span_in w y (get_or f j 0)).count)) where
  begun : start ≡ start_of w y f j
  begun = unfold start_of in e.0

  keyed : count * 256 + j ≡ small_key w y f j
  keyed = unfold small_key in (ap (λ (n : ℕ). n * 256 + j) (counted w good y (get_or f j 0) count e.1))

  -- those that are empty with it
  empties : (empty more : ℕ) → empty + filled_of w y f j ≡ j → more ≡ bool_byte (ltb (count * 256 + j) 256) → empty + more + filled_of w y f (j + 1) ≡ j + 1
  empties empty more h m =
      let o = one_more w y f j empty h in
      let u = m ∙ byte (ltb (count * 256 + j) 256) ∙ ap (λ (v : ℕ). cond (ltb v 256) 1 0) keyed in
      omega arith

pub overflow_mul-key : goal.overflow_mul-key
overflow_mul-key c =
    let n = short c.args.words.now c.requires.0 c.args.size _ _ c.place_among-place.ensures.1 in
    omega arith

pub overflow_add-key : goal.overflow_add-key
overflow_add-key c =
    let n = short c.args.words.now c.requires.0 c.args.size _ _ c.place_among-place.ensures.1 in
    omega arith

pub overflow_add-empty : goal.overflow_add-empty
overflow_add-empty c =
    let l = c.loop-j.invariant.counted in
    let o = one_most _ _ c.from-empty.ensures in
    omega arith

pub returns-then-spared-empty-clause-value : goal.returns-then-spared-empty-clause-value
returns-then-spared-empty-clause-value c =
    let a = c.args in
    let l = c.loop-j in
    let x = length a.features.now in
    let e = empties a.words.now c.requires.0 a.size a.features.now l.j _ _ c.place_among-place.ensures l.empty _ l.invariant.counted c.from-empty.ensures in
    let few = too_few a.words.now a.size a.features.now (l.j + 1) (l.empty + c.from-empty.result) x a.least (omega arith) c.requires.2 e c.if-spared-empty.true in
    sym (lt-leb a.least (filled_of a.words.now a.size a.features.now x) few)

pub loop-j-preserved : goal.loop-j-preserved
loop-j-preserved c =
    let a = c.args in
    let l = c.loop-j in
    let st = start_of a.words.now a.size a.features.now in
    let ke = small_key a.words.now a.size a.features.now in
    let s = begun a.words.now c.requires.0 a.size a.features.now l.j _ _ c.place_among-place.ensures in
    let k = keyed a.words.now c.requires.0 a.size a.features.now l.j _ _ c.place_among-place.ensures in
    record {
      starts = ap₂ (λ (t : List ℕ) (v : ℕ). set t l.j v) l.invariant.starts s ∙ over_step st l.j a.starts.now (omega arith);
      keys = ap₂ (λ (t : List ℕ) (v : ℕ). set t l.j v) l.invariant.keys k ∙ over_step ke l.j a.keys.now (omega arith);
      counted = empties a.words.now c.requires.0 a.size a.features.now l.j _ _ c.place_among-place.ensures l.empty _ l.invariant.counted c.from-empty.ensures;
      few = c.if-spared-empty.false;
    }

pub returns-clause-value : goal.returns-clause-value
returns-clause-value c =
    let l = c.loop-j in
    let e : l.j ≡ length c.args.features.now = omega arith in
    let full = filled_of c.args.words.now c.args.size c.args.features.now in
    let n = ap full e in
    let h = l.invariant.counted in
    let i = l.invariant.few in
    let p = c.requires.2 in
    let enough : c.args.least ≤ full (length c.args.features.now) = omega arith in
    sym (le-leb c.args.least (full (length c.args.features.now)) enough)

pub returns-clause-starts_after : goal.returns-clause-starts_after
returns-clause-starts_after c =
    let l = c.loop-j in
    let e : l.j ≡ length c.args.features.now = omega arith in
    λ q. (
      l.invariant.starts ∙ ap (λ (n : ℕ). table_over (start_of c.args.words.now c.args.size c.args.features.now) n c.args.starts.now) e,
      l.invariant.keys ∙ ap (λ (n : ℕ). table_over (small_key c.args.words.now c.args.size c.args.features.now) n c.args.keys.now) e,
    )
