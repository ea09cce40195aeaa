-- One size, as the code has it, is one size of the method: the lists cut out of the words, the names' ids, the touches, and what it comes
-- to. Cited by the proof of `one_size`, by EmptySignatures.antt and Answering.antt, and by `search`.
-- Assumes nothing.
use mathlib.Core.Path.{◌≡◌, refl, sym, ap, ap₂, ◌∙◌}
use mathlib.Core.Bool.{Bool, true, false, cond, ◌&&◌, true≢false}
use mathlib.Core.List.{List, [], ◌∷◌}
use Prim.Native.Nat.{ℕ, zero, suc, ◌+◌, ◌-◌, ◌/◌, ◌%◌, ◌≤◌, ◌<◌}
use native.Mathlib.Omega.{arith}
use lib.ListN.{length, get_or, take, drop}
use lib.Seq.{ext_get_or}
use lib.Dec.{eqb, ltb}
use borrow.Author.Tests.{lt-ltb, le-ltb, le-leb, eq-eqb}
use Rattle.laws.specs.Lists.{member, Ascending, tabulate, count_of}
use Rattle.laws.specs.Below.{count_below}
use Rattle.laws.specs.Sort.{sort_of}
use Rattle.laws.proofs.Lists.{length_tabulate, get_d_tabulate}
use Rattle.laws.proofs.Members.{member_head, member_tail}
use Rattle.laws.proofs.Below.{sum_below_ext, sum_below_step, count_below_most}
use Rattle.laws.proofs.Tests.{same_test, and_parts}
use Rattle.laws.proofs.Below.{and_both}
use Rattle.laws.proofs.Sort.{ascending_sorted, ascending_distinct, sort_sorted}
use Rattle.laws.proofs.Images.{ascending_tabulate}
use Rattle.words.specs.Words.{name_count, name_id, name_size}
use Rattle.index.specs.Good.{Good, most_names, ids_in}
use Rattle.index.proofs.Laws.{good_names_most, good_ids, good_ids_apart}
use Rattle.lists.specs.Lists.{list_in, span_in}
use Rattle.lists.proofs.Laws.{good_named, good_ascending, span_words}
use Rattle.lists.proofs.Spans.{span_within, span_count}
use Rattle.candidates.specs.Method.{signatures, signature_postings, remains, later_count, postings_of}
use Rattle.candidates.specs.Tables.{no_counts, cut_at, cut_lists, Readable, remains_at, later_touches, Walked}
use Rattle.candidates.proofs.Candidates.{remains_met}
use Rattle.candidates.proofs.Counts.{length_cut, get_d_cut}
use Rattle.candidates.proofs.Spending.{spend_within}
use Rattle.sizes.specs.Method.{lists_for, remaining, touches_at}
use Rattle.sizes.specs.Tables.{start_of, small_key, touches_for, answers_for, Sized, Asked}
use Rattle.sizes.proofs.Laws.{Query, length_lists, held_features}
use Rattle.sizes.proofs.Work.{list_length}
use Rattle.sizes.proofs.Order.{small_keys, length_small, kth_key}

-- ---- the ids of the names

pub length_ids : (w : List ℕ) → length (ids_in w) ≡ name_count w
unfolding ids_in
length_ids w = length_tabulate (name_id w) (name_count w)

pub id_at_lem : (w : List ℕ) (i : ℕ) → i < name_count w → get_or (ids_in w) i 0 ≡ name_id w i
unfolding ids_in
id_at_lem w i h = get_d_tabulate (name_id w) (name_count w) i 0 h

pub ids_few : (w : List ℕ) → Good w → length (ids_in w) ≤ most_names
ids_few w good = rw (length_ids w) (good_names_most w good)

pub ids_rise : (w : List ℕ) → Good w → Ascending (ids_in w)
unfolding ids_in
ids_rise w good = ascending_tabulate (name_id w) (name_count w) (λ i h. good_ids w good i (i + 1) (omega arith) h)

-- ---- the features

pub asked_query : (f : List ℕ) → Asked f → Query f
asked_query f a = record { some = a.some; distinct = ascending_distinct f a.rising; small = a.small }

pub asked_sorted : (f : List ℕ) → Asked f → sort_of f ≡ f
asked_sorted f a = sort_sorted f (ascending_sorted f a.rising)

-- ---- the lists

module _ (w : List ℕ) (good : Good w) (y : ℕ) (f : List ℕ) (a : Asked f) (keys starts : List ℕ)
    (in_order : keys ≡ sort_of (tabulate (small_key w y f) (length f)))
    (begin : (j : ℕ) → j < length f → get_or starts j 0 ≡ start_of w y f j) (room : length f ≤ length starts) where
  few_enough : length f ≤ 255
  few_enough = let h = a.few in omega arith

  -- the keys are the method's small keys
  keys_small : keys ≡ small_keys w y f (asked_query f a) few_enough
  keys_small = in_order ∙ ap (λ (g : List ℕ). sort_of (tabulate (small_key w y g) (length f))) (sym (asked_sorted f a))

  pub length_keys : length keys ≡ length f
  length_keys = ap length keys_small ∙ length_small w y f (asked_query f a) few_enough

  -- the k-th key, with the features as they stand
  pub kth : (k : ℕ) → k < length f
      → (get_or keys k 0 % 256 < length f)
      × (get_or (lists_for w y f) k [] ≡ list_in w y (get_or f (get_or keys k 0 % 256) 0))
      × (get_or keys k 0 / 256 ≡ length (list_in w y (get_or f (get_or keys k 0 % 256) 0)))
  kth k h =
      let e = kth_key w y f (asked_query f a) few_enough k h in
      let q = asked_sorted f a in
      let s = keys_small in
      let n : get_or keys k 0 ≡ get_or (small_keys w y f (asked_query f a) few_enough) k 0 = ap (λ (l : List ℕ). get_or l k 0) s in (
        rw n e.0,
        rw n (e.1 ∙ ap (λ (l : List ℕ). list_in w y (get_or l (get_or (small_keys w y f (asked_query f a) few_enough) k 0 % 256) 0)) q),
        rw n (e.2 ∙ ap (λ (l : List ℕ). length (list_in w y (get_or l (get_or (small_keys w y f (asked_query f a) few_enough) k 0 % 256) 0))) q),
      )

  -- what is cut out of the words is the list
  pub cut_list : (k : ℕ) → k < length f → cut_at w keys starts k ≡ list_in w y (get_or f (get_or keys k 0 % 256) 0)
  unfolding cut_at start_of
  cut_list k h =
      let e = kth k h in
      let g : ℕ = get_or f (get_or keys k 0 % 256) 0 in
      let n : get_or keys k 0 / 256 ≡ (span_in w y g).count = e.2 ∙ sym (span_count w good y g) in
      ap₂ (λ (c s : ℕ). take c (drop s w)) n (begin (get_or keys k 0 % 256) e.0) ∙ span_words w y g

  cut_lists_lem : cut_lists w keys starts ≡ lists_for w y f
  cut_lists_lem =
      let n = length_cut w keys starts in
      let m = length_lists w y f in
      let l = length_keys in
      ext_get_or [] (cut_lists w keys starts) (lists_for w y f) (n ∙ l ∙ sym m)
      (λ k h.
      let q : k < length f = rw (n ∙ l) at h in
      get_d_cut w keys starts k (rw l q) ∙ cut_list k q ∙ sym (kth k q).1)

  pub cut_readable : Readable w (ids_in w) keys starts
  cut_readable =
      record {
        place = λ k h. let q = (kth k (rw length_keys at h)).0 in omega arith;
        short = λ k h.
            let q = (kth k (rw length_keys at h)).2 in
            let b = list_length w good y (get_or f (get_or keys k 0 % 256) 0) in
            let m = count_below_most (name_count w) (λ (i : ℕ). eqb (name_size w i) y) in
            let o = good_names_most w good in
            omega arith;
        within = λ k h.
            let e = kth k (rw length_keys at h) in
            let g : ℕ = get_or f (get_or keys k 0 % 256) 0 in
            let b = begin (get_or keys k 0 % 256) e.0 in
            let s = span_within w good y g in
            let n = span_count w good y g in
            let c = e.2 in
            let d : start_of w y f (get_or keys k 0 % 256) ≡ (span_in w y g).start = unfold start_of in refl in
            omega arith;
        ascending = λ k h. rw (cut_list k (rw length_keys at h)) (good_ascending w good y (get_or f (get_or keys k 0 % 256) 0));
        known = λ k h id m.
            let e = cut_list k (rw length_keys at h) in
            let p = good_named w good y (get_or f (get_or keys k 0 % 256) 0) id (rw e at m) in
            (p.0, rw (length_ids w) p.1, id_at_lem w p.0 p.1 ∙ p.2);
      }

-- ---- the touches

-- where some pass, one does
count_some : (t : ℕ → Bool) (l : List ℕ) → 1 ≤ count_of t l → (x : ℕ) × (member x l ≡ true) × (t x ≡ true)
unfolding count_of
count_some t [] h = absurd (omega arith)
count_some t (x ∷ l) h = by_test (t x) refl h (count_some t l)
  where
    by_test : (b : Bool) → t x ≡ b → 1 ≤ cond b 1 0 + count_of t l → (1 ≤ count_of t l → (z : ℕ) × (member z l ≡ true) × (t z ≡ true))
        → (z : ℕ) × (member z (x ∷ l) ≡ true) × (t z ≡ true)
    by_test true e k r = (x, member_head x l, e)
    by_test false e k r = let p = r (omega arith) in (p.0, member_tail x p.0 l p.1, p.2)

-- the names below an end that is not short of them
count_cut : (n d : ℕ) (u : ℕ → Bool) → count_below (n + d) (λ (i : ℕ). ltb i n && u i) ≡ count_below n u
count_cut n zero u =
    ap (λ (m : ℕ). count_below m (λ (i : ℕ). ltb i n && u i)) (let e : n + 0 ≡ n = omega arith in e)
    ∙ sum_below_ext n (λ (i : ℕ). cond (ltb i n && u i) 1 0) (λ (i : ℕ). cond (u i) 1 0) (λ i h. rw (lt-ltb i n h))
count_cut n (suc d) u =
    let e : n + suc d ≡ (n + d) + 1 = omega arith in
    let r = count_cut n d u in
    let s = sum_below_step (λ (i : ℕ). cond (ltb i n && u i) 1 0) (n + d) in
    let f = ap (λ (m : ℕ). count_below m (λ (i : ℕ). ltb i n && u i)) e in
    let z : ◌≡◌ {A = ℕ} (cond (ltb (n + d) n && u (n + d)) 1 0) 0 = rw (le-ltb (n + d) n (omega arith)) in
    omega arith

module _ (w : List ℕ) (good : Good w) (y : ℕ) (f : List ℕ) (a : Asked f) (t : ℕ) where
  -- a name that remains has the size
  pub remains_size : (d i : ℕ) → i < name_count w → remains (lists_for w y f) t d (name_id w i) ≡ true → name_size w i ≡ y
  remains_size d i h e =
      let q = asked_query f a in
      let m = remains_met (lists_for w y f) t d (name_id w i) e in
      let c = held_features w y f (name_id w i) q.small in
      let p = count_some (λ (g : ℕ). member (name_id w i) (list_in w y g)) f (omega arith) in
      let n = good_named w good y p.0 (name_id w i) p.2 in
      let s = good_ids_apart w good n.0 i n.1 h n.2 in
      ap (name_size w) (sym s) ∙ n.3

  -- so those of the size that remain are all that remain
  pub remaining_at : (d : ℕ) → remaining w y (lists_for w y f) t d ≡ count_below most_names (remains_at (ids_in w) (lists_for w y f) t d)
  unfolding remaining remains_at
  remaining_at d =
      let m = good_names_most w good in
      let e : name_count w + (most_names - name_count w) ≡ most_names = omega arith in
      let u : ℕ → Bool = λ (i : ℕ). remains (lists_for w y f) t d (get_or (ids_in w) i 0) in
      sum_below_ext (name_count w) (λ (i : ℕ). cond (eqb (name_size w i) y && remains (lists_for w y f) t d (name_id w i)) 1 0) (λ (i : ℕ). cond (u i) 1 0)
      (λ i h.
      ap (λ (b : Bool). cond b 1 0)
      (same_test (eqb (name_size w i) y && remains (lists_for w y f) t d (name_id w i)) (u i)
      (λ q. ap (remains (lists_for w y f) t d) (id_at_lem w i h) ∙ (and_parts (eqb (name_size w i) y) (remains (lists_for w y f) t d (name_id w i)) q).1)
      (λ q.
      let r = ap (remains (lists_for w y f) t d) (sym (id_at_lem w i h)) ∙ q in
      and_both (eqb (name_size w i) y) (remains (lists_for w y f) t d (name_id w i)) (eq-eqb (name_size w i) y (remains_size d i h r)) r)))
      ∙ sym (count_cut (name_count w) (most_names - name_count w) u)
      ∙ ap₂ (λ (n l : ℕ). count_below n (λ (i : ℕ). ltb i l && u i)) e (sym (length_ids w))

  -- the touches of the size, as the code counts them
  touches_at_lem : touches_at w y (lists_for w y f) t
      ≡ postings_of (lists_for w y f) (signatures (length (lists_for w y f)) t)
      + later_touches (ids_in w) (lists_for w y f) t (later_count (lists_for w y f) t)
  unfolding touches_at signature_postings later_touches
  touches_at_lem =
      ap (λ (n : ℕ). postings_of (lists_for w y f) (signatures (length (lists_for w y f)) t) + n)
      (sum_below_ext (later_count (lists_for w y f) t) (remaining w y (lists_for w y f) t) (λ (e : ℕ). count_below most_names (remains_at (ids_in w) (lists_for w y f) t e)) (λ d h. remaining_at d))

-- ---- what a size comes to

-- nothing, where it costs nothing and has no answer
pub sized_idle : (w : List ℕ) (y : ℕ) (f : List ℕ) (t budget : ℕ) (before counts : List ℕ) → touches_for w y f t ≡ 0 → before ≡ answers_for w y f t before
    → counts ≡ no_counts → Sized w y f t budget before before counts false 0
sized_idle w y f t budget before counts free same clear =
    record {
      spent = spend_within (touches_for w y f t) budget 0 (sym free) (omega arith);
      answers = λ e. same;
      cleared = λ e. clear;
      none = λ e. absurd (true≢false (sym e));
    }

-- as where its least count is 0
pub sized_none : (w : List ℕ) (y : ℕ) (f : List ℕ) (t budget : ℕ) (before counts : List ℕ) → t ≡ 0 → counts ≡ no_counts
    → Sized w y f t budget before before counts false 0
unfolding touches_for answers_for
sized_none w y f t budget before counts z clear = sized_idle w y f t budget before counts (rw z) (rw z) clear

-- what both phases came to with its lists, where its least count is not 0
pub sized_walked : (w : List ℕ) (good : Good w) (y : ℕ) (f : List ℕ) (a : Asked f) (keys starts : List ℕ)
    (in_order : keys ≡ sort_of (tabulate (small_key w y f) (length f)))
    (begin : (j : ℕ) → j < length f → get_or starts j 0 ≡ start_of w y f j) (room : length f ≤ length starts)
    {ids : List ℕ} {t budget : ℕ} {before after counts : List ℕ} {past : Bool} {touches : ℕ}
    → ids ≡ ids_in w → 1 ≤ t → Walked ids (cut_lists w keys starts) t budget before after counts past touches → Sized w y f t budget before after counts past touches
unfolding touches_for answers_for
sized_walked w good y f a keys starts in_order begin room {t = t} e low walked =
    let v = rw (e, cut_lists_lem w good y f a keys starts in_order begin room) at walked in
    record {
      spent = rw (le-leb 1 t low, touches_at_lem w good y f a t) v.spent;
      answers = λ q. rw (le-leb 1 t low) (v.answers q);
      cleared = v.cleared;
      none = v.none;
    }
