-- The tally of names while the lists are looked at: one posting more puts one more at its name's place, and nothing anywhere else.
-- Cited by the proofs of `list_good` and `lists_good`.
-- Assumes nothing.
use mathlib.Core.Path.{◌≡◌, sym, ap, subst, ◌∙◌}
use mathlib.Core.Logic.{⊎_elim}
use mathlib.Core.Bool.{Bool, true, false, cond, ◌&&◌, ◌||◌, or-true, or-false}
use mathlib.Core.List.{List, [], ◌∷◌, ◌++◌}
use Prim.Native.Nat.{ℕ, ◌+◌, ◌-◌, ◌≤◌, ◌<◌}
use native.Mathlib.Numerals.{add-one}
use native.Mathlib.Omega.{arith}
use lib.ListN.{length, get_or, take, drop, set, replicate, length-take, get_or-replicate}
use lib.Seq.{take-suc, take_all, get_or-take, get_or-set_same, get_or-set_other}
use lib.Dec.{ltb, eqb}
use borrow.Author.Tests.{lt-ltb, ltb-true, eq-eqb, ne_eqb, eqb-true}
use Rattle.laws.specs.Lists.{member}
use Rattle.laws.specs.Below.{all_below, sum_below, count_below}
use Rattle.laws.proofs.Lists.{member_append}
use Rattle.laws.proofs.Below.{and_both, and_left, and_right, and_false_left, and_false_right, all_nil, all_at, all_ext, all_fails, any_of, any_none, sum_below_step, count_below_most}
use Rattle.laws.proofs.FirstFound.{all_more, pairs_more}
use Rattle.laws.proofs.Order.{eq_or_ne}
use Rattle.laws.proofs.Tests.{test_fails}
use Rattle.laws.proofs.Ascending.{rises, rises_apart, member_nowhere}
use Rattle.words.specs.Words.{name_count, row_count, name_id, name_size, row_size, row_place, row_length, posting, postings_start, list_at}
use Rattle.index.specs.Good.{most_names, is_name, list_good, lists_with, lists_good}
use Rattle.index.specs.Check.{Checked, Tallied, NameAt}
use Rattle.index.proofs.Facts.{head_facts, names_facts, rows_facts, list_within, length_list, list_get_d}

-- ---- an id is a name of a size where it has a place

named_found : (w : List ℕ) (y id at : ℕ) → NameAt w y id at → is_name w y id ≡ true
unfolding is_name
named_found w y id at n =
    any_of (name_count w) _ at n.within (and_both _ _ (eq-eqb (name_id w at) id n.id_is) (eq-eqb (name_size w at) y n.size_is))

named_missing : (w : List ℕ) (y id : ℕ) → ((at : ℕ) → NameAt w y id at → ⊥) → is_name w y id ≡ false
unfolding is_name
named_missing w y id none =
    any_none (name_count w) _
    (λ i l.
    test_fails (eqb (name_id w i) id && eqb (name_size w i) y)
    (λ e.
    none i
    record {
      within = l;
      id_is = eqb-true (name_id w i) id (and_left (eqb (name_id w i) id) (eqb (name_size w i) y) e);
      size_is = eqb-true (name_size w i) y (and_right (eqb (name_id w i) id) (eqb (name_size w i) y) e);
    }))

-- how many of the first r lists hold the name at i
abbrev pub rows_holding : List ℕ → ℕ → ℕ → ℕ
rows_holding w r i = count_below r (λ (s : ℕ). member (name_id w i) (list_at w s))

holding_most : (w : List ℕ) (r i : ℕ) → rows_holding w r i ≤ r
holding_most w r i = count_below_most r (λ (s : ℕ). member (name_id w i) (list_at w s))

module _ (w : List ℕ) (r : ℕ) where
  -- the k-th id of row r
  abbrev pub id_at : ℕ → ℕ
  id_at k = posting w (row_place w r + k)

  abbrev pub next_at : ℕ → Bool
  next_at k = ltb (posting w (row_place w r + k)) (posting w (row_place w r + (k + 1)))

  abbrev pub named_at : ℕ → Bool
  named_at k = is_name w (row_size w r) (posting w (row_place w r + k))

  -- what was looked at of the first k ids of row r's list, and the tally then
  pub record ListTo (k : ℕ) (tally : List ℕ) : Type 0 where
    pub within : k ≤ row_length w r
    pub next : all_below (k - 1) next_at ≡ true
    pub named : all_below k named_at ≡ true
    pub counts : (i : ℕ) → i < name_count w → get_or tally i 0 ≡ rows_holding w r i + cond (member (name_id w i) (take k (list_at w r))) 1 0

  pub list_start_lem : (tally : List ℕ) → Tallied w r tally → ListTo 0 tally
  unfolding Tallied member
  list_start_lem tally t =
      record {
        within = omega arith;
        next = all_nil next_at;
        named = all_nil named_at;
        counts = λ i l. let e = t i l in omega arith;
      }

  pub list_out : (k : ℕ) → k < row_length w r → 0 < k → id_at k ≤ id_at (k - 1) → list_good w r ≡ false
  unfolding list_good
  list_out k l p h =
      let j : row_place w r + (k - 1 + 1) ≡ row_place w r + k = omega arith in
      let e = ap (posting w) j in
      and_false_left _ _
      (all_fails (row_length w r - 1) next_at (k - 1) (omega arith)
      (test_fails (next_at (k - 1)) (λ t. let u = ltb-true (posting w (row_place w r + (k - 1))) (posting w (row_place w r + (k - 1 + 1))) t in omega arith)))

  pub list_unnamed : (k : ℕ) → k < row_length w r → ((at : ℕ) → NameAt w (row_size w r) (id_at k) at → ⊥) → list_good w r ≡ false
  unfolding list_good
  list_unnamed k l h =
      and_false_right (all_below (row_length w r - 1) next_at) (all_below (row_length w r) named_at)
      (all_fails (row_length w r) named_at k l (named_missing w (row_size w r) (id_at k) h))

module _ (w : List ℕ) (good : Checked w) (r : ℕ) (row : r < row_count w) where
  list_long : length (list_at w r) ≡ row_length w r
  list_long = length_list w (rows_facts w good.rows) r row (head_facts w good.named.head).within

  -- one posting more, in front of which the others ascend
  module _ (k : ℕ) (tally : List ℕ) (sofar : ListTo w r k tally) (more : k < row_length w r) (above : 0 < k → id_at w r (k - 1) < id_at w r k) where
    next_more : all_below (k + 1 - 1) (next_at w r) ≡ true
    next_more =
        pairs_more (next_at w r) k sofar.next
        (λ p.
        let j : row_place w r + (k - 1 + 1) ≡ row_place w r + k = omega arith in
        let h = above p in
        let e = ap (posting w) j in
        lt-ltb (posting w (row_place w r + (k - 1))) (posting w (row_place w r + (k - 1 + 1))) (omega arith))

    take_more : take (k + 1) (list_at w r) ≡ take k (list_at w r) ++ (id_at w r k ∷ [])
    take_more =
        let n = list_long in
        ap (λ (m : ℕ). take m (list_at w r)) (add-one k)
        ∙ take-suc (list_at w r) k 0 (omega arith)
        ∙ ap (λ (x : ℕ). take k (list_at w r) ++ (x ∷ [])) (list_get_d w r k more)

    -- it was not there before
    fresh : member (id_at w r k) (take k (list_at w r)) ≡ false
    fresh =
        member_nowhere (id_at w r k) (take k (list_at w r))
        (λ i l e.
        let n = list_long in
        let m : length (take k (list_at w r)) ≤ k = simp length-take (omega arith) in
        let a = get_or-take k (list_at w r) i 0 (omega arith) in
        let b = list_get_d w r i (omega arith) in
        let up = rises (k + 1) (id_at w r) (λ j h. ltb-true _ _ (all_at (k + 1 - 1) (next_at w r) next_more j (omega arith))) i k (omega arith) (omega arith) in
        omega arith)

    module _ (at : ℕ) (found : NameAt w (row_size w r) (id_at w r k) at) where
      at_before : get_or tally at 0 ≡ rows_holding w r at
      at_before =
          let e = sofar.counts at found.within in
          let f : member (name_id w at) (take k (list_at w r)) ≡ false = ap (λ (x : ℕ). member x (take k (list_at w r))) found.id_is ∙ fresh in
          let g : rows_holding w r at + cond (member (name_id w at) (take k (list_at w r))) 1 0 ≡ rows_holding w r at + 0 =
          ap (λ (b : Bool). rows_holding w r at + cond b 1 0) f in
          omega arith

      -- the number there is at most the rows looked at
      pub tally_most : get_or tally at 0 ≤ r
      tally_most = let e = at_before in let h = holding_most w r at in omega arith

      member_more : (x : ℕ) → member x (take (k + 1) (list_at w r)) ≡ member x (take k (list_at w r)) || (eqb x (id_at w r k) || false)
      unfolding member
      member_more x = ap (member x) take_more ∙ member_append x (take k (list_at w r)) (id_at w r k ∷ [])

      pub list_more : name_count w ≤ length tally → ListTo w r (k + 1) (set tally at (get_or tally at 0 + 1))
      list_more long =
          record {
            within = omega arith;
            next = next_more;
            named = all_more (named_at w r) k sofar.named (named_found w (row_size w r) (id_at w r k) at found);
            counts = counts;
          }
        where
          ids : (i j : ℕ) → i < j → j < name_count w → name_id w i < name_id w j
          ids = rises (name_count w) (name_id w) (names_facts w good.named.names).next

          same : get_or (set tally at (get_or tally at 0 + 1)) at 0 ≡ rows_holding w r at + cond (member (name_id w at) (take (k + 1) (list_at w r))) 1 0
          same =
              let long' : at < length tally = omega (arith, found.within) in
              let a = get_or-set_same tally at (get_or tally at 0 + 1) 0 long' in
              let b = at_before in
              let m : member (name_id w at) (take (k + 1) (list_at w r)) ≡ true =
              member_more (name_id w at) ∙ rw (eq-eqb (name_id w at) (id_at w r k) found.id_is) (or-true (member (name_id w at) (take k (list_at w r)))) in
              let c : rows_holding w r at + cond (member (name_id w at) (take (k + 1) (list_at w r))) 1 0 ≡ rows_holding w r at + 1 =
              ap (λ (b : Bool). rows_holding w r at + cond b 1 0) m in
              omega arith

          other : (i : ℕ) → i < name_count w → (i ≡ at → ⊥) → get_or (set tally at (get_or tally at 0 + 1)) i 0 ≡ rows_holding w r i + cond (member (name_id w i) (take (k + 1) (list_at w r))) 1 0
          other i l n =
              let apart : name_id w i ≡ id_at w r k → ⊥ = λ e. n (rises_apart (name_count w) (name_id w) ids i at l found.within (e ∙ sym found.id_is)) in
              let m : member (name_id w i) (take (k + 1) (list_at w r)) ≡ member (name_id w i) (take k (list_at w r)) =
              member_more (name_id w i) ∙ rw (ne_eqb (name_id w i) (id_at w r k) apart) (or-false (member (name_id w i) (take k (list_at w r)))) in
              get_or-set_other tally at i (get_or tally at 0 + 1) 0 n
              ∙ sofar.counts i l
              ∙ ap (λ (b : Bool). rows_holding w r i + cond b 1 0) (sym m)

          counts : (i : ℕ) → i < name_count w → get_or (set tally at (get_or tally at 0 + 1)) i 0 ≡ rows_holding w r i + cond (member (name_id w i) (take (k + 1) (list_at w r))) 1 0
          counts i l = ⊎_elim (λ (e : i ≡ at). subst (λ (j : ℕ). get_or (set tally at (get_or tally at 0 + 1)) j 0 ≡ rows_holding w r j + cond (member (name_id w j) (take (k + 1) (list_at w r))) 1 0) (sym e) same) (λ (n : i ≡ at → ⊥). other i l n) (eq_or_ne i at)

  pub list_whole : (k : ℕ) (tally : List ℕ) → ListTo w r k tally → row_length w r ≤ k → (list_good w r ≡ true) × Tallied w (r + 1) tally
  unfolding list_good Tallied
  list_whole k tally s l =
      let h = s.within in
      let e : k ≡ row_length w r = omega arith in
      let n = list_long in
      let t : take k (list_at w r) ≡ list_at w r = take_all k (list_at w r) (omega arith) in (
        and_both _ _ (ap (λ (m : ℕ). all_below (m - 1) (next_at w r)) (sym e) ∙ s.next) (ap (λ (m : ℕ). all_below m (named_at w r)) (sym e) ∙ s.named),
        λ i l.
            s.counts i l
            ∙ ap (λ (x : List ℕ). rows_holding w r i + cond (member (name_id w i) x) 1 0) t
            ∙ sym (sum_below_step (λ (s : ℕ). cond (member (name_id w i) (list_at w s)) 1 0) r),
      )

  -- ---- the part of the words that the code looks at is the row's list

  module _ (s p n : ℕ) (start : s ≡ postings_start w) (place : p ≡ row_place w r) (count : n ≡ row_length w r) where
    pub part_within : s + p + n ≤ length w
    part_within =
        let within = (head_facts w good.named.head).within in
        let list = list_within w (rows_facts w good.rows) r row in
        omega arith

    part_list : take (s + p + n - (s + p)) (drop (s + p) w) ≡ list_at w r
    unfolding list_at
    part_list =
        let k : s + p + n - (s + p) ≡ row_length w r = omega arith in
        rw (k, start, place)

    pub part_long : length (take (s + p + n - (s + p)) (drop (s + p) w)) ≡ row_length w r
    part_long = ap length part_list ∙ list_long

    -- its k-th word is the row's k-th id
    pub part_id : (k : ℕ) → k < length (take (s + p + n - (s + p)) (drop (s + p) w))
        → (k < row_length w r) × (get_or (take (s + p + n - (s + p)) (drop (s + p) w)) k 0 ≡ id_at w r k)
    part_id k l =
        let h : k < row_length w r = omega (arith, part_long) in
        (h, ap (λ (x : List ℕ). get_or x k 0) part_list ∙ list_get_d w r k h)

-- ---- the whole

-- before any row, every number of the tally is 0
pub tally_zero : (w : List ℕ) → name_count w ≤ most_names → Tallied w 0 (replicate most_names 0)
unfolding Tallied sum_below
tally_zero w h i l = get_or-replicate most_names i 0 0 (omega arith)

pub lists_bad : (w : List ℕ) → all_below (row_count w) (list_good w) ≡ false → lists_good w ≡ false
unfolding lists_good
lists_bad w e = and_false_left _ _ e

-- after the last row, the numbers that the tally has are compared with the sizes
pub lists_last : (w tally : List ℕ) → all_below (row_count w) (list_good w) ≡ true → Tallied w (row_count w) tally
    → all_below (name_count w) (λ (i : ℕ). eqb (get_or tally i 0) (name_size w i)) ≡ lists_good w
unfolding lists_good lists_with Tallied
lists_last w tally e t =
    rw e
    (all_ext (name_count w) (λ (i : ℕ). eqb (get_or tally i 0) (name_size w i)) (λ (i : ℕ). eqb (rows_holding w (row_count w) i) (name_size w i))
    (λ i l. ap (λ (n : ℕ). eqb n (name_size w i)) (t i l)))
