-- The answers by place, one size at a time, by a table of least counts. Cited by Upward.antt and by `search`.
-- Assumes nothing.
use mathlib.Core.Path.{◌≡◌, refl, sym, ap, ap₂, ◌∙◌}
use mathlib.Core.Logic.{⊎_elim}
use mathlib.Core.Bool.{Bool, true, false, cond}
use mathlib.Core.List.{List}
use Prim.Native.Nat.{ℕ, ◌+◌, ◌≤◌, ◌<◌}
use native.Mathlib.Omega.{arith}
use lib.ListN.{length, get_or, take, replicate, length-replicate, get_or-replicate}
use lib.Dec.{ltb, leb}
use borrow.Author.Tests.{lt-ltb, le-ltb, le-leb, lt-leb, ltb-true}
use Rattle.laws.proofs.Lists.{length_tabulate, get_d_tabulate, tabulate_ext}
use Rattle.laws.proofs.Below.{and_false_right}
use Rattle.laws.proofs.Tables.{table_of}
use Rattle.laws.proofs.Order.{le_or_lt, eq_or_ne}
use Rattle.words.specs.Words.{name_count, name_id, name_size}
use Rattle.index.specs.Good.{Good, most_names, ids_in}
use Rattle.candidates.specs.Method.{held_by, signatures, remains, later_count}
use Rattle.candidates.specs.Tables.{kept, remains_at, remain_table}
use Rattle.candidates.proofs.Candidates.{held_all}
use Rattle.candidates.proofs.Counts.{remain_those, remain_value, at_remains, at_absent}
use Rattle.sizes.specs.Method.{lists_for, shared_with}
use Rattle.sizes.specs.Tables.{Asked, answers_for, listed_by, answered_at, answers_table}
use Rattle.sizes.proofs.Laws.{length_lists}
use Rattle.sizes.proofs.Size.{length_ids, id_at_lem, remains_size}

-- another size is below y + 1 exactly if it is below y
same_below : (y s : ℕ) → (s ≡ y → ⊥) → ltb s (y + 1) ≡ ltb s y
same_below y s n =
    ⊎_elim
    (λ (h : y ≤ s). le-ltb s (y + 1) (omega arith) ∙ sym (le-ltb s y h))
    (λ (h : s < y). lt-ltb s (y + 1) (omega arith) ∙ sym (lt-ltb s y h))
    (le_or_lt y s)

module _ (w leasts f : List ℕ) where
  -- the answer's count at a place of the table
  abbrev count_at : ℕ → ℕ → ℕ
  count_at y i = cond (answered_at w leasts f y i) (shared_with w f i) 0

  -- where no name of size y at the place is an answer, those below y + 1 are those below y
  answered_same : (y i : ℕ) → (i < name_count w → name_size w i ≡ y → listed_by w leasts f i ≡ false) → answered_at w leasts f y i ≡ answered_at w leasts f (y + 1) i
  unfolding answered_at
  answered_same y i n =
      ⊎_elim
      (λ (h : name_count w ≤ i). rw (le-ltb i (name_count w) h))
      (λ (h : i < name_count w).
      ⊎_elim
      (λ (e : name_size w i ≡ y). rw (n h e, and_false_right (ltb (name_size w i) y) false refl, and_false_right (ltb (name_size w i) (y + 1)) false refl))
      (λ (e : name_size w i ≡ y → ⊥). rw (same_below y (name_size w i) e))
      (eq_or_ne (name_size w i) y))
      (le_or_lt (name_count w) i)

  -- a size whose least count is 0 adds no answer
  answers_idle : (y : ℕ) → leb 1 (get_or leasts y 0) ≡ false → answers_table w leasts f y ≡ answers_table w leasts f (y + 1)
  unfolding answers_table listed_by
  answers_idle y z =
      tabulate_ext (count_at y) (count_at (y + 1)) most_names
      (λ i h. ap (λ (b : Bool). cond b (shared_with w f i) 0) (answered_same y i (λ k e. rw (e, z))))

  module _ (good : Good w) (a : Asked f) (y : ℕ) (low : 1 ≤ get_or leasts y 0) (high : get_or leasts y 0 ≤ length f) where
    abbrev ls : List (List ℕ)
    ls = lists_for w y f

    abbrev t : ℕ
    t = get_or leasts y 0

    abbrev d : ℕ
    d = later_count ls t

    enough : t ≤ length ls
    enough = let n = length_lists w y f in omega arith

    -- a name of the size is an answer exactly if it remains
    listed_remains : (i : ℕ) → name_size w i ≡ y → listed_by w leasts f i ≡ remains ls t d (name_id w i)
    unfolding listed_by
    listed_remains i e = rw (e, le-leb 1 t low)

    -- all lists are counted at the end
    count_end : (i : ℕ) → i < name_count w → held_by (take (signatures (length ls) t + d) ls) (get_or (ids_in w) i 0) ≡ held_by ls (name_id w i)
    count_end i h =
        let n = enough in
        held_all ls (get_or (ids_in w) i 0) (signatures (length ls) t + d) (omega arith) ∙ ap (held_by ls) (id_at_lem w i h)

    at_place : (i : ℕ) → (b : Bool) → remains_at (ids_in w) ls t d i ≡ b
        → cond b (cond b (held_by (take (signatures (length ls) t + d) ls) (get_or (ids_in w) i 0)) 0) (count_at y i) ≡ count_at (y + 1) i
    at_place i true e =
        let r = at_remains (ids_in w) ls t d i e in
        let k : i < name_count w = (let u = ltb-true i (length (ids_in w)) r.0 in let n = length_ids w in omega arith) in
        let v : remains ls t d (name_id w i) ≡ true = ap (remains ls t d) (sym (id_at_lem w i k)) ∙ r.1 in
        let s : name_size w i ≡ y = remains_size w good y f a t d i k v in
        count_end i k ∙ sym (ap₂ (λ (b : Bool) (c : ℕ). cond b c 0) (answered k s (listed_remains i s ∙ v)) (shared s))
      where
        answered : i < name_count w → name_size w i ≡ y → listed_by w leasts f i ≡ true → answered_at w leasts f (y + 1) i ≡ true
        answered k s l = unfold answered_at in (rw (lt-ltb i (name_count w) k, lt-ltb (name_size w i) (y + 1) (omega arith), l))

        shared : name_size w i ≡ y → shared_with w f i ≡ held_by ls (name_id w i)
        shared s = unfold shared_with in (rw s)
    at_place i false e =
        ap (λ (b : Bool). cond b (shared_with w f i) 0)
        (answered_same y i
        (λ k s.
        listed_remains i s
        ∙ ap (remains ls t d) (sym (id_at_lem w i k))
        ∙ at_absent (ids_in w) ls t d i (lt-ltb i (length (ids_in w)) (rw (length_ids w) k)) e))

    -- any other puts its answers among those of the sizes below
    answers_sized : kept (remain_table (ids_in w) ls t d) (answers_table w leasts f y) ≡ answers_table w leasts f (y + 1)
    unfolding kept answers_table
    answers_sized =
        tabulate_ext _ (count_at (y + 1)) most_names
        (λ i h.
        let n = enough in
        let one = remain_those (ids_in w) ls t low enough d (let k : d ≤ d = omega arith in k) i h in
        let value = remain_value (ids_in w) ls t d i h in
        let old = get_d_tabulate (count_at y) most_names i 0 h in
        rw (one, value, old) (at_place i (remains_at (ids_in w) ls t d i) refl))

  -- the answers of one size more
  pub answers_next : Good w → Asked f → (y : ℕ) → get_or leasts y 0 ≤ length f
      → answers_for w y f (get_or leasts y 0) (answers_table w leasts f y) ≡ answers_table w leasts f (y + 1)
  unfolding answers_for
  answers_next good a y high =
      ⊎_elim
      (λ (h : get_or leasts y 0 ≤ 0). let z = lt-leb 1 (get_or leasts y 0) (omega arith) in rw z (answers_idle y z))
      (λ (h : 1 ≤ get_or leasts y 0). rw (le-leb 1 (get_or leasts y 0) h) (answers_sized good a y h high))
      (le_or_lt (get_or leasts y 0) 0)

  -- ---- no size yet

  pub answers_none : replicate {A = ℕ} most_names 0 ≡ answers_table w leasts f 0
  unfolding answers_table answered_at
  answers_none =
      table_of (replicate most_names 0) most_names (count_at 0) (length-replicate {A = ℕ} most_names 0)
      (λ i h. get_or-replicate most_names i 0 0 h ∙ sym (rw (le-ltb (name_size w i) 0 (omega arith), and_false_right (ltb i (name_count w)) false refl)))

  pub length_answers : (y : ℕ) → length (answers_table w leasts f y) ≡ most_names
  unfolding answers_table
  length_answers y = length_tabulate (count_at y) most_names
