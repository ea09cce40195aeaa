-- Where a name stands, found by a binary search of the names' words. Cited by the proofs of `name_seat`, `name_for`, `is_name`,
-- `name_near` and `guess_names`.
-- Assumes nothing.
use mathlib.Core.Path.{◌≡◌, refl, sym, ap, ◌∙◌}
use mathlib.Core.Logic.{⊎_elim}
use mathlib.Core.Bool.{Bool, true, cond, ◌&&◌, false≢true}
use mathlib.Core.List.{List}
use Prim.Native.Nat.{ℕ, ◌+◌, ◌*◌, ◌/◌, ◌≤◌, ◌<◌}
use native.Mathlib.Nat.{eq-or-lt_of_le, zero-add}
use native.Mathlib.Omega.{arith}
use lib.ListN.{length, get_or}
use lib.Dec.{ltb, eqb}
use borrow.Author.Tests.{lt-ltb, ltb-true, eq-eqb, eqb-true}
use Rattle.laws.specs.Lists.{Ascending}
use Rattle.laws.specs.Below.{count_below}
use Rattle.laws.proofs.Lists.{length_tabulate, get_d_tabulate}
use Rattle.laws.proofs.Below.{and_both, and_left, and_right, sum_below_ext}
use Rattle.laws.proofs.Ascending.{rises, rises_apart, member_get_d}
use Rattle.laws.proofs.Images.{count_tabulate, ascending_tabulate}
use Rattle.laws.proofs.FirstFound.{first_is, first_none}
use Rattle.laws.proofs.BinarySearch.{count_below_place}
use Rattle.laws.proofs.Tests.{same_test}
use Rattle.binary_search.specs.declared.Seat.TheVariants.{At, Before}
use Rattle.binary_search.specs.Column.{column_at, Rising}
use Rattle.binary_search.specs.Seats.{place_of, seat_of}
use Rattle.binary_search.proofs.Seats.{seat_met, seat_not_met, seat_stands, seat_missing}
use Rattle.words.specs.Words.{name_count, names_start, name_start, name_width, size_room, name_word, name_id, name_size}
use Rattle.index.specs.Good.{largest_id, ids_in}
use Rattle.index.specs.Check.{Named, name_for}
use Rattle.index.proofs.Facts.{head_facts, names_facts}

module _ (w : List ℕ) (good : Named w) where
  ids_rise : (i j : ℕ) → i < j → j < name_count w → name_id w i < name_id w j
  ids_rise = rises (name_count w) (name_id w) (names_facts w good.names).next

  pub names_within : name_start (name_count w) ≤ length w
  names_within = let h = (head_facts w good.head).within in omega arith

  -- ---- the column of the names' words

  word_at_lem : (i : ℕ) → column_at w names_start name_width i ≡ name_word w i
  unfolding column_at name_word
  word_at_lem i = refl

  -- it can be searched
  pub names_searched : (n : ℕ) → n ≡ name_count w
      → (n ≤ length w) × ((i : ℕ) → i < n → names_start + name_width * i < length w) × Rising (column_at w names_start name_width) n
  unfolding Rising name_id
  names_searched n e =
      let h = (head_facts w good.head).within in (
        omega arith,
        λ i l. omega arith,
        λ i j l m.
            let a = word_at_lem i in
            let b = word_at_lem j in
            ⊎_elim
            (λ (p : i ≡ j). let c = ap (name_word w) p in (let z : column_at w names_start name_width i ≤ column_at w names_start name_width j = omega arith in z))
            (λ (p : i < j). let c = ids_rise i j p (omega arith) in (let z : column_at w names_start name_width i ≤ column_at w names_start name_width j = omega arith in z))
            (eq-or-lt_of_le l),
      )

  -- and the search finds how many ids are below one by the least word that a name of the id can have
  pub place_words : (n id r : ℕ) → n ≡ name_count w → r ≡ count_below n (λ (i : ℕ). ltb (column_at w names_start name_width i) (size_room * id)) → r ≡ place_of id (ids_in w)
  unfolding ids_in name_id
  place_words n id r e f =
      f
      ∙ ap (λ (k : ℕ). count_below k (λ (i : ℕ). ltb (column_at w names_start name_width i) (size_room * id))) e
      ∙ sum_below_ext (name_count w) _ _
      (λ i l.
      ap (λ (b : Bool). cond b 1 0)
      (ap (λ (x : ℕ). ltb x (size_room * id)) (word_at_lem i)
      ∙ same_test (ltb (name_word w i) (size_room * id)) (ltb (name_word w i / size_room) id)
      (λ e. let h = ltb-true (name_word w i) (size_room * id) e in lt-ltb (name_word w i / size_room) id (omega arith))
      (λ e. let h = ltb-true (name_word w i / size_room) id e in lt-ltb (name_word w i) (size_room * id) (omega arith))))
      ∙ sym (count_tabulate (λ (x : ℕ). ltb x id) (name_id w) (name_count w))

  -- all ids are below one that is too large
  pub place_large : (id : ℕ) → largest_id < id → name_count w ≡ place_of id (ids_in w)
  unfolding ids_in
  place_large id h =
      sym
      (count_tabulate (λ (x : ℕ). ltb x id) (name_id w) (name_count w)
      ∙ count_below_place (λ (i : ℕ). ltb (name_id w i) id) (name_count w) (name_count w) (omega arith)
      (λ i l. let m = (names_facts w good.names).id i l in lt-ltb (name_id w i) id (omega arith))
      (λ i l m. absurd (omega arith)))

  -- ---- the seat of an id

  ids_up : Ascending (ids_in w)
  unfolding ids_in
  ids_up = ascending_tabulate (name_id w) (name_count w) (names_facts w good.names).next

  many : length (ids_in w) ≡ name_count w
  unfolding ids_in
  many = length_tabulate (name_id w) (name_count w)

  id_at_lem : (i : ℕ) → i < name_count w → get_or (ids_in w) i 0 ≡ name_id w i
  unfolding ids_in
  id_at_lem i = get_d_tabulate (name_id w) (name_count w) i 0

  module _ (id i : ℕ) where
    pub seat_name : i < name_count w → name_id w i ≡ id → At i ≡ seat_of (ids_in w) id
    seat_name l e = seat_met (ids_in w) id i ids_up (rw many l) (id_at_lem i l ∙ e)

    pub seat_no_name : i ≡ place_of id (ids_in w) → (i < name_count w → name_id w i ≡ id → ⊥) → Before i ≡ seat_of (ids_in w) id
    seat_no_name e n =
        seat_not_met (ids_in w) id i ids_up e
        (λ l q. let m = many in let h : i < name_count w = omega arith in n h (sym (id_at_lem i h) ∙ q))

    pub seat_of_name : seat_of (ids_in w) id ≡ At i → (i < name_count w) × (name_id w i ≡ id)
    seat_of_name e =
        let s = seat_stands (ids_in w) id i ids_up e in
        let m = many in
        let l = s.0 in
        let h : i < name_count w = omega arith in
        (h, sym (id_at_lem i h) ∙ s.1)

    pub seat_of_none : seat_of (ids_in w) id ≡ Before i → (j : ℕ) → j < name_count w → name_id w j ≡ id → ⊥
    seat_of_none e j l q =
        let p = (seat_missing (ids_in w) id i e).0 in
        false≢true (sym p ∙ member_get_d id (ids_in w) j (rw many l) (id_at_lem j l ∙ q))

  -- two names of one id are one
  pub one_name : (i j : ℕ) → i < name_count w → j < name_count w → name_id w i ≡ name_id w j → i ≡ j
  one_name = rises_apart (name_count w) (name_id w) ids_rise

  -- ---- the name of an id and a size

  module _ (y id : ℕ) where
    test : ℕ → Bool
    test i = eqb (name_id w i) id && eqb (name_size w i) y

    parts : (i : ℕ) → test i ≡ true → (name_id w i ≡ id) × (name_size w i ≡ y)
    unfolding test
    parts i e =
        let a = eqb (name_id w i) id in
        let b = eqb (name_size w i) y in
        (eqb-true (name_id w i) id (and_left a b e), eqb-true (name_size w i) y (and_right a b e))

    -- none
    pub for_none : ((i : ℕ) → i < name_count w → name_id w i ≡ id → name_size w i ≡ y → ⊥) → name_count w ≡ name_for w y id
    unfolding name_for test
    for_none n =
        sym
        (first_none test (name_count w) 0 (λ m l k e. let p = parts m e in n m (omega arith) p.0 p.1)
        ∙ zero-add (name_count w))

    -- one that has both is it, however it was come by
    pub for_met : (i : ℕ) → i < name_count w → name_id w i ≡ id → name_size w i ≡ y → i ≡ name_for w y id
    unfolding name_for test
    for_met i l p q =
        sym
        (first_is test (name_count w) 0 i (omega arith) (omega arith) (and_both _ _ (eq-eqb _ _ p) (eq-eqb _ _ q))
        (λ m k h e. let a = ids_rise m i h l in let b = (parts m e).0 in omega arith))

    -- the name of the id has another size
    pub for_size : (i : ℕ) → i < name_count w → name_id w i ≡ id → (name_size w i ≡ y → ⊥) → name_count w ≡ name_for w y id
    for_size i l p n =
        for_none (λ j m e q. n (ap (name_size w) (sym (rises_apart (name_count w) (name_id w) ids_rise j i m l (e ∙ sym p))) ∙ q))
