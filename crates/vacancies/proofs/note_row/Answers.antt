-- `note_row` meets its contract: where the row's list lacks the id nothing changes; else its place and the count are stored, and where the
-- id was alone, the places of the row's words.
use mathlib.Core.Path.{◌≡◌, refl, sym, ap, ap₂, ◌∙◌}
use mathlib.Core.Bool.{true, false}
use mathlib.Core.List.{[], ◌∷◌, ◌++◌, append-nil}
use Prim.Native.Nat.{ℕ, ◌+◌, ◌-◌, ◌<◌}
use native.Mathlib.Nat.{add-zero}
use native.Mathlib.Omega.{arith}
use lib.ListN.{length, take, set}
use borrow.Author.Tests.{eq-eqb, ne_eqb}
use Rattle.laws.proofs.Tests.{test_fails}
use Rattle.words.specs.Words.{length_column, row_start, row_place, row_length, list_at}
use Rattle.binary_search.specs.Seats.{place_of}
use Rattle.binary_search.proofs.Seats.{seat_missing}
use Rattle.vacancies.specs.Steps.{holds_id}
use Rattle.vacancies.proofs.Laws.{take_behind, take_sets, held}
use borrow.Author.Rules.{rules}
use Rattle.vacancies.proofs.note_row.Goals as goal

pub returns-then-row_size-size : goal.returns-then-row_size-size
returns-then-row_size-size c =
    let a = c.args in
    let n : holds_id a.words.now a.r a.id ≡ false = test_fails _ (λ m. c.if-row_size-size.true (c.row_size.ensures ∙ c.requires.1 m)) in
    rw n (refl, sym (add-zero a.k), sym (append-nil (take a.k a.postings.now)), sym (add-zero a.n), sym (append-nil (take a.n a.at.now)))

pub returns-in_default : goal.returns-in_default
returns-in_default c =
    let a = c.args in
    let n = (seat_missing (list_at a.words.now a.r) a.id _ (sym c.id_seat-seat.ensures ∙ c.in_default.is)).0 in
    rw n (refl, sym (add-zero a.k), sym (append-nil (take a.k a.postings.now)), sym (add-zero a.n), sym (append-nil (take a.n a.at.now)))

-- the id's place
abbrev place : goal.After-row_place → ℕ
place c = c.in-At.place

-- what is known where the row's list holds the id
found : (c : goal.After-row_place)
    → let a = c.args in
    (holds_id a.words.now a.r a.id ≡ true)
    × (place c ≡ place_of a.id (list_at a.words.now a.r))
    × (place c < c.row_length-count.result)
    × (a.k < length a.postings.now)
found c =
    let a = c.args in
    let h = held a.words.now a.r a.id c.requires.0 (place c) (sym c.id_seat-seat.ensures ∙ c.in-At.is) in
    let e = c.row_length-count.ensures.0 in
    let l = h.2 in
    (h.0, h.1, omega arith, c.requires.3 h.0)

pub overflow_add-postings : goal.overflow_add-postings
overflow_add-postings c = let f = found c in search rules

pub overflow_cast-postings : goal.overflow_cast-postings
overflow_cast-postings c = let f = found c in search rules

pub offset_bounds-postings-k : goal.offset_bounds-postings-k
offset_bounds-postings-k c = let f = found c in search rules

pub bounds-postings-k : goal.bounds-postings-k
bounds-postings-k c = (found c).3

-- `place`, at another place
abbrev place-2 : goal.After-row_start-row → ℕ
place-2 c = c.in-At.place

-- `found`, at another place
found-2 : (c : goal.After-row_start-row)
    → let a = c.args in
    (holds_id a.words.now a.r a.id ≡ true)
    × (place-2 c ≡ place_of a.id (list_at a.words.now a.r))
    × (place-2 c < c.row_length-count.result)
    × (a.k < length a.postings.now)
found-2 c =
    let a = c.args in
    let h = held a.words.now a.r a.id c.requires.0 (place-2 c) (sym c.id_seat-seat.ensures ∙ c.in-At.is) in
    let e = c.row_length-count.ensures.0 in
    let l = h.2 in
    (h.0, h.1, omega arith, c.requires.3 h.0)

pub overflow_sub-words : goal.overflow_sub-words
overflow_sub-words c = let f = found-2 c in search rules

-- `place`, at another place
abbrev place-3 : goal.After-slice_known-then-count-eq1-1 → ℕ
place-3 c = c.in-At.place

-- `found`, at another place
found-3 : (c : goal.After-slice_known-then-count-eq1-1)
    → let a = c.args in
    (holds_id a.words.now a.r a.id ≡ true)
    × (place-3 c ≡ place_of a.id (list_at a.words.now a.r))
    × (place-3 c < c.row_length-count.result)
    × (a.k < length a.postings.now)
found-3 c =
    let a = c.args in
    let h = held a.words.now a.r a.id c.requires.0 (place-3 c) (sym c.id_seat-seat.ensures ∙ c.in-At.is) in
    let e = c.row_length-count.ensures.0 in
    let l = h.2 in
    (h.0, h.1, omega arith, c.requires.3 h.0)

pub overflow_add-result-then-count-eq1 : goal.overflow_add-result-then-count-eq1
overflow_add-result-then-count-eq1 c = let f = found-3 c in search rules

-- the two stores
stored : (c : goal.After-slice_known-then-count-eq1-1)
    → let a = c.args in
    (set c.args.words.now (c.row_start-row.result + 3) (c.row_length-count.result - 1) ≡ set c.args.words.now (row_start c.args.words.now a.r + length_column) (row_length c.args.words.now a.r - 1))
    × (take (a.k + 1) (set a.postings.now a.k (c.row_place.result + place-3 c))
    ≡ take a.k a.postings.now ++ ((row_place c.args.words.now a.r + place_of a.id (list_at c.args.words.now a.r)) ∷ []))
stored c =
    let a = c.args in
    let h = found-3 c in (
      ap₂ (λ (x y : ℕ). set c.args.words.now (x + 3) (y - 1)) c.row_start-row.ensures.0 c.row_length-count.ensures.0,
      take_behind c.args.postings.now a.k (c.row_place.result + place-3 c) h.3
          ∙ ap₂ (λ (x y : ℕ). take a.k c.args.postings.now ++ ((x + y) ∷ [])) c.row_place.ensures.0 h.1,
    )

pub returns-then-count-eq1 : goal.returns-then-count-eq1
returns-then-count-eq1 c =
    let a = c.args in
    let w = a.words.now in
    let one : row_length c.args.words.now a.r ≡ 1 = sym c.row_length-count.ensures.0 ∙ c.if-count-eq1.true in
    let m = (found-3 c).0 in
    let h = stored c in
    let room = c.requires.2 in
    rw (m, eq-eqb (row_length c.args.words.now a.r) 1 one) (
      h.0,
      refl,
      h.1,
      refl,
      take_sets a.at.now _ a.n _ c.put_places.ensures (omega arith)
          ∙ ap (λ (x : ℕ). take a.n a.at.now ++ (x ∷ (x + 1) ∷ (x + 2) ∷ (x + 3) ∷ [])) c.row_start-row.ensures.0,
    )

-- `place`, at another place
abbrev place-4 : goal.Else-count-eq1 → ℕ
place-4 c = c.in-At.place

-- `found`, at another place
found-4 : (c : goal.Else-count-eq1)
    → let a = c.args in
    (holds_id a.words.now a.r a.id ≡ true)
    × (place-4 c ≡ place_of a.id (list_at a.words.now a.r))
    × (place-4 c < c.row_length-count.result)
    × (a.k < length a.postings.now)
found-4 c =
    let a = c.args in
    let h = held a.words.now a.r a.id c.requires.0 (place-4 c) (sym c.id_seat-seat.ensures ∙ c.in-At.is) in
    let e = c.row_length-count.ensures.0 in
    let l = h.2 in
    (h.0, h.1, omega arith, c.requires.3 h.0)

pub overflow_add-result-2 : goal.overflow_add-result-2
overflow_add-result-2 c = let f = found-4 c in search rules

-- `stored`, at another place
stored-2 : (c : goal.Else-count-eq1)
    → let a = c.args in
    (set c.args.words.now (c.row_start-row.result + 3) (c.row_length-count.result - 1) ≡ set c.args.words.now (row_start c.args.words.now a.r + length_column) (row_length c.args.words.now a.r - 1))
    × (take (a.k + 1) (set a.postings.now a.k (c.row_place.result + place-4 c))
    ≡ take a.k a.postings.now ++ ((row_place c.args.words.now a.r + place_of a.id (list_at c.args.words.now a.r)) ∷ []))
stored-2 c =
    let a = c.args in
    let h = found-4 c in (
      ap₂ (λ (x y : ℕ). set c.args.words.now (x + 3) (y - 1)) c.row_start-row.ensures.0 c.row_length-count.ensures.0,
      take_behind c.args.postings.now a.k (c.row_place.result + place-4 c) h.3
          ∙ ap₂ (λ (x y : ℕ). take a.k c.args.postings.now ++ ((x + y) ∷ [])) c.row_place.ensures.0 h.1,
    )

pub returns : goal.returns
returns c =
    let a = c.args in
    let more : row_length c.args.words.now a.r ≡ 1 → ⊥ = λ e. c.if-count-eq1.false (c.row_length-count.ensures.0 ∙ e) in
    let m = (found-4 c).0 in
    let h = stored-2 c in
    rw (m, ne_eqb (row_length c.args.words.now a.r) 1 more) (h.0, refl, h.1, sym (add-zero a.n), sym (append-nil (take a.n a.at.now)))
