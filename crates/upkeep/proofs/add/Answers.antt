-- `add` meets its contract: each test leads to its number, and what passes them all is what `add_with` asks.
use mathlib.Core.Path.{◌≡◌, refl, sym, ◌∙◌}
use mathlib.Core.List.{List}
use Prim.Native.Nat.{ℕ, ◌≤◌, ◌<◌}
use native.Mathlib.Omega.{arith}
use lib.ListN.{length, take, replicate}
use lib.Seq.{length-take-le}
use Rattle.std.proofs.lemmas.Result.{err_from_is_err_and}
use Rattle.refusals.specs.Refusals.{outcome_number}
use Rattle.refusals.proofs.Refusals.{refused}
use Rattle.names.specs.Features.{most_features, features_of}
use Rattle.names.proofs.Laws.{size_most}
use Rattle.words.specs.Words.{name_count}
use Rattle.binary_search.proofs.Seats.{seat_missing}
use Rattle.index.specs.Good.{most_names, ids_in, Good}
use Rattle.index.proofs.Laws.{good_three, good_names_most, good_named}
use Rattle.upkeep.proofs.Judging.{add_bad, add_name, add_live, add_full}
use Rattle.upkeep.proofs.Laws.{seat_live, seat_unused, sought}
use Rattle.upkeep.proofs.Adding.{add_refused, addable, add_done}
use Rattle.upkeep.proofs.add.Goals as goal

pub returns-then-not-good : goal.returns-then-not-good
returns-then-not-good c =
    let a = c.args in
    add_refused a.words.now a.id a.name.now 6 (add_bad a.words.now a.id a.name.now (sym c.good.ensures ∙ c.if-not-good.true)) (λ z. omega arith)

pub returns-in_err-judge : goal.returns-in_err-judge
returns-in_err-judge c =
    let a = c.args in
    let p = err_from_is_err_and c.from_residual.result c.from_residual.ensures.1 in
    let e = c.in_err-judge.ensures in
    let n = refused c.in_err-judge.field-0.0 in
    rw (p.1, p.2) (add_refused a.words.now a.id a.name.now _ (add_name a.words.now a.id a.name.now (sym c.good.ensures ∙ c.if-not-good.false) (λ z. n (e ∙ z)) ∙ sym e) n)

pub name_seat-seat-requires : goal.name_seat-seat-requires
name_seat-seat-requires c = good_named c.args.words.now (sym c.good.ensures ∙ c.if-not-good.false)

pub returns-in_default : goal.returns-in_default
returns-in_default c =
    let a = c.args in
    let live = seat_live a.words.now a.id _ (sought _ _ _ _ _ c.from-wide.ensures c.name_seat-seat.ensures c.in_default.is) in
    add_refused a.words.now a.id a.name.now 9 (add_live a.words.now a.id a.name.now (sym c.good.ensures ∙ c.if-not-good.false) (sym c.in_ok-judge.ensures) live) (λ z. omega arith)

pub name_count-requires : goal.name_count-requires
name_count-requires c = good_three c.args.words.now (sym c.good.ensures ∙ c.if-not-good.false)

pub returns-then-name_count-eq-MOST_NAMES : goal.returns-then-name_count-eq-MOST_NAMES
returns-then-name_count-eq-MOST_NAMES c =
    let a = c.args in
    let e = c.name_count.ensures.0 in
    let h = c.if-name_count-eq-MOST_NAMES.true in
    let unused = seat_unused a.words.now a.id c.in-Before.place (sought _ _ _ _ _ c.from-wide.ensures c.name_seat-seat.ensures c.in-Before.is) in
    add_refused a.words.now a.id a.name.now 10 (add_full a.words.now a.id a.name.now (sym c.good.ensures ∙ c.if-not-good.false) (sym c.in_ok-judge.ensures) unused (omega arith)) (λ z. omega arith)

-- a name has no more features than the tables have room for
size : (name : List ℕ) (k : ℕ) → k ≡ length (features_of name) → k ≤ most_features
size name k e = omega (arith, size_most name)

part : (name out : List ℕ) (k : ℕ) → k ≡ length (features_of name) → length out ≡ most_features → length (take k out) ≡ k
part name out k e n = length-take-le k out (let m = size name k e in omega arith)

pub slice_bounds-features-end : goal.slice_bounds-features-end
slice_bounds-features-end c = let x = c.sorted_features-k in let n = x.auto.out in let m = size c.args.name.now x.result x.ensures.0 in omega arith

pub slice_bounds-add_with-end : goal.slice_bounds-add_with-end
slice_bounds-add_with-end c = let x = c.sorted_features-k in sym (part c.args.name.now x.new.out x.result x.ensures.0 x.auto.out)

pub slice_bounds-postings-end : goal.slice_bounds-postings-end
slice_bounds-postings-end c = size c.args.name.now _ c.sorted_features-k.ensures.0

pub slice_bounds-add_with-end-4 : goal.slice_bounds-add_with-end-4
slice_bounds-add_with-end-4 c = sym (part c.args.name.now (replicate most_features 0) _ c.sorted_features-k.ensures.0 refl)

-- fewer names than there can be, once they are not as many
few : (w : List ℕ) (n : ℕ) → Good w → n ≡ name_count w → (n ≡ most_names → ⊥) → name_count w < most_names
few w n g e h = let m = good_names_most w g in omega arith

pub add_with-requires : goal.add_with-requires
add_with-requires c =
    let a = c.args in
    let x = c.sorted_features-k in
    let b = c.ranges in
    let there = (sought _ _ _ _ _ c.from-wide.ensures c.name_seat-seat.ensures c.in-Before.is) in
    let room = few a.words.now _ (sym c.good.ensures ∙ c.if-not-good.false) c.name_count.ensures.0 c.if-name_count-eq-MOST_NAMES.false in (
      rw c.from-wide.ensures
          (addable a.words.now a.id a.name.now (sym c.good.ensures ∙ c.if-not-good.false) (sym c.in_ok-judge.ensures) (seat_unused a.words.now a.id c.in-Before.place there) room (take x.result x.new.out) x.ensures.1
          c.in-Before.place (sym (seat_missing (ids_in a.words.now) a.id c.in-Before.place there).1) (λ j. (let q = c.type_inv.name j in omega arith)) (omega arith)),
      omega arith,
      omega arith,
      part a.name.now (replicate most_features 0) x.result x.ensures.0 refl ∙ sym (part a.name.now x.new.out x.result x.ensures.0 x.auto.out),
    )

pub returns : goal.returns
returns c =
    let a = c.args in
    let x = c.sorted_features-k in
    let y = c.add_with in
    let unused = seat_unused a.words.now a.id c.in-Before.place (sought _ _ _ _ _ c.from-wide.ensures c.name_seat-seat.ensures c.in-Before.is) in
    let free = few a.words.now _ (sym c.good.ensures ∙ c.if-not-good.false) c.name_count.ensures.0 c.if-name_count-eq-MOST_NAMES.false in
    add_done a.words.now a.id a.name.now (sym c.good.ensures ∙ c.if-not-good.false) (sym c.in_ok-judge.ensures) unused free (take x.result x.new.out) x.ensures.1
    (λ k. (let q = c.slice_known-1.given k in omega arith)) (outcome_number y.result) y.new.words (rw c.from-wide.ensures at y.ensures.0) (rw c.from-wide.ensures at y.ensures.1)
