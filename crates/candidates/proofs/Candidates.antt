-- Laws of the candidates of one size, on plain lists: who remains after d later features, and who is left at the end.
-- Cited by Counts.antt and by the laws of `sizes`.
-- Assumes nothing.
use mathlib.Core.Path.{◌≡◌, refl, ap, ap₂, ◌∙◌}
use mathlib.Core.Bool.{Bool, true, false, cond, ◌&&◌}
use mathlib.Core.List.{List, [], ◌∷◌}
use Prim.Native.Nat.{ℕ, zero, suc, ◌+◌, ◌-◌, ◌≤◌, ◌<◌}
use native.Mathlib.Numerals.{add-one}
use native.Mathlib.Omega.{arith}
use lib.ListN.{length, get_or, take, drop, take-append-drop}
use lib.Seq.{take-suc, take_all}
use lib.Dec.{leb}
use borrow.Author.Tests.{le-leb, leb-true}
use Rattle.laws.specs.Lists.{member, count_of}
use Rattle.laws.proofs.Lists.{count_append}
use Rattle.laws.proofs.Tests.{same_test, and_parts, cond_most}
use Rattle.laws.proofs.Below.{and_left, and_both, and_false_left}
use Rattle.candidates.specs.Method.{held_by, signatures, remains, later_count}

-- ---- the count of one more list

-- the count among k + 1 lists is that among k and 1 where the next list holds the id
pub held_step : (ls : List (List ℕ)) (id k : ℕ) → k < length ls
    → held_by (take (k + 1) ls) id ≡ held_by (take k ls) id + cond (member id (get_or ls k [])) 1 0
unfolding held_by count_of
held_step ls id k h =
    ap (λ (n : ℕ). held_by (take n ls) id) (add-one k)
    ∙ ap (λ (l : List (List ℕ)). held_by l id) (take-suc ls k [] h)
    ∙ count_append (λ (l : List ℕ). member id l) (take k ls) (get_or ls k [] ∷ [])
    ∙ (let e : cond (member id (get_or ls k [])) 1 0 + 0 ≡ cond (member id (get_or ls k [])) 1 0 = omega arith in
    ap (λ (n : ℕ). held_by (take k ls) id + n) e)

pub held_nil : (ls : List (List ℕ)) (id : ℕ) → held_by (take 0 ls) id ≡ 0
unfolding held_by count_of
held_nil ls id = refl

-- all lists
pub held_all : (ls : List (List ℕ)) (id n : ℕ) → length ls ≤ n → held_by (take n ls) id ≡ held_by ls id
held_all ls id n h = ap (λ (l : List (List ℕ)). held_by l id) (take_all n ls h)

-- ---- who remains

module _ (ls : List (List ℕ)) (t : ℕ) (low : 1 ≤ t) (high : t ≤ length ls) where
  -- a candidate remains exactly as long as its count and all that is still to come reach t
  pub remains_closed : (d id : ℕ) → d ≤ later_count ls t
      → remains ls t d id
      ≡ leb t (held_by (take (signatures (length ls) t + d) ls) id + (length ls - (signatures (length ls) t + d)))
  unfolding remains
  remains_closed zero id h =
      let s : ℕ = signatures (length ls) t in
      let e : s + 0 ≡ s = omega arith in
      rw e
      (same_test (leb 1 (held_by (take s ls) id)) (leb t (held_by (take s ls) id + (length ls - s)))
      (λ a. let b = leb-true 1 (held_by (take s ls) id) a in le-leb t (held_by (take s ls) id + (length ls - s)) (omega arith))
      (λ a. let b = leb-true t (held_by (take s ls) id + (length ls - s)) a in le-leb 1 (held_by (take s ls) id) (omega arith)))
  remains_closed (suc d) id h =
      let s : ℕ = signatures (length ls) t in
      let c : ℕ = held_by (take (s + suc d) ls) id in
      let e : s + suc d ≡ (s + d) + 1 = omega arith in
      let g : c ≡ held_by (take (s + d) ls) id + cond (member id (get_or ls (s + d) [])) 1 0 =
      ap (λ (n : ℕ). held_by (take n ls) id) e ∙ held_step ls id (s + d) (omega arith)
      in
      let m = cond_most (member id (get_or ls (s + d) [])) 1 in
      let r = remains_closed d id (omega arith) in
      same_test (remains ls t d id && leb t (c + (length ls - (s + suc d)))) (leb t (c + (length ls - (s + suc d))))
      (λ a. (and_parts (remains ls t d id) (leb t (c + (length ls - (s + suc d)))) a).1)
      (λ a.
      let b = leb-true t (c + (length ls - (s + suc d))) a in
      and_both (remains ls t d id) (leb t (c + (length ls - (s + suc d))))
      (r ∙ le-leb t (held_by (take (s + d) ls) id + (length ls - (s + d))) (omega arith))
      a)

  -- those left after the last feature are those that share at least t
  pub remains_end : (id : ℕ) → remains ls t (later_count ls t) id ≡ leb t (held_by ls id)
  remains_end id =
      let s : ℕ = signatures (length ls) t in
      let e : s + later_count ls t ≡ length ls = omega arith in
      let z : length ls - length ls ≡ 0 = omega arith in
      remains_closed (later_count ls t) id (omega arith)
      ∙ ap (λ (n : ℕ). leb t (held_by (take n ls) id + (length ls - n))) e
      ∙ ap₂ (λ (a b : ℕ). leb t (a + b)) (held_all ls id (length ls) (omega arith)) z
      ∙ ap (leb t) (let y : held_by ls id + 0 ≡ held_by ls id = omega arith in y)

-- ---- who was met

count_take : {A : Type 0} (t : A → Bool) (n : ℕ) (l : List A) → count_of t (take n l) ≤ count_of t l
count_take t n l =
    let e = count_append t (take n l) (drop n l) in
    let f = ap (count_of t) (take-append-drop n l) in
    omega arith

held_take : (ls : List (List ℕ)) (n id : ℕ) → held_by (take n ls) id ≤ held_by ls id
unfolding held_by
held_take ls n id = count_take (λ (l : List ℕ). member id l) n ls

-- who remains was met
pub remains_met : (ls : List (List ℕ)) (t d id : ℕ) → remains ls t d id ≡ true → 1 ≤ held_by ls id
unfolding remains
remains_met ls t zero id e =
    let a = leb-true 1 (held_by (take (signatures (length ls) t) ls) id) e in
    let b = held_take ls (signatures (length ls) t) id in
    omega arith
remains_met ls t (suc d) id e =
    remains_met ls t d id (and_parts (remains ls t d id) (leb t (held_by (take (signatures (length ls) t + suc d) ls) id + (length ls - (signatures (length ls) t + suc d)))) e).0

-- those left only become fewer
pub remains_less : (ls : List (List ℕ)) (t d id : ℕ) → remains ls t (suc d) id ≡ true → remains ls t d id ≡ true
unfolding remains
remains_less ls t d id e = and_left (remains ls t d id) (leb t (held_by (take (signatures (length ls) t + suc d) ls) id + (length ls - (signatures (length ls) t + suc d)))) e

-- lists whose first n are empty hold no id there
pub no_holder : (n : ℕ) (ls : List (List ℕ)) (id : ℕ) → ((k : ℕ) → k < n → get_or ls k [] ≡ []) → held_by (take n ls) id ≡ 0
unfolding held_by count_of member
no_holder zero ls id h = refl
no_holder (suc n) [] id h = refl
no_holder (suc n) (l ∷ ls) id h =
    let e : ◌≡◌ {A = ℕ} (cond (member id l) 1 0) 0 = ap (λ (r : List ℕ). cond (member id r) 1 0) (h 0 (omega arith)) in
    let r = no_holder n ls id (λ k p. h (suc k) (omega arith)) in
    omega arith

-- who is not met does not remain
pub unmet : (ls : List (List ℕ)) (t id : ℕ) → held_by (take (signatures (length ls) t) ls) id ≡ 0 → (d : ℕ) → remains ls t d id ≡ false
unfolding remains
unmet ls t id e zero = ap (leb 1) e
unmet ls t id e (suc d) =
    and_false_left (remains ls t d id)
    (leb t (held_by (take (signatures (length ls) t + suc d) ls) id + (length ls - (signatures (length ls) t + suc d))))
    (unmet ls t id e d)
