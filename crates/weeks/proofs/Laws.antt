-- Laws of pairs over entries in any order: exactly those with an entry, ascending, once each; what one entry more makes of them, of sums and of counts.
-- Assumes nothing.
use mathlib.Core.Path.{◌≡◌, refl, sym, ap, ap₂, ◌∙◌}
use mathlib.Core.Logic.{⊎_elim}
use mathlib.Core.Bool.{Bool, true, false, cond, ◌&&◌, ◌||◌}
use mathlib.Core.List.{List, [], ◌∷◌, ◌++◌, map, map-append}
use Prim.Native.Nat.{ℕ, ◌+◌, ◌<◌}
use native.Mathlib.Omega.{arith}
use lib.Dec.{eqb}
use borrow.Author.Tests.{eq-eqb, ne_eqb}
use Rattle.std.proofs.Common.{Option, Some, None}
use Rattle.std.specs.Option.{option_map_or}
use Rattle.laws.specs.Lists.{member, Distinct, Ascending, sum_of}
use Rattle.laws.specs.Sort.{sort_of}
use Rattle.laws.proofs.Lists.{member_append}
use Rattle.laws.proofs.Tests.{same_test}
use Rattle.laws.proofs.Members.{member_head, member_tail, member_cases, member_left, member_append_cases, member_one, member_map, member_map_place}
use Rattle.laws.proofs.Sums.{sum_sort}
use Rattle.laws.proofs.Sort.{ascending_sort, ascending_snoc, ascending_unique, member_sort}
use Rattle.weeks.specs.Pairs.{missing, pair_in, reading_in, present, once_of, pairs_of, amount, tally, sum_for, count_for, columns_of}

-- ---- each number once

pub member_once : (x : ℕ) (l : List ℕ) → member x (once_of l) ≡ member x l
unfolding once_of
member_once x [] = refl
member_once x (y ∷ l) = by_test (member y l) refl (member_once x l)
  where
    by_test : (b : Bool) → member y l ≡ b → member x (once_of l) ≡ member x l → member x (cond b (once_of l) (y ∷ once_of l)) ≡ member x (y ∷ l)
    by_test true e h =
        same_test (member x (once_of l)) (member x (y ∷ l))
        (λ m. member_tail y x l (sym h ∙ m))
        (λ m. h ∙ ⊎_elim (λ (q : x ≡ y). ap (λ (z : ℕ). member z l) q ∙ e) (λ (q : member x l ≡ true). q) (member_cases y x l m))
    by_test false e h =
        same_test (member x (y ∷ once_of l)) (member x (y ∷ l))
        (λ m. ⊎_elim (λ (q : x ≡ y). rw q (member_head y l)) (λ (q : member x (once_of l) ≡ true). member_tail y x l (sym h ∙ q)) (member_cases y x (once_of l) m))
        (λ m. ⊎_elim (λ (q : x ≡ y). rw q (member_head y (once_of l))) (λ (q : member x l ≡ true). member_tail y x (once_of l) (h ∙ q)) (member_cases y x l m))

pub distinct_once : (l : List ℕ) → Distinct (once_of l)
unfolding once_of Distinct
distinct_once [] = tt
distinct_once (y ∷ l) = by_test (member y l) refl (distinct_once l)
  where
    by_test : (b : Bool) → member y l ≡ b → Distinct (once_of l) → Distinct (cond b (once_of l) (y ∷ once_of l))
    by_test true e d = d
    by_test false e d = (member_once y l ∙ e, d)

-- ---- the pairs

-- a pair stands there exactly if it has an entry
pub member_pairs : (k : ℕ) (l : List ℕ) → member k (pairs_of l) ≡ member k (map pair_in l)
unfolding pairs_of
member_pairs k l = member_sort k (once_of (map pair_in l)) ∙ member_once k (map pair_in l)

-- by id and then by week, and so once each
pub ascending_pairs : (l : List ℕ) → Ascending (pairs_of l)
unfolding pairs_of
ascending_pairs l = ascending_sort (once_of (map pair_in l)) (distinct_once (map pair_in l))

-- both facts fix them
pub pairs_unique : (p l : List ℕ) → Ascending p → ((k : ℕ) → member k p ≡ member k (map pair_in l)) → p ≡ pairs_of l
pairs_unique p l a h = ascending_unique p (pairs_of l) a (ascending_pairs l) (λ k. h k ∙ sym (member_pairs k l))

pub pairs_nil : pairs_of [] ≡ []
unfolding pairs_of once_of sort_of
pairs_nil = refl

member_snoc : (k e : ℕ) (l : List ℕ) → member k (map pair_in (l ++ (e ∷ []))) ≡ member k (map pair_in l) || member k (pair_in e ∷ [])
member_snoc k e l = ap (member k) (map-append pair_in l (e ∷ [])) ∙ member_append k (map pair_in l) (pair_in e ∷ [])

-- one entry more of a pair that is there
pub pairs_known : (l : List ℕ) (e : ℕ) → member (pair_in e) (map pair_in l) ≡ true → pairs_of (l ++ (e ∷ [])) ≡ pairs_of l
pairs_known l e m = sym (pairs_unique (pairs_of l) (l ++ (e ∷ [])) (ascending_pairs l) same)
  where
    same : (k : ℕ) → member k (pairs_of l) ≡ member k (map pair_in (l ++ (e ∷ [])))
    same k =
        rw map-append
        (member_pairs k l
        ∙ same_test (member k (map pair_in l)) (member k (map pair_in l ++ (pair_in e ∷ [])))
        (λ h. member_left k (map pair_in l) (pair_in e ∷ []) h)
        (λ h. ⊎_elim (λ (q : member k (map pair_in l) ≡ true). q) (λ (q : member k (pair_in e ∷ []) ≡ true). rw (member_one (pair_in e) k q) m)
        (member_append_cases k (map pair_in l) (pair_in e ∷ []) h)))

-- and of one above all that are there
pub pairs_new : (l : List ℕ) (e : ℕ) → ((k : ℕ) → member k (map pair_in l) ≡ true → k < pair_in e) → pairs_of (l ++ (e ∷ [])) ≡ pairs_of l ++ (pair_in e ∷ [])
pairs_new l e h =
    sym (pairs_unique (pairs_of l ++ (pair_in e ∷ [])) (l ++ (e ∷ []))
    (ascending_snoc (pairs_of l) (pair_in e) (ascending_pairs l) (λ k m. h k (sym (member_pairs k l) ∙ m)))
    (λ k.
    member_append k (pairs_of l) (pair_in e ∷ [])
    ∙ ap (λ (b : Bool). b || member k (pair_in e ∷ [])) (member_pairs k l)
    ∙ sym (member_snoc k e l)))

-- ---- what entries add up to

-- what an entry of another pair adds
pub amount_other : (k e : ℕ) → (pair_in e ≡ k → ⊥) → amount k e ≡ 0
unfolding amount
amount_other k e n = rw (ne_eqb (pair_in e) k n)

pub tally_other : (k e : ℕ) → (pair_in e ≡ k → ⊥) → tally k e ≡ 0
unfolding tally
tally_other k e n = rw (ne_eqb (pair_in e) k n)

-- what an entry adds to its own pair: its reading, and 1; nothing where that is missing
pub amount_present : (e : ℕ) → (reading_in e ≡ missing → ⊥) → amount (pair_in e) e ≡ reading_in e
unfolding amount
amount_present e n = rw (eq-eqb (pair_in e) (pair_in e) refl, ne_eqb (reading_in e) missing n)

pub amount_missing : (k e : ℕ) → reading_in e ≡ missing → amount k e ≡ 0
unfolding amount
amount_missing k e m = rw (eq-eqb (reading_in e) missing m) (by_test (eqb (pair_in e) k))
  where
    by_test : (b : Bool) → cond (b && false) (reading_in e) 0 ≡ 0
    by_test true = refl
    by_test false = refl

pub tally_present : (e : ℕ) → (reading_in e ≡ missing → ⊥) → tally (pair_in e) e ≡ 1
unfolding tally
tally_present e n = rw (eq-eqb (pair_in e) (pair_in e) refl, ne_eqb (reading_in e) missing n)

pub tally_missing : (k e : ℕ) → reading_in e ≡ missing → tally k e ≡ 0
unfolding tally
tally_missing k e m = rw (eq-eqb (reading_in e) missing m) (by_test (eqb (pair_in e) k))
  where
    by_test : (b : Bool) → ◌≡◌ {A = ℕ} (cond (b && false) 1 0) 0
    by_test true = refl
    by_test false = refl

-- f of the reading, where there is one
pub added : (f : ℕ → ℕ) (e : ℕ) (o : Option ℕ) (n : ℕ) → o ≡ cond (present e) (Some (reading_in e)) None → n ≡ option_map_or f o 0
    → n ≡ cond (eqb (pair_in e) (pair_in e) && present e) (f (reading_in e)) 0
added f e o n p q = rw (eq-eqb (pair_in e) (pair_in e) refl) (q ∙ ap (λ (x : Option ℕ). option_map_or f x 0) p ∙ by_test (present e))
  where
    by_test : (b : Bool) → option_map_or f (cond b (Some (reading_in e)) None) 0 ≡ cond b (f (reading_in e)) 0
    by_test true = refl
    by_test false = refl

pub sum_snoc : (f : ℕ → ℕ) (l : List ℕ) (e : ℕ) → sum_of (map f (l ++ (e ∷ []))) ≡ sum_of (map f l) + f e
unfolding sum_of
sum_snoc f [] e = omega arith
sum_snoc f (x ∷ l) e = let h = sum_snoc f l e in omega arith

-- over any `g k e`, which is what an entry adds to the pair k, and is 0 for an entry of another pair
module _ (g : ℕ → ℕ → ℕ) (own : (k e : ℕ) → (pair_in e ≡ k → ⊥) → g k e ≡ 0) where
  -- a pair without an entry has nothing
  pub sum_none : (k : ℕ) (l : List ℕ) → ((x : ℕ) → member x (map pair_in l) ≡ true → x ≡ k → ⊥) → sum_of (map (g k) l) ≡ 0
  unfolding sum_of
  sum_none k [] n = refl
  sum_none k (e ∷ l) n =
      let a = own k e (λ q. n (pair_in e) (member_head (pair_in e) (map pair_in l)) q) in
      let b = sum_none k l (λ x m. n x (member_tail (pair_in e) x (map pair_in l) m)) in
      omega arith

  -- an entry of another pair changes nothing
  pub sum_other : (k : ℕ) (l : List ℕ) (e : ℕ) → (pair_in e ≡ k → ⊥) → sum_of (map (g k) (l ++ (e ∷ []))) ≡ sum_of (map (g k) l)
  sum_other k l e n = let a = own k e n in let b = sum_snoc (g k) l e in omega arith

-- ---- the order of the entries

map_same : (f g : ℕ → ℕ) → ((x : ℕ) → f x ≡ g x) → (l : List ℕ) → map f l ≡ map g l
map_same f g e [] = refl
map_same f g e (x ∷ l) = ap₂ ◌∷◌ (e x) (map_same f g e l)

pub pairs_sort : (l : List ℕ) → pairs_of (sort_of l) ≡ pairs_of l
pairs_sort l = pairs_unique (pairs_of (sort_of l)) l (ascending_pairs (sort_of l)) (λ k. member_pairs k (sort_of l) ∙ same k)
  where
    same : (k : ℕ) → member k (map pair_in (sort_of l)) ≡ member k (map pair_in l)
    same k =
        same_test (member k (map pair_in (sort_of l))) (member k (map pair_in l))
        (λ m. let x = member_map_place pair_in k (sort_of l) m in rw (← x.2) (member_map pair_in x.0 l (sym (member_sort x.0 l) ∙ x.1)))
        (λ m. let x = member_map_place pair_in k l m in rw (← x.2) (member_map pair_in x.0 (sort_of l) (member_sort x.0 l ∙ x.1)))

-- it does not matter: sorted entries have the same pairs, sums and counts
pub columns_sort : (l : List ℕ) → columns_of (sort_of l) ≡ columns_of l
columns_sort l =
    let p = pairs_sort l in
    let s = map_same (sum_for (sort_of l)) (sum_for l) (λ k. sum_sort (amount k) l) (pairs_of l) in
    let c = map_same (count_for (sort_of l)) (count_for l) (λ k. sum_sort (tally k) l) (pairs_of l) in
    rw (p, s, c)

pub columns_order : (k l : List ℕ) → sort_of k ≡ sort_of l → columns_of k ≡ columns_of l
columns_order k l e = sym (columns_sort k) ∙ ap columns_of e ∙ columns_sort l
