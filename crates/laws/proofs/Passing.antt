-- Laws of the numbers below a bound that pass a test, and of their images. Cited by `lists`, `sizes`, `search` and `statements`.
-- Assumes nothing.
use mathlib.Core.Path.{◌≡◌, refl, sym, ap, ap₂, subst, ◌∙◌}
use mathlib.Core.Logic.{⊎_elim}
use mathlib.Core.Bool.{Bool, true, false, cond}
use mathlib.Core.List.{List, [], ◌∷◌, ◌++◌, map, map-append, append-nil}
use Prim.Native.Nat.{ℕ, zero, suc, ◌+◌, ◌≤◌, ◌<◌}
use native.Mathlib.Nat.{eq-or-lt_of_le}
use native.Mathlib.Numerals.{add-one}
use native.Mathlib.Omega.{arith}
use lib.ListN.{length, length-append}
use Rattle.laws.specs.Lists.{member, Ascending}
use Rattle.laws.specs.Below.{sum_below, count_below, passing_below}
use Rattle.laws.proofs.Below.{sum_below_up, count_below_most}
use Rattle.laws.proofs.Members.{member_head, member_tail, member_nil, member_one, member_left, member_right, member_append_cases, member_map_place}
use Rattle.laws.proofs.Sort.{ascending_nil, ascending_snoc}

-- tests that agree below n pass the same
pub passing_ext : (n : ℕ) (t u : ℕ → Bool) → ((i : ℕ) → i < n → t i ≡ u i) → passing_below n t ≡ passing_below n u
unfolding passing_below
passing_ext zero t u h = refl
passing_ext (suc n) t u h =
    ap₂ (λ (l : List ℕ) (b : Bool). l ++ cond b (n ∷ []) []) (passing_ext n t u (λ i l. h i (omega arith))) (h n (omega arith))

module _ (t : ℕ → Bool) where
  -- ---- one number more

  pub passing_nil : passing_below 0 t ≡ []
  unfolding passing_below
  passing_nil = refl

  pub passing_met : (n : ℕ) → t n ≡ true → passing_below (n + 1) t ≡ passing_below n t ++ (n ∷ [])
  unfolding passing_below
  passing_met n e = rw (add-one n) (ap (λ (b : Bool). passing_below n t ++ cond b (n ∷ []) []) e)

  pub passing_passed : (n : ℕ) → t n ≡ false → passing_below (n + 1) t ≡ passing_below n t
  unfolding passing_below
  passing_passed n e = rw (add-one n) (ap (λ (b : Bool). passing_below n t ++ cond b (n ∷ []) []) e ∙ append-nil (passing_below n t))

  -- ---- how many

  pub length_passing : (n : ℕ) → length (passing_below n t) ≡ count_below n t
  unfolding passing_below sum_below
  length_passing zero = refl
  length_passing (suc n) = by_test (t n) (length_passing n)
    where
      by_test : (b : Bool) → length (passing_below n t) ≡ count_below n t
          → length (passing_below n t ++ cond b (n ∷ []) []) ≡ count_below n t + cond b 1 0
      by_test true h = let a = length-append (passing_below n t) (n ∷ []) in omega arith
      by_test false h = let a = length-append (passing_below n t) [] in omega arith

  pub passing_most : (n : ℕ) → length (passing_below n t) ≤ n
  passing_most n = let e = length_passing n in let h = count_below_most n t in omega arith

  -- of more numbers at least as many
  pub passing_up : (n d : ℕ) → length (passing_below n t) ≤ length (passing_below (n + d) t)
  passing_up n d =
      let a = length_passing n in
      let b = length_passing (n + d) in
      let h = sum_below_up n d (λ (i : ℕ). cond (t i) 1 0) in
      omega arith

  -- where they are no more, they are the same
  pub passing_all : (n d : ℕ) → length (passing_below (n + d) t) ≤ length (passing_below n t) → passing_below (n + d) t ≡ passing_below n t
  passing_all n zero h = ap (λ (k : ℕ). passing_below k t) (let q : n + 0 ≡ n = omega arith in q)
  passing_all n (suc d) h = next ∙ by_test (t (n + d)) refl (passing_all n d)
    where
      next : passing_below (n + suc d) t ≡ passing_below (n + d + 1) t
      next = ap (λ (k : ℕ). passing_below k t) (let q : n + suc d ≡ n + d + 1 = omega arith in q)

      by_test : (b : Bool) → t (n + d) ≡ b → (length (passing_below (n + d) t) ≤ length (passing_below n t) → passing_below (n + d) t ≡ passing_below n t)
          → passing_below (n + d + 1) t ≡ passing_below n t
      by_test true e rest =
          let m = ap length (next ∙ passing_met (n + d) e) in
          let s = length-append (passing_below (n + d) t) ((n + d) ∷ []) in
          let u = passing_up n d in
          absurd (omega arith)
      by_test false e rest = let m = ap length (next ∙ passing_passed (n + d) e) in passing_passed (n + d) e ∙ rest (omega arith)

  -- ---- which they are

  pub passing_member : (n i : ℕ) → member i (passing_below n t) ≡ true → (i < n) × (t i ≡ true)
  unfolding passing_below
  passing_member zero i e = absurd (member_nil i e)
  passing_member (suc n) i e =
      ⊎_elim
      (λ (m : member i (passing_below n t) ≡ true). let h = passing_member n i m in let l = h.0 in (omega arith, h.1))
      (λ (m : member i (cond (t n) (n ∷ []) []) ≡ true). last (t n) refl m)
      (member_append_cases i (passing_below n t) (cond (t n) (n ∷ []) []) e)
    where
      last : (b : Bool) → t n ≡ b → member i (cond b (n ∷ []) []) ≡ true → (i < suc n) × (t i ≡ true)
      last true s m = let q : i ≡ n = member_one n i m in (omega arith, ap t q ∙ s)
      last false s m = absurd (member_nil i m)

  pub member_passing : (n i : ℕ) → i < n → t i ≡ true → member i (passing_below n t) ≡ true
  unfolding passing_below
  member_passing zero i l e = absurd (omega arith)
  member_passing (suc n) i l e =
      let h : i ≤ n = omega arith in
      ⊎_elim
      (λ (q : i ≡ n). member_right i (passing_below n t) (cond (t n) (n ∷ []) [])
      (subst (λ (j : ℕ). member i (cond (t j) (j ∷ []) []) ≡ true) q (rw e (member_head i []))))
      (λ (q : i < n). member_left i (passing_below n t) (cond (t n) (n ∷ []) []) (member_passing n i q e))
      (eq-or-lt_of_le h)

  -- ---- their images

  module _ (f : ℕ → ℕ) where
    pub image_passing : (n y : ℕ) → member y (map f (passing_below n t)) ≡ true → (i : ℕ) × (i < n) × (t i ≡ true) × (f i ≡ y)
    image_passing n y m =
        let p = member_map_place f y (passing_below n t) m in
        let h = passing_member n p.0 p.1 in
        (p.0, h.0, h.1, p.2)

    image_snoc : (n : ℕ) → map f (passing_below (suc n) t) ≡ map f (passing_below n t) ++ cond (t n) (f n ∷ []) []
    unfolding passing_below
    image_snoc n = map-append f (passing_below n t) (cond (t n) (n ∷ []) []) ∙ ap (λ (l : List ℕ). map f (passing_below n t) ++ l) (by_test (t n))
      where
        by_test : (b : Bool) → map f (cond b (n ∷ []) []) ≡ cond b (f n ∷ []) []
        by_test true = refl
        by_test false = refl

    -- they ascend where f does from one that passes to the next
    pub ascending_passing : (n : ℕ) → ((i j : ℕ) → i < j → j < n → t i ≡ true → t j ≡ true → f i < f j) → Ascending (map f (passing_below n t))
    ascending_passing zero h = unfold passing_below in ascending_nil
    ascending_passing (suc n) h =
        subst Ascending (sym (image_snoc n)) (last (t n) refl (ascending_passing n (λ i j l m. h i j l (omega arith))))
      where
        last : (b : Bool) → t n ≡ b → Ascending (map f (passing_below n t)) → Ascending (map f (passing_below n t) ++ cond b (f n ∷ []) [])
        last true e a =
            ascending_snoc (map f (passing_below n t)) (f n) a (λ y m.
            let p = image_passing n y m in
            let l = h p.0 n p.1 (omega arith) p.2 e in
            let q = p.3 in
            omega arith)
        last false e a = subst Ascending (sym (append-nil (map f (passing_below n t)))) a

    -- functions that agree on what passes have the same images
    pub image_ext : (n : ℕ) (g : ℕ → ℕ) → ((i : ℕ) → i < n → t i ≡ true → f i ≡ g i) → map f (passing_below n t) ≡ map g (passing_below n t)
    image_ext n g h = same (passing_below n t) (λ i m. let p = passing_member n i m in h i p.0 p.1)
      where
        same : (l : List ℕ) → ((i : ℕ) → member i l ≡ true → f i ≡ g i) → map f l ≡ map g l
        same [] e = refl
        same (x ∷ l) e = ap₂ (λ (y : ℕ) (k : List ℕ). y ∷ k) (e x (member_head x l)) (same l (λ i m. e i (member_tail x i l m)))
