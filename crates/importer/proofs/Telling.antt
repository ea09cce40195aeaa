-- Which outcome a line has, over any names: by the answer of its search, the ids listed, and what is known of these.
-- Assumes nothing.
use mathlib.Core.Path.{◌≡◌, refl, sym, ap, ◌∙◌}
use mathlib.Core.Logic.{◌↔◌}
use mathlib.Core.Bool.{true}
use mathlib.Core.List.{List, [], ◌∷◌}
use Prim.Native.Nat.{ℕ, ◌<◌}
use native.Mathlib.Omega.{arith}
use Rattle.laws.specs.Lists.{member, Ascending}
use Rattle.laws.proofs.Members.{member_nil, member_head, member_tail, member_one}
use Rattle.laws.proofs.Sort.{above_member, ascending_above}
use Rattle.search.specs.Answers.{number_in}
use Rattle.search.specs.Answers.{Answer}
use Rattle.search.specs.Answers.{Found, Refused as SearchRefused}
use Rattle.importer.specs.declared.Outcome.TheVariants.{Belongs, Unresolved, Ambiguous, Refused}
use Rattle.importer.specs.Import.{case_of, value_of, outcome_from}
use Rattle.importer.specs.Demands.{Tells}

-- an answered search, by the ids listed
module _ (answered : Type 0) (ok : answered) (n : ℕ) (id_at : ℕ → ℕ) (Similar : ℕ → Type 0) where
  -- what is known of the ids
  Listed : List ℕ → Type 0
  Listed l = ((i : ℕ) → i < n → (member (id_at i) l ≡ true) ↔ Similar i)
      × ((x : ℕ) → member x l ≡ true → (i : ℕ) × (i < n) × (id_at i ≡ x))
      × Ascending l

  -- a listed id is that of a similar name
  similar_name : (l : List ℕ) → Listed l → (x : ℕ) → member x l ≡ true → (i : ℕ) × (i < n) × (id_at i ≡ x) × Similar i
  unfolding Listed
  similar_name l h x m =
      let w = h.1 x m in
      (w.0, w.1, w.2, (h.0 w.0 w.1).0 (rw w.2 m))

  tells_none : Listed [] → Tells answered 0 n id_at Similar Unresolved
  unfolding Listed
  tells_none h =
      record {
        belongs = λ id. (λ e. absurd (differ (ap case_of e)), λ a. absurd (member_nil _ ((h.0 a.1.place a.1.within).1 a.1.similar)));
        unresolved = (λ e. (ok, λ i b s. member_nil _ ((h.0 i b).1 s)), λ a. refl);
        ambiguous = (λ e. absurd (differ' (ap case_of e)), λ a. absurd (member_nil _ ((h.0 a.1.first a.1.within.0).1 a.1.similar.0)));
        refused = λ m. (λ e. absurd (differ'' (ap case_of e)), λ a. absurd (a.1 (sym a.0)));
      }
    where
      differ : ◌≡◌ {A = ℕ} 2 1 → ⊥
      differ q = omega arith

      differ' : ◌≡◌ {A = ℕ} 2 3 → ⊥
      differ' q = omega arith

      differ'' : ◌≡◌ {A = ℕ} 2 4 → ⊥
      differ'' q = omega arith

  tells_one : (x : ℕ) → Listed (x ∷ []) → Tells answered 0 n id_at Similar (Belongs x)
  unfolding Listed
  tells_one x h =
      let w = similar_name (x ∷ []) h x (member_head x []) in
      record {
        belongs = λ id. (
          λ e. (
            ok,
            record {
              place = w.0;
              within = w.1;
              named = w.2 ∙ ap value_of e;
              similar = w.3;
              alone = λ j b s. member_one x (id_at j) ((h.0 j b).1 s) ∙ ap value_of e;
            },
          ),
          λ a. ap Belongs (sym (member_one x (id_at a.1.place) ((h.0 a.1.place a.1.within).1 a.1.similar)) ∙ a.1.named),
        );
        unresolved = (λ e. absurd (differ (ap case_of e)), λ a. absurd (a.1 w.0 w.1 w.3));
        ambiguous = (
          λ e. absurd (differ' (ap case_of e)),
          λ a. absurd (
              let p = member_one x (id_at a.1.first) ((h.0 a.1.first a.1.within.0).1 a.1.similar.0) in
              let q = member_one x (id_at a.1.second) ((h.0 a.1.second a.1.within.1).1 a.1.similar.1) in
              let r = a.1.apart in
              omega arith),
        );
        refused = λ m. (λ e. absurd (differ'' (ap case_of e)), λ a. absurd (a.1 (sym a.0)));
      }
    where
      differ : ◌≡◌ {A = ℕ} 1 2 → ⊥
      differ q = omega arith

      differ' : ◌≡◌ {A = ℕ} 1 3 → ⊥
      differ' q = omega arith

      differ'' : ◌≡◌ {A = ℕ} 1 4 → ⊥
      differ'' q = omega arith

  tells_several : (x y : ℕ) (l : List ℕ) → Listed (x ∷ y ∷ l) → Tells answered 0 n id_at Similar Ambiguous
  unfolding Listed
  tells_several x y l h =
      let v = similar_name (x ∷ y ∷ l) h x (member_head x (y ∷ l)) in
      let w = similar_name (x ∷ y ∷ l) h y (member_tail x y (y ∷ l) (member_head y l)) in
      let b : x < y = above_member x (y ∷ l) (ascending_above x (y ∷ l) h.2) y (member_head y l) in
      let p = v.2 in
      let q = w.2 in
      record {
        belongs = λ id. (
          λ e. absurd (differ (ap case_of e)),
          λ a. absurd (
              let r = a.1.alone v.0 v.1 v.3 in
              let t = a.1.alone w.0 w.1 w.3 in
              omega arith),
        );
        unresolved = (λ e. absurd (differ' (ap case_of e)), λ a. absurd (a.1 v.0 v.1 v.3));
        ambiguous = (
          λ e. (
            ok,
            record {
              first = v.0;
              second = w.0;
              within = (v.1, w.1);
              apart = omega arith;
              similar = (v.3, w.3);
            },
          ),
          λ a. refl,
        );
        refused = λ m. (λ e. absurd (differ'' (ap case_of e)), λ a. absurd (a.1 (sym a.0)));
      }
    where
      differ : ◌≡◌ {A = ℕ} 3 1 → ⊥
      differ q = omega arith

      differ' : ◌≡◌ {A = ℕ} 3 2 → ⊥
      differ' q = omega arith

      differ'' : ◌≡◌ {A = ℕ} 3 4 → ⊥
      differ'' q = omega arith

-- a refused one
tells_refused : (answered : Type 0) (m n : ℕ) (id_at : ℕ → ℕ) (Similar : ℕ → Type 0) → (answered → ⊥) → (m ≡ 0 → ⊥) → Tells answered m n id_at Similar (Refused m)
tells_refused answered m n id_at Similar never z =
    record {
      belongs = λ id. (λ e. absurd (differ (ap case_of e)), λ a. absurd (never a.0));
      unresolved = (λ e. absurd (differ' (ap case_of e)), λ a. absurd (never a.0));
      ambiguous = (λ e. absurd (differ'' (ap case_of e)), λ a. absurd (never a.0));
      refused = λ k. (λ e. (ap value_of e, λ q. z (ap value_of e ∙ q)), λ a. ap Refused a.0);
    }
  where
    differ : ◌≡◌ {A = ℕ} 4 1 → ⊥
    differ q = omega arith

    differ' : ◌≡◌ {A = ℕ} 4 2 → ⊥
    differ' q = omega arith

    differ'' : ◌≡◌ {A = ℕ} 4 3 → ⊥
    differ'' q = omega arith

-- any answer, whose number is 0 exactly if it is answered, and which is no refusal with 0
pub tells : (answered : Type 0) (n : ℕ) (id_at : ℕ → ℕ) (Similar : ℕ → Type 0) (a : Answer) (l : List ℕ)
    → (number_in a ≡ 0 → answered) → (answered → number_in a ≡ 0) → ((t : ℕ) → a ≡ SearchRefused 0 t → ⊥)
    → (answered → (i : ℕ) → i < n → (member (id_at i) l ≡ true) ↔ Similar i)
    → (answered → (x : ℕ) → member x l ≡ true → (i : ℕ) × (i < n) × (id_at i ≡ x))
    → (answered → Ascending l)
    → Tells answered (number_in a) n id_at Similar (outcome_from a l)
unfolding outcome_from Listed
tells answered n id_at Similar (SearchRefused m t) l f g z h k c =
    tells_refused answered m n id_at Similar (λ ok. z t (ap (λ (x : ℕ). SearchRefused x t) (g ok))) (λ e. z t (ap (λ (x : ℕ). SearchRefused x t) e))
tells answered n id_at Similar (Found rows t p q) [] f g z h k c = let ok = f refl in tells_none answered ok n id_at Similar (h ok, k ok, c ok)
tells answered n id_at Similar (Found rows t p q) (x ∷ []) f g z h k c = let ok = f refl in tells_one answered ok n id_at Similar x (h ok, k ok, c ok)
tells answered n id_at Similar (Found rows t p q) (x ∷ y ∷ l) f g z h k c = let ok = f refl in tells_several answered ok n id_at Similar x y l (h ok, k ok, c ok)
