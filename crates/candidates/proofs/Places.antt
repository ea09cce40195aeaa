-- Laws of the answers by place: what is kept of those met, and that the counts are 0 again. Cited by the proof of `keep`.
-- Assumes nothing.
use mathlib.Core.Path.{◌≡◌, refl, sym, ap, ap₂, ◌∙◌}
use mathlib.Core.Logic.{⊎_elim}
use mathlib.Core.Bool.{Bool, true, false, cond, ◌||◌}
use mathlib.Core.List.{List, [], ◌∷◌, ◌++◌}
use Prim.Native.Nat.{ℕ, ◌+◌, ◌≤◌, ◌<◌}
use native.Mathlib.Numerals.{add-one}
use native.Mathlib.Omega.{arith}
use lib.ListN.{length, get_or, take, set, get_or-eq_default}
use lib.Seq.{take-suc, take-take, length-take-le, get_or-take, get_or-set_same, get_or-set_other}
use lib.Dec.{leb}
use borrow.Author.Tests.{eq-eqb, ne_eqb, leb-true, leb-false}
use Rattle.laws.specs.Lists.{member}
use Rattle.laws.proofs.Lists.{member_append}
use Rattle.laws.proofs.Members.{member_at}
use Rattle.laws.proofs.Order.{eq_or_ne, le_or_lt}
use Rattle.laws.proofs.Tables.{table_of}
use Rattle.index.specs.Good.{most_names}
use Rattle.candidates.specs.Tables.{MetBy, no_counts, kept}
use Rattle.candidates.proofs.Testing.{distinct_fresh}

-- ---- the answers after the first k of those met

abbrev pub Keeps : List ℕ → List ℕ → List ℕ → ℕ → List ℕ → Type 0
Keeps counts met answers₀ k answers = (i : ℕ) → get_or answers i 0 ≡ cond (member i (take k met)) (get_or counts i 0) (get_or answers₀ i 0)

pub keeps_nil : (counts met answers : List ℕ) → Keeps counts met answers 0 answers
unfolding member
keeps_nil counts met answers i = refl

pub keeps_step : (counts met answers₀ answers : List ℕ) (k : ℕ) → k < length met → get_or met k 0 < length answers → Keeps counts met answers₀ k answers
    → Keeps counts met answers₀ (k + 1) (set answers (get_or met k 0) (get_or counts (get_or met k 0) 0))
unfolding member
keeps_step counts met answers₀ answers k h l e i =
    let j : ℕ = get_or met k 0 in
    let t : take (k + 1) met ≡ take k met ++ (j ∷ []) = ap (λ (n : ℕ). take n met) (add-one k) ∙ take-suc met k 0 h in
    rw (t, member_append i (take k met) (j ∷ []))
    (⊎_elim
    (λ (q : i ≡ j). rw (eq-eqb i j q, q) (get_or-set_same answers j (get_or counts j 0) 0 l ∙ yes_yes (member j (take k met)) j))
    (λ (q : i ≡ j → ⊥). rw (ne_eqb i j q) (get_or-set_other answers j i (get_or counts j 0) 0 q ∙ e i ∙ no_no (member i (take k met)) i))
    (eq_or_ne i j))
  where
    yes_yes : (b : Bool) (j : ℕ) → get_or counts j 0 ≡ cond (b || (true || false)) (get_or counts j 0) (get_or answers₀ j 0)
    yes_yes true j = refl
    yes_yes false j = refl

    no_no : (b : Bool) (i : ℕ) → cond b (get_or counts i 0) (get_or answers₀ i 0) ≡ cond (b || (false || false)) (get_or counts i 0) (get_or answers₀ i 0)
    no_no true i = refl
    no_no false i = refl

pub keeps_ends : (counts met answers₀ answers : List ℕ) (m : ℕ) → MetBy counts met m → length answers ≡ most_names
    → Keeps counts met answers₀ m answers → answers ≡ kept counts answers₀
unfolding kept
keeps_ends counts met answers₀ answers m b n e =
    table_of answers most_names (λ (i : ℕ). cond (leb 1 (get_or counts i 0)) (get_or counts i 0) (get_or answers₀ i 0)) n
    (λ i l. e i ∙ ap (λ (t : Bool). cond t (get_or counts i 0) (get_or answers₀ i 0)) (b.those i))

-- one that is met has its place within the tables
pub met_within : (counts met : List ℕ) (m k : ℕ) → MetBy counts met m → length counts ≡ most_names → k < m
    → (k < length met) × (get_or met k 0 < most_names)
met_within counts met m k b n h =
    let w = b.within in
    let t : get_or (take m met) k 0 ≡ get_or met k 0 = get_or-take m met k 0 h in
    let l : length (take m met) ≡ m = length-take-le m met w in
    let one = leb-true 1 (get_or counts (get_or met k 0) 0) (sym (b.those (get_or met k 0)) ∙ ap (λ (x : ℕ). member x (take m met)) (sym t) ∙ member_at (take m met) k (rw l h)) in (
      omega arith,
      ⊎_elim
          (λ (q : most_names ≤ get_or met k 0).
          let z = get_or-eq_default counts 0 (let p : length counts ≤ get_or met k 0 = omega arith in p) in
          absurd (omega arith))
          (λ (q : get_or met k 0 < most_names). q)
          (le_or_lt most_names (get_or met k 0)),
    )

-- ---- the counts after the first k of those met: 0 at each, as from a table without any

abbrev pub Clears : List ℕ → List ℕ → ℕ → List ℕ → Type 0
Clears counts₀ met k counts = Keeps [] met counts₀ k counts

-- the next of those met has the count that it came with
pub count_next : (counts₀ met counts : List ℕ) (m k : ℕ) → MetBy counts₀ met m → k < m → Clears counts₀ met k counts
    → get_or counts (get_or met k 0) 0 ≡ get_or counts₀ (get_or met k 0) 0
count_next counts₀ met counts m k b h e =
    let g : get_or (take m met) k 0 ≡ get_or met k 0 = get_or-take m met k 0 h in
    let n : length (take m met) ≡ m = length-take-le m met b.within in
    let s : take k (take m met) ≡ take k met = take-take k m met (omega arith) in
    let fresh : member (get_or met k 0) (take k met) ≡ false = ap₂ (λ (x : ℕ) (r : List ℕ). member x r) (sym g) (sym s) ∙ distinct_fresh (take m met) k b.distinct (rw n h) in
    e (get_or met k 0) ∙ rw fresh

-- after all of them no count is left
pub clears_ends : (counts₀ met counts : List ℕ) (m : ℕ) → MetBy counts₀ met m → length counts ≡ most_names → Clears counts₀ met m counts → counts ≡ no_counts
clears_ends counts₀ met counts m b n e =
    table_of counts most_names (λ (i : ℕ). 0) n (λ i l. e i ∙ by_test i (member i (take m met)) (sym (b.those i)))
  where
    by_test : (i : ℕ) (t : Bool) → leb 1 (get_or counts₀ i 0) ≡ t → ◌≡◌ {A = ℕ} (cond t (get_or [] i 0) (get_or counts₀ i 0)) 0
    by_test i true q = refl
    by_test i false q = let z = leb-false 1 (get_or counts₀ i 0) q in omega arith
