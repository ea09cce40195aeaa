-- Laws of the tables by place, one step of a loop each: a posting tallied, a candidate tested. Cited by the proofs of the code.
-- Assumes nothing.
use mathlib.Core.Path.{◌≡◌, refl, sym, ap, ◌∙◌}
use mathlib.Core.Logic.{⊎_elim}
use mathlib.Core.Bool.{Bool, true, false, cond, ◌&&◌, ◌||◌, or-false}
use mathlib.Core.List.{List, [], ◌∷◌, ◌++◌}
use Prim.Native.Nat.{ℕ, ◌+◌, ◌≤◌, ◌<◌}
use native.Mathlib.Numerals.{add-one}
use native.Mathlib.Omega.{arith}
use lib.ListN.{length, get_or, take, set, length-set, get_or-eq_default}
use lib.Seq.{take-suc, take-suc-set, length-take-le, get_or-set_same, get_or-set_other}
use lib.Dec.{eqb, ltb, leb}
use borrow.Author.Tests.{eq-eqb, ne_eqb, eqb-true, lt-ltb, le-ltb, le-leb}
use Rattle.laws.specs.Lists.{member, Distinct, Ascending, tabulate}
use Rattle.laws.proofs.Ascending.{ascending_at, rises_apart}
use Rattle.laws.proofs.Lists.{member_append, distinct_snoc, length_tabulate, get_d_tabulate, tabulate_ext}
use Rattle.laws.proofs.Tables.{table_set, tabulate_self, length_members}
use Rattle.laws.proofs.Order.{eq_or_ne, le_or_lt}
use Rattle.laws.specs.Below.{count_below}
use Rattle.laws.proofs.Below.{and_false_right, count_below_fewer}
use Rattle.index.specs.Good.{most_names}
use Rattle.candidates.specs.Tables.{holds_at, MetBy, tallied}

-- ---- ids are told apart by their places

pub ids_apart : (ids : List ℕ) → Ascending ids → (i j : ℕ) → i < length ids → j < length ids → get_or ids i 0 ≡ get_or ids j 0 → i ≡ j
ids_apart ids a = rises_apart (length ids) (λ (i : ℕ). get_or ids i 0) (ascending_at ids a)

-- ---- one posting tallied

-- nothing is held by no postings
pub tallied_nil : (ids l counts : List ℕ) → length counts ≡ most_names → tallied ids (take 0 l) counts ≡ counts
unfolding tallied holds_at member
tallied_nil ids l counts e =
    tabulate_ext (λ (i : ℕ). get_or counts i 0 + cond (ltb i (length ids) && false) 1 0) (λ (i : ℕ). get_or counts i 0) most_names
    (λ i h. zero_more (ltb i (length ids)) (get_or counts i 0))
    ∙ tabulate_self counts most_names e
  where
    zero_more : (b : Bool) (c : ℕ) → c + cond (b && false) 1 0 ≡ c
    zero_more true c = omega arith
    zero_more false c = omega arith

-- which names hold after one posting more: the one whose id it is, and those that held before
holds_more : (ids l : List ℕ) → Ascending ids → (k i : ℕ) → k < length l → i < length ids → get_or ids i 0 ≡ get_or l k 0
    → (j : ℕ) → (j ≡ i → ⊥) → holds_at ids (take (k + 1) l) j ≡ holds_at ids (take k l) j
unfolding holds_at member
holds_more ids l n k i h hi e j ne =
    ⊎_elim
    (λ (b : length ids ≤ j). rw (le-ltb j (length ids) b))
    (λ (b : j < length ids).
    let apart : eqb (get_or ids j 0) (get_or l k 0) ≡ false = ne_eqb (get_or ids j 0) (get_or l k 0) (λ q. ne (ids_apart ids n j i b hi (q ∙ sym e))) in
    ap (λ (m : Bool). ltb j (length ids) && m)
    (ap (λ (x : ℕ). member (get_or ids j 0) (take x l)) (add-one k)
    ∙ ap (member (get_or ids j 0)) (take-suc l k 0 h)
    ∙ member_append (get_or ids j 0) (take k l) (get_or l k 0 ∷ [])
    ∙ (rw apart (or-false (member (get_or ids j 0) (take k l))))))
    (le_or_lt (length ids) j)

-- the one whose id it is holds now
holds_now : (ids l : List ℕ) (k i : ℕ) → k < length l → i < length ids → get_or ids i 0 ≡ get_or l k 0 → holds_at ids (take (k + 1) l) i ≡ true
unfolding holds_at member
holds_now ids l k i h hi e =
    rw (lt-ltb i (length ids) hi)
    (ap (λ (x : ℕ). member (get_or ids i 0) (take x l)) (add-one k)
    ∙ ap (member (get_or ids i 0)) (take-suc l k 0 h)
    ∙ member_append (get_or ids i 0) (take k l) (get_or l k 0 ∷ [])
    ∙ (rw (eq-eqb (get_or ids i 0) (get_or l k 0) e) (or_all (member (get_or ids i 0) (take k l)))))
  where
    or_all : (b : Bool) → b || true ≡ true
    or_all true = refl
    or_all false = refl

-- one posting more: the count at its name's place is one more. The posting stood nowhere before in the list
pub tallied_step : (ids l counts : List ℕ) → length ids ≤ most_names → Ascending ids → (k i : ℕ) → k < length l → member (get_or l k 0) (take k l) ≡ false
    → i < length ids → get_or ids i 0 ≡ get_or l k 0
    → set (tallied ids (take k l) counts) i (get_or (tallied ids (take k l) counts) i 0 + 1) ≡ tallied ids (take (k + 1) l) counts
unfolding tallied holds_at
tallied_step ids l counts few n k i h fresh hi e =
    let im : i < most_names = omega arith in
    let f : ℕ → ℕ = λ (j : ℕ). get_or counts j 0 + cond (holds_at ids (take k l) j) 1 0 in
    let g : ℕ → ℕ = λ (j : ℕ). get_or counts j 0 + cond (holds_at ids (take (k + 1) l) j) 1 0 in
    let before : holds_at ids (take k l) i ≡ false = rw (e, fresh) (and_false_right (ltb i (length ids)) false refl) in
    let was : get_or (tabulate f most_names) i 0 ≡ get_or counts i 0 = get_d_tabulate f most_names i 0 im ∙ rw before (let z : get_or counts i 0 + 0 ≡ get_or counts i 0 = omega arith in z) in
    let will : g i ≡ get_or counts i 0 + 1 = rw (holds_now ids l k i h hi e) in
    table_set (tabulate f most_names) most_names i (get_or (tabulate f most_names) i 0 + 1) g (length_tabulate f most_names) im
    (will ∙ ap (λ (c : ℕ). c + 1) (sym was))
    (λ j jm ne. get_d_tabulate f most_names j 0 jm ∙ ap (λ (b : Bool). get_or counts j 0 + cond b 1 0) (sym (holds_more ids l n k i h hi e j ne)))

-- ---- the candidates met

-- past the table a count is 0
past : (counts : List ℕ) (i : ℕ) → length counts ≡ most_names → most_names ≤ i → leb 1 (get_or counts i 0) ≡ false
past counts i e h = ap (λ (c : ℕ). leb 1 c) (get_or-eq_default counts 0 (let l : length counts ≤ i = omega arith in l))

-- the candidates are as many as the places whose count is at least 1
pub met_count : (counts met : List ℕ) (m : ℕ) → MetBy counts met m → length counts ≡ most_names
    → m ≡ count_below most_names (λ (i : ℕ). leb 1 (get_or counts i 0))
met_count counts met m b e =
    sym (length-take-le m met b.within)
    ∙ length_members most_names (take m met) (λ (i : ℕ). leb 1 (get_or counts i 0)) b.distinct b.those (λ i h. past counts i e h)

-- none has been met where every count is 0
pub met_nil : (counts met : List ℕ) → ((i : ℕ) → get_or counts i 0 ≡ 0) → MetBy counts met 0
unfolding Distinct member
met_nil counts met z = record { within = omega arith; distinct = tt; those = λ i. ap (leb 1) (sym (z i)) }

-- a place whose count was 0 leaves room for one more
pub met_room : (counts met : List ℕ) (m i : ℕ) → MetBy counts met m → length counts ≡ most_names → i < most_names → get_or counts i 0 ≡ 0 → m < most_names
met_room counts met m i b e h z =
    rw (met_count counts met m b e)
    (count_below_fewer most_names (λ (j : ℕ). leb 1 (get_or counts j 0)) i h (ap (leb 1) z))

-- counts after one is stored
stored : (counts : List ℕ) (i v j : ℕ) → i < length counts → get_or (set counts i v) j 0 ≡ cond (eqb j i) v (get_or counts j 0)
stored counts i v j h =
    ⊎_elim
    (λ (q : j ≡ i). rw (eq-eqb j i q, q) (get_or-set_same counts i v 0 h))
    (λ (q : j ≡ i → ⊥). rw (ne_eqb j i q) (get_or-set_other counts i j v 0 q))
    (eq_or_ne j i)

-- a place that is met first is put behind the others
pub met_push : (counts met : List ℕ) (m i v : ℕ) → MetBy counts met m → length counts ≡ most_names → length met ≡ most_names
    → i < most_names → get_or counts i 0 ≡ 0 → 1 ≤ v → MetBy (set counts i v) (set met m i) (m + 1)
unfolding member
met_push counts met m i v b e f h z one =
    let room : m < length met = rw f (met_room counts met m i b e h z) in
    let more : take (m + 1) (set met m i) ≡ take m met ++ (i ∷ []) = ap (λ (n : ℕ). take n (set met m i)) (add-one m) ∙ take-suc-set met m i room in
    let absent : member i (take m met) ≡ false = b.those i ∙ ap (leb 1) z in
    record {
      within = rw length-set (omega arith);
      distinct = rw more (distinct_snoc (take m met) i b.distinct absent);
      those =
          λ j.
          ap (member j) more
          ∙ member_append j (take m met) (i ∷ [])
          ∙ (rw (b.those j, stored counts i v j (rw e h)) (by_test j (eqb j i) refl));
    }
  where
    by_test : (j : ℕ) (c : Bool) → eqb j i ≡ c → leb 1 (get_or counts j 0) || (c || false) ≡ leb 1 (cond c v (get_or counts j 0))
    by_test j true q = rw (le-leb 1 v one, ap (λ (n : ℕ). get_or counts n 0) (eqb-true j i q), z)
    by_test j false q = or-false (leb 1 (get_or counts j 0))

-- a place that was met before stays met
pub met_keep : (counts met : List ℕ) (m i v : ℕ) → MetBy counts met m → i < length counts → 1 ≤ get_or counts i 0 → 1 ≤ v
    → MetBy (set counts i v) met m
met_keep counts met m i v b h was one =
    record {
      within = b.within;
      distinct = b.distinct;
      those = λ j. b.those j ∙ (rw (stored counts i v j h) (by_test j (eqb j i) refl));
    }
  where
    by_test : (j : ℕ) (c : Bool) → eqb j i ≡ c → leb 1 (get_or counts j 0) ≡ leb 1 (cond c v (get_or counts j 0))
    by_test j true q = rw (le-leb 1 v one) (ap (λ (n : ℕ). leb 1 (get_or counts n 0)) (eqb-true j i q) ∙ le-leb 1 (get_or counts i 0) was)
    by_test j false q = refl

-- counts stay small
pub tallied_bound : (ids l counts : List ℕ) (b : ℕ) → ((i : ℕ) → get_or counts i 0 ≤ b) → (i : ℕ) → get_or (tallied ids l counts) i 0 ≤ b + 1
unfolding tallied
tallied_bound ids l counts b h i =
    ⊎_elim
    (λ (q : most_names ≤ i).
    let z = get_or-eq_default (tabulate (λ (j : ℕ). get_or counts j 0 + cond (holds_at ids l j) 1 0) most_names) 0 {n = i} (rw length_tabulate q) in
    omega arith)
    (λ (q : i < most_names).
    rw (get_d_tabulate (λ (j : ℕ). get_or counts j 0 + cond (holds_at ids l j) 1 0) most_names i 0 q) (by_test (holds_at ids l i) (h i)))
    (le_or_lt most_names i)
  where
    by_test : (t : Bool) → get_or counts i 0 ≤ b → get_or counts i 0 + cond t 1 0 ≤ b + 1
    by_test true k = omega arith
    by_test false k = omega arith
