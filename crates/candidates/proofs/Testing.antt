-- Laws of the test of each candidate against one later list: what the tables hold after k candidates. Cited by the proofs of `sift` and `tally`
-- and by Places.antt.
-- Assumes nothing.
use mathlib.Core.Path.{◌≡◌, refl, sym, ap, ap₂, ◌∙◌}
use mathlib.Core.Logic.{⊎_elim}
use mathlib.Core.Bool.{Bool, true, false, cond, ◌&&◌, ◌||◌, true≢false}
use mathlib.Core.List.{List, [], ◌∷◌, ◌++◌, append-nil}
use Prim.Native.Nat.{ℕ, zero, suc, ◌+◌, ◌≤◌, ◌<◌}
use native.Mathlib.Numerals.{add-one}
use native.Mathlib.Omega.{arith}
use lib.ListN.{length, get_or, take, drop, set, length-set, get_or-eq_default}
use lib.Seq.{take-take, drop-drop, take-suc, take-suc-set, length-take-le, drop-set-lt, get_or-set_same, get_or-set_other, get_or-drop, get_or-take}
use lib.Dec.{eqb, leb}
use borrow.Author.Tests.{eq-eqb, ne_eqb, eqb-true, lt-ltb, le-ltb, le-leb, leb-true, leb-false}
use Rattle.laws.specs.Lists.{member, Distinct}
use Rattle.laws.specs.Filter.{filter_of}
use Rattle.laws.proofs.Lists.{member_append}
use Rattle.laws.proofs.Members.{member_at}
use Rattle.laws.proofs.Filter.{filter_nil, filter_snoc, member_filter, distinct_filter}
use Rattle.laws.proofs.Tables.{table_of}
use Rattle.laws.proofs.Order.{eq_or_ne, le_or_lt}
use Rattle.index.specs.Good.{most_names}
use Rattle.candidates.specs.Tables.{holds_at, MetBy, tested_at, tested}

drop_next : (a b : List ℕ) (k : ℕ) → drop k a ≡ drop k b → drop (k + 1) a ≡ drop (k + 1) b
drop_next a b k e = sym (drop-drop 1 k a) ∙ ap (drop 1) e ∙ drop-drop 1 k b

-- an element stands nowhere before its own place in a list without repeats
pub distinct_fresh : (l : List ℕ) (k : ℕ) → Distinct l → k < length l → member (get_or l k 0) (take k l) ≡ false
unfolding Distinct member
distinct_fresh [] k d h = absurd (omega arith)
distinct_fresh (x ∷ l) zero d h = refl
distinct_fresh (x ∷ l) (suc k) d h = by_test (eqb (get_or l k 0) x) refl (distinct_fresh l k d.1 (omega arith))
  where
    by_test : (b : Bool) → eqb (get_or l k 0) x ≡ b → member (get_or l k 0) (take k l) ≡ false → b || member (get_or l k 0) (take k l) ≡ false
    by_test true q r =
        absurd (true≢false (sym (member_at l k (omega arith)) ∙ ap (λ (y : ℕ). member y l) (eqb-true (get_or l k 0) x q) ∙ d.0))
    by_test false q r = r

module _ (ids l : List ℕ) (needed : ℕ) (counts₀ met₀ : List ℕ) (m₀ : ℕ) where
  -- after the first k candidates: their counts are tested and the others' are as before, those that stay stand in front, the rest is unread
  pub record Testing (counts met : List ℕ) (m k : ℕ) : Type 0 where
    pub passed : k ≤ m₀
    pub front : m ≤ k
    pub wide : length counts ≡ most_names
    pub long : length met ≡ most_names
    pub long₀ : length met₀ ≡ most_names
    pub counted : (i : ℕ) → get_or counts i 0 ≡ cond (member i (take k met₀)) (tested_at ids l needed counts₀ i) (get_or counts₀ i 0)
    pub stay : take m met ≡ filter_of (λ (i : ℕ). leb 1 (tested_at ids l needed counts₀ i)) (take k met₀)
    pub unread : drop k met ≡ drop k met₀

  pub testing_starts : length counts₀ ≡ most_names → length met₀ ≡ most_names → Testing counts₀ met₀ 0 0
  unfolding member
  testing_starts e f =
      record {
        passed = omega arith;
        front = omega arith;
        wide = e;
        long = f;
        long₀ = f;
        counted = λ i. refl;
        stay = sym (filter_nil (λ (i : ℕ). leb 1 (tested_at ids l needed counts₀ i)));
        unread = refl;
      }

  module _ (start : MetBy counts₀ met₀ m₀) (counts met : List ℕ) (m k : ℕ) (t : Testing counts met m k) (more : k < m₀) where
    inside : k < length met₀
    inside = let w = start.within in omega arith

    -- the next candidate is the next of those met
    pub next_candidate : get_or met k 0 ≡ get_or met₀ k 0
    next_candidate =
        let z : k + 0 ≡ k = omega arith in
        ap (λ (j : ℕ). get_or met j 0) (sym z) ∙ sym (get_or-drop k met 0 0) ∙ ap (λ (r : List ℕ). get_or r 0 0) t.unread ∙ get_or-drop k met₀ 0 0 ∙ ap (λ (j : ℕ). get_or met₀ j 0) z

    -- it is not among the first k
    fresh : member (get_or met₀ k 0) (take k met₀) ≡ false
    fresh =
        let g : get_or (take m₀ met₀) k 0 ≡ get_or met₀ k 0 = get_or-take m₀ met₀ k 0 more in
        let n : length (take m₀ met₀) ≡ m₀ = length-take-le m₀ met₀ start.within in
        let s : take k (take m₀ met₀) ≡ take k met₀ = take-take k m₀ met₀ (omega arith) in
        ap₂ (λ (x : ℕ) (r : List ℕ). member x r) (sym g) (sym s) ∙ distinct_fresh (take m₀ met₀) k start.distinct (rw n more)

    -- its count is still the one that it came with
    pub count_before : get_or counts (get_or met₀ k 0) 0 ≡ get_or counts₀ (get_or met₀ k 0) 0
    count_before = t.counted (get_or met₀ k 0) ∙ rw fresh

    -- which is at least 1
    pub count_positive : 1 ≤ get_or counts₀ (get_or met₀ k 0) 0
    count_positive =
        let g : get_or (take m₀ met₀) k 0 ≡ get_or met₀ k 0 = get_or-take m₀ met₀ k 0 more in
        let n : length (take m₀ met₀) ≡ m₀ = length-take-le m₀ met₀ start.within in
        leb-true 1 (get_or counts₀ (get_or met₀ k 0) 0) (sym (start.those (get_or met₀ k 0)) ∙ ap (λ (x : ℕ). member x (take m₀ met₀)) (sym g) ∙ member_at (take m₀ met₀) k (rw n more))

    -- its place is within the table
    pub place_within : get_or met₀ k 0 < most_names
    place_within =
        ⊎_elim
        (λ (h : most_names ≤ get_or met₀ k 0).
        let c = count_positive in
        let b = count_before in
        let w = t.wide in
        let z = get_or-eq_default counts 0 (let q : length counts ≤ get_or met₀ k 0 = omega arith in q) in
        absurd (omega arith))
        (λ (h : get_or met₀ k 0 < most_names). h)
        (le_or_lt most_names (get_or met₀ k 0))

    -- the first k + 1 of those met
    take_next : take (k + 1) met₀ ≡ take k met₀ ++ (get_or met₀ k 0 ∷ [])
    take_next = ap (λ (n : ℕ). take n met₀) (add-one k) ∙ take-suc met₀ k 0 inside

    -- the counts after the candidate's count is stored
    counted_next : (v : ℕ) → v ≡ tested_at ids l needed counts₀ (get_or met₀ k 0) → (i : ℕ)
        → get_or (set counts (get_or met₀ k 0) v) i 0
        ≡ cond (member i (take (k + 1) met₀)) (tested_at ids l needed counts₀ i) (get_or counts₀ i 0)
    unfolding member
    counted_next v e i =
        rw (take_next, member_append i (take k met₀) (get_or met₀ k 0 ∷ []))
        (⊎_elim
        (λ (q : i ≡ get_or met₀ k 0).
        rw (eq-eqb i (get_or met₀ k 0) q, q)
        (get_or-set_same counts (get_or met₀ k 0) v 0 (rw t.wide place_within) ∙ e ∙ either (member (get_or met₀ k 0) (take k met₀))))
        (λ (q : i ≡ get_or met₀ k 0 → ⊥).
        rw (ne_eqb i (get_or met₀ k 0) q)
        (get_or-set_other counts (get_or met₀ k 0) i v 0 q ∙ t.counted i ∙ neither (member i (take k met₀))))
        (eq_or_ne i (get_or met₀ k 0)))
      where
        either : (b : Bool) → tested_at ids l needed counts₀ (get_or met₀ k 0) ≡ cond (b || (true || false)) (tested_at ids l needed counts₀ (get_or met₀ k 0)) (get_or counts₀ (get_or met₀ k 0) 0)
        either true = refl
        either false = refl

        neither : (b : Bool) → cond b (tested_at ids l needed counts₀ i) (get_or counts₀ i 0) ≡ cond (b || (false || false)) (tested_at ids l needed counts₀ i) (get_or counts₀ i 0)
        neither true = refl
        neither false = refl

    -- a candidate that is dropped
    pub testing_drops : tested_at ids l needed counts₀ (get_or met₀ k 0) ≡ 0 → Testing (set counts (get_or met₀ k 0) 0) met m (k + 1)
    testing_drops e =
        record {
          passed = omega arith;
          front = (let f = t.front in omega arith);
          wide = length-set counts (get_or met₀ k 0) 0 ∙ t.wide;
          long = t.long;
          long₀ = t.long₀;
          counted = counted_next 0 (sym e);
          stay =
              t.stay
              ∙ sym
              (ap (filter_of (λ (i : ℕ). leb 1 (tested_at ids l needed counts₀ i))) take_next
              ∙ filter_snoc (λ (i : ℕ). leb 1 (tested_at ids l needed counts₀ i)) (take k met₀) (get_or met₀ k 0)
              ∙ (rw e (append-nil (filter_of (λ (i : ℕ). leb 1 (tested_at ids l needed counts₀ i)) (take k met₀)))));
          unread = drop_next met met₀ k t.unread;
        }

    -- a candidate that stays, with its count v
    pub testing_keeps : (v : ℕ) → v ≡ tested_at ids l needed counts₀ (get_or met₀ k 0) → 1 ≤ v
        → Testing (set counts (get_or met₀ k 0) v) (set met m (get_or met₀ k 0)) (m + 1) (k + 1)
    testing_keeps v e one =
        let f = t.front in
        let w = t.long in
        let i = inside in
        let b = start.within in
        let g = t.long₀ in
        let room : m < length met = omega arith in
        record {
          passed = omega arith;
          front = omega arith;
          wide = length-set counts (get_or met₀ k 0) v ∙ t.wide;
          long = length-set met m (get_or met₀ k 0) ∙ t.long;
          long₀ = t.long₀;
          counted = counted_next v e;
          stay =
              ap (λ (n : ℕ). take n (set met m (get_or met₀ k 0))) (add-one m)
              ∙ take-suc-set met m (get_or met₀ k 0) room
              ∙ ap (λ (r : List ℕ). r ++ (get_or met₀ k 0 ∷ [])) t.stay
              ∙ sym
              (ap (filter_of (λ (i : ℕ). leb 1 (tested_at ids l needed counts₀ i))) take_next
              ∙ filter_snoc (λ (i : ℕ). leb 1 (tested_at ids l needed counts₀ i)) (take k met₀) (get_or met₀ k 0)
              ∙ (rw (← e, le-leb 1 v one)));
          unread = drop-set-lt (k + 1) met m (get_or met₀ k 0) (omega arith) ∙ drop_next met met₀ k t.unread;
        }

  -- who had no count keeps none
  tested_none : (i : ℕ) → get_or counts₀ i 0 ≡ 0 → tested_at ids l needed counts₀ i ≡ 0
  unfolding tested_at
  tested_none i e = rw (eq-eqb (get_or counts₀ i 0) 0 e)

  -- after all candidates: every count is tested, and those met are those that stay
  pub testing_ends : MetBy counts₀ met₀ m₀ → (counts met : List ℕ) (m : ℕ) → Testing counts met m m₀
      → (counts ≡ tested ids l needed counts₀) × MetBy counts met m
  unfolding tested
  testing_ends start counts met m t = (
    table_of counts most_names (tested_at ids l needed counts₀) t.wide (λ i h. t.counted i ∙ all_tested i (member i (take m₀ met₀)) refl),
    record {
      within = (let f = t.front in let w = start.within in let a = t.long in let b = t.long₀ in omega arith);
      distinct = rw t.stay (distinct_filter (λ (i : ℕ). leb 1 (tested_at ids l needed counts₀ i)) (take m₀ met₀) start.distinct);
      those =
          λ i.
          ap (member i) t.stay
          ∙ member_filter (λ (j : ℕ). leb 1 (tested_at ids l needed counts₀ j)) i (take m₀ met₀)
          ∙ rw (t.counted i) (those_left i (member i (take m₀ met₀)) refl);
    },
  )
    where
      none : (i : ℕ) → member i (take m₀ met₀) ≡ false → get_or counts₀ i 0 ≡ 0
      none i q = let h = leb-false 1 (get_or counts₀ i 0) (sym (start.those i) ∙ q) in omega arith

      all_tested : (i : ℕ) (b : Bool) → member i (take m₀ met₀) ≡ b → cond b (tested_at ids l needed counts₀ i) (get_or counts₀ i 0) ≡ tested_at ids l needed counts₀ i
      all_tested i true q = refl
      all_tested i false q = none i q ∙ sym (tested_none i (none i q))

      those_left : (i : ℕ) (b : Bool) → member i (take m₀ met₀) ≡ b
          → b && leb 1 (tested_at ids l needed counts₀ i) ≡ leb 1 (cond b (tested_at ids l needed counts₀ i) (get_or counts₀ i 0))
      those_left i true q = refl
      those_left i false q = sym (ap (leb 1) (none i q))

-- ---- what a test makes of one count

module _ (ids l : List ℕ) (needed : ℕ) (counts : List ℕ) (i c : ℕ) (there : i < length ids) (one : 1 ≤ get_or counts i 0)
    (e : c ≡ get_or counts i 0 + cond (member (get_or ids i 0) l) 1 0) where
  held : get_or counts i 0 + cond (holds_at ids l i) 1 0 ≡ c
  unfolding holds_at
  held = rw (lt-ltb i (length ids) there) (sym e)

  pub tested_drops : c < needed → tested_at ids l needed counts i ≡ 0
  unfolding tested_at
  tested_drops h = rw (ne_eqb (get_or counts i 0) 0 (λ z. omega arith), held, lt-ltb c needed h)

  pub tested_stays : needed ≤ c → tested_at ids l needed counts i ≡ c
  unfolding tested_at
  tested_stays h = rw (ne_eqb (get_or counts i 0) 0 (λ z. omega arith), held, le-ltb c needed h)
