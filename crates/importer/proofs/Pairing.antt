-- The pairs of an import: which there are, and what their sums and counts are, by the lines. specs/Demands.antt says it.
-- Assumes nothing.
use mathlib.Core.Path.{◌≡◌, refl, sym, ap, ap₂, ◌∙◌}
use mathlib.Core.Logic.{⊎_elim}
use mathlib.Core.Bool.{Bool, true, false, cond, not, ◌&&◌, ◌||◌}
use mathlib.Core.List.{List, [], ◌∷◌, ◌++◌, map, map-append}
use Prim.Native.Nat.{ℕ, zero, suc, ◌+◌, ◌<◌}
use native.Mathlib.Omega.{arith}
use lib.ListN.{length, get_or}
use lib.Dec.{eqb}
use borrow.Author.Tests.{eq-eqb, eqb-true}
use Rattle.laws.specs.Lists.{member, sum_of}
use Rattle.laws.proofs.Lists.{eqb_swap}
use Rattle.laws.proofs.Tests.{same_test, and_parts}
use Rattle.laws.proofs.Members.{member_nil, member_left, member_right, member_append_cases}
use Rattle.fields.specs.Layouts.{is_frame}
use Rattle.log_frames.specs.Frames.{log_frame}
use Rattle.statements.proofs.LogFrames.{log_frames}
use Rattle.weeks.specs.Pairs.{week_of, missing, pair_of, entry_of, pair_in, reading_in as reading_of, present, amount, tally}
use Rattle.weeks.proofs.Laws.{member_pairs, ascending_pairs}
use Rattle.importer.specs.declared.Settings.{Settings}
use Rattle.importer.specs.declared.Outcome.{Outcome}
use Rattle.importer.specs.declared.Outcome.TheVariants.{Belongs, Unresolved, Ambiguous, Refused}
use Rattle.importer.specs.Import.{day_in, reading_in, outcome_of, entry_from, entry_in, entries_of}
use Rattle.importer.specs.Demands.{belongs_to, is_there, readings_of, Pairs}

-- ---- an entry and its parts again

pair_back : (pair reading : ℕ) → reading < 65536 → pair_in (entry_of pair reading) ≡ pair
pair_back pair reading h = omega arith

reading_back : (pair reading : ℕ) → reading < 65536 → reading_of (entry_of pair reading) ≡ reading
reading_back pair reading h = omega arith

-- a pair is of an id and a week exactly if both are its own
pair_test : (id week other w : ℕ) → week < 65536 → w < 65536 → eqb (pair_of other w) (pair_of id week) ≡ eqb other id && eqb w week
pair_test id week other w a b =
    same_test (eqb (pair_of other w) (pair_of id week)) (eqb other id && eqb w week)
    (λ e. let q = eqb-true (pair_of other w) (pair_of id week) e in let x : other ≡ id = omega arith in let y : w ≡ week = omega arith in rw (eq-eqb other id x, eq-eqb w week y))
    (λ e.
    let p = and_parts (eqb other id) (eqb w week) e in
    let x = eqb-true other id p.0 in
    let y = eqb-true w week p.1 in
    eq-eqb (pair_of other w) (pair_of id week) (omega arith))

-- ---- what one line adds

sum_append : (f : ℕ → ℕ) (k l : List ℕ) → sum_of (map f (k ++ l)) ≡ sum_of (map f k) + sum_of (map f l)
unfolding sum_of
sum_append f [] l = omega arith
sum_append f (x ∷ k) l = let h = sum_append f k l in omega arith

module _ (id week : ℕ) (a : week < 65536) where
  -- over what an entry adds, v where it is of the pair and its reading is there
  one_line : (g : ℕ → ℕ → ℕ) (v : ℕ → ℕ) → ((k e : ℕ) → g k e ≡ cond (eqb (pair_in e) k && present e) (v (reading_of e)) 0)
      → (o : Outcome) (day reading : ℕ) → day < 65536 → reading < 65536
      → sum_of (map (g (pair_of id week)) (entry_from o day reading)) ≡ cond ((belongs_to id o && eqb (week_of day) week) && not (eqb reading missing)) (v reading) 0
  unfolding entry_from sum_of
  one_line g v e (Belongs other) day reading d r =
      let w : week_of day < 65536 = omega arith in
      let x = e (pair_of id week) (entry_of (pair_of other (week_of day)) reading) in
      let p = pair_back (pair_of other (week_of day)) reading r in
      let q = reading_back (pair_of other (week_of day)) reading r in
      let t = pair_test id week other (week_of day) a w in
      let y : g (pair_of id week) (entry_of (pair_of other (week_of day)) reading) ≡ cond ((eqb other id && eqb (week_of day) week) && not (eqb reading missing)) (v reading) 0 = rw (p, q, t) at x in
      rw y (omega arith)
  one_line g v e Unresolved day reading d r = refl
  one_line g v e Ambiguous day reading d r = refl
  one_line g v e (Refused number) day reading d r = refl

  module _ (words : List ℕ) (s : Settings) where
    -- and all lines
    all_lines : (g : ℕ → ℕ → ℕ) (v : ℕ → ℕ) → ((k e : ℕ) → g k e ≡ cond (eqb (pair_in e) k && present e) (v (reading_of e)) 0)
        → (ls : List (List ℕ)) → ((i : ℕ) → i < length ls → is_frame log_frame (get_or ls i []) ≡ true)
        → sum_of (map (g (pair_of id week)) (entries_of words s ls)) ≡ sum_of (map v (readings_of words s id week ls))
    unfolding entries_of readings_of sum_of
    all_lines g v e [] h = refl
    all_lines g v e (l ∷ ls) h =
        let b = log_frames.log_fields l (h 0 (omega arith)) in
        let x = one_line g v e (outcome_of words s l) (day_in l) (reading_in l) b.0 b.1 in
        let r = all_lines g v e ls (λ i k. h (suc i) (omega arith)) in
        sum_append (g (pair_of id week)) (entry_in words s l) (entries_of words s ls)
        ∙ ap₂ ◌+◌ x r
        ∙ by_test (is_there words s id week l && not (eqb (reading_in l) missing))
      where
        by_test : (t : Bool) → cond t (v (reading_in l)) 0 + sum_of (map v (readings_of words s id week ls))
            ≡ sum_of (map v (cond t (reading_in l ∷ readings_of words s id week ls) (readings_of words s id week ls)))
        by_test true = refl
        by_test false = omega arith

sum_self : (l : List ℕ) → sum_of (map (λ (x : ℕ). x) l) ≡ sum_of l
unfolding sum_of
sum_self [] = refl
sum_self (x ∷ l) = ap (λ (n : ℕ). x + n) (sum_self l)

sum_ones : (l : List ℕ) → sum_of (map (λ (x : ℕ). 1) l) ≡ length l
unfolding sum_of
sum_ones [] = refl
sum_ones (x ∷ l) = let h = sum_ones l in omega arith

-- ---- which pairs there are

or_false : (b : Bool) → b || false ≡ b
or_false true = refl
or_false false = refl

module _ (words : List ℕ) (s : Settings) (id week : ℕ) (a : week < 65536) where
  one_stands : (o : Outcome) (day reading : ℕ) → day < 65536 → reading < 65536
      → member (pair_of id week) (map pair_in (entry_from o day reading)) ≡ belongs_to id o && eqb (week_of day) week
  unfolding entry_from member
  one_stands (Belongs other) day reading d r =
      let w : week_of day < 65536 = omega arith in
      let p = pair_back (pair_of other (week_of day)) reading r in
      let t = pair_test id week other (week_of day) a w in
      rw p (or_false (eqb (pair_of id week) (pair_of other (week_of day))) ∙ eqb_swap (pair_of id week) (pair_of other (week_of day)) ∙ t)
  one_stands Unresolved day reading d r = refl
  one_stands Ambiguous day reading d r = refl
  one_stands (Refused number) day reading d r = refl

  there : (ls : List (List ℕ)) → ((i : ℕ) → i < length ls → is_frame log_frame (get_or ls i []) ≡ true)
      → member (pair_of id week) (map pair_in (entries_of words s ls)) ≡ true → (i : ℕ) × (i < length ls) × (is_there words s id week (get_or ls i []) ≡ true)
  unfolding entries_of
  there [] h m = absurd (member_nil (pair_of id week) m)
  there (l ∷ ls) h m =
      let b = log_frames.log_fields l (h 0 (omega arith)) in
      let e = one_stands (outcome_of words s l) (day_in l) (reading_in l) b.0 b.1 in
      let again = there ls (λ i k. h (suc i) (omega arith)) in
      ⊎_elim
      (λ (q : member (pair_of id week) (map pair_in (entry_in words s l)) ≡ true). (0, omega arith, sym e ∙ q))
      (λ (q : member (pair_of id week) (map pair_in (entries_of words s ls)) ≡ true). let r = again q in (suc r.0, omega (arith, r.1), r.2))
      (member_append_cases (pair_of id week) (map pair_in (entry_in words s l)) (map pair_in (entries_of words s ls)) (sym (ap (member (pair_of id week)) (map-append pair_in (entry_in words s l) (entries_of words s ls))) ∙ m))

  back : (ls : List (List ℕ)) → ((i : ℕ) → i < length ls → is_frame log_frame (get_or ls i []) ≡ true)
      → (i : ℕ) → i < length ls → is_there words s id week (get_or ls i []) ≡ true → member (pair_of id week) (map pair_in (entries_of words s ls)) ≡ true
  unfolding entries_of
  back [] h i k t = absurd (omega arith)
  back (l ∷ ls) h zero k t =
      let b = log_frames.log_fields l (h 0 (omega arith)) in
      let e = one_stands (outcome_of words s l) (day_in l) (reading_in l) b.0 b.1 in
      ap (member (pair_of id week)) (map-append pair_in (entry_in words s l) (entries_of words s ls))
      ∙ member_left (pair_of id week) (map pair_in (entry_in words s l)) (map pair_in (entries_of words s ls)) (e ∙ t)
  back (l ∷ ls) h (suc i) k t =
      ap (member (pair_of id week)) (map-append pair_in (entry_in words s l) (entries_of words s ls))
      ∙ member_right (pair_of id week) (map pair_in (entry_in words s l)) (map pair_in (entries_of words s ls)) (back ls (λ j q. h (suc j) (omega arith)) i (omega arith) t)

amount_so : (k e : ℕ) → amount k e ≡ cond (eqb (pair_in e) k && present e) (reading_of e) 0
unfolding amount
amount_so k e = refl

tally_so : (k e : ℕ) → tally k e ≡ cond (eqb (pair_in e) k && present e) 1 0
unfolding tally
tally_so k e = refl

pub pairs : Pairs
pairs ls words s h =
    record {
      stands = λ id week a. (
        λ m. there words s id week a ls h (sym (member_pairs (pair_of id week) (entries_of words s ls)) ∙ m),
        λ t. member_pairs (pair_of id week) (entries_of words s ls) ∙ back words s id week a ls h t.0 t.1 t.2,
      );
      ascending = ascending_pairs (entries_of words s ls);
      apart = λ id week a. (omega arith, omega arith);
      sum = λ id week a. all_lines id week a words s amount (λ (x : ℕ). x) amount_so ls h ∙ sum_self (readings_of words s id week ls);
      count = λ id week a. all_lines id week a words s tally (λ (x : ℕ). 1) tally_so ls h ∙ sum_ones (readings_of words s id week ls);
    }
