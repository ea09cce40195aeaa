-- The whole: the answer and what is lent, by what the lines, the search and the pairs came to.
-- Assumes nothing.
use mathlib.Core.Path.{◌≡◌, refl, ap, ◌∙◌}
use mathlib.Core.Bool.{Bool, true, false, cond, ◌&&◌}
use mathlib.Core.List.{List, map}
use Rattle.std.specs.Prelude.{Result, Ok, Err, MatchResult}
use Prim.Native.Nat.{ℕ, ◌≤◌, ◌<◌}
use native.Mathlib.Omega.{arith}
use lib.ListN.{length, take, drop, length-map}
use lib.Seq.{take_at}
use lib.Dec.{eqb, leb}
use borrow.Author.Tests.{le-leb, lt-leb, leb-true, eq-eqb, ne_eqb, eqb-true, eqb-false}
use Rattle.laws.proofs.Tests.{and_parts}
use Rattle.lines.specs.Lines.{lines_of}
use Rattle.refusals.specs.declared.Refusal.{Refusal}
use Rattle.refusals.specs.declared.LineRefusal.{LineRefusal}
use Rattle.refusals.specs.Refusals.{refusal_number}
use Rattle.refusals.proofs.Refusals.{refused}
use Rattle.weeks.specs.Pairs.{pairs_of, Columns, room_of, columns_of, over, columns_over, fits, Paired, paired_in, paired_of, columns_after}
use Rattle.importer.specs.declared.Settings.{Settings}
use Rattle.importer.specs.declared.Outcome.{Outcome}
use Rattle.importer.specs.Import.{outcome_of, case_of, value_of, verdict_on, Outcomes, as_outcomes, outcome_room, outcomes_over, Imported, outcomes_in, entries_in, fits_in, imported_of, outcomes_after, pairs_after}
use Rattle.importer.specs.Steps.{AllGood, FirstBad, Taken, Imports}

-- ---- by what decides it

-- whatever holds of an answer, of 8 where the lines or the pairs have no room, and of the first line that is refused, holds of an import
pub imported_cases : (log words : List ℕ) (s : Settings) (lines pairs : ℕ) (P : Imported → Type 0)
    → ((verdict_on log).number ≡ 0 → length (lines_of log) ≤ lines → length (pairs_of (entries_in log words s)) ≤ pairs
    → P (record { number = 0; line = 0; lines = length (lines_of log); pairs = length (pairs_of (entries_in log words s)) }))
    → ((verdict_on log).number ≡ 0 → fits_in log words s lines pairs ≡ false → P (record { number = 8; line = 0; lines = 0; pairs = 0 }))
    → (((verdict_on log).number ≡ 0 → ⊥) → P (record { number = (verdict_on log).number; line = (verdict_on log).line; lines = 0; pairs = 0 }))
    → P (imported_of log words s lines pairs)
unfolding imported_of
imported_cases log words s lines pairs P answered full bad = by (eqb (verdict_on log).number 0) refl (fits_in log words s lines pairs) refl
  where
    by : (a : Bool) → eqb (verdict_on log).number 0 ≡ a → (b : Bool) → fits_in log words s lines pairs ≡ b
        → P (cond a
        (cond b
        (record { number = 0; line = 0; lines = length (lines_of log); pairs = length (pairs_of (entries_in log words s)) })
        (record { number = 8; line = 0; lines = 0; pairs = 0 }))
        (record { number = (verdict_on log).number; line = (verdict_on log).line; lines = 0; pairs = 0 }))
    by true e true f =
        let g = and_parts (leb (length (lines_of log)) lines) (leb (length (pairs_of (entries_in log words s))) pairs) f in
        answered (eqb-true (verdict_on log).number 0 e) (leb-true (length (lines_of log)) lines g.0) (leb-true (length (pairs_of (entries_in log words s))) pairs g.1)
    by true e false f = full (eqb-true (verdict_on log).number 0 e) f
    by false e b f = bad (eqb-false (verdict_on log).number 0 e)

module _ (log words : List ℕ) (s : Settings) (o : Outcomes) (c : Columns) where
  -- ---- a line that is refused

  pub import_bad : ((verdict_on log).number ≡ 0 → ⊥)
      → Imports log words s o c o c (record { number = (verdict_on log).number; line = (verdict_on log).line; lines = 0; pairs = 0 })
  unfolding imported_of outcomes_after pairs_after
  import_bad n =
      let e : eqb (verdict_on log).number 0 ≡ false = ne_eqb (verdict_on log).number 0 n in
      record { answer = rw e; outcomes = rw (e, e); pairs = rw (e, e) }

  pub import_refused : (num at : ℕ) → FirstBad log num at → Imports log words s o c o c (record { number = num; line = at; lines = 0; pairs = 0 })
  import_refused num at j = rw (j.number, j.line) (import_bad (λ q. j.refused (j.number ∙ q)))

  -- ---- too little room

  pub import_full : (verdict_on log).number ≡ 0 → fits_in log words s (outcome_room o) (room_of c) ≡ false
      → Imports log words s o c o c (record { number = 8; line = 0; lines = 0; pairs = 0 })
  unfolding imported_of outcomes_after pairs_after
  import_full z f =
      let e : eqb (verdict_on log).number 0 ≡ true = eq-eqb (verdict_on log).number 0 z in
      record { answer = rw (e, f); outcomes = rw (e, f); pairs = rw (e, f) }

  -- for the lines
  pub lines_full : (n : ℕ) → AllGood log n → outcome_room o < n → Imports log words s o c o c (record { number = 8; line = 0; lines = 0; pairs = 0 })
  lines_full n j h =
      let q = j.lines in
      let f : leb (length (lines_of log)) (outcome_room o) ≡ false = lt-leb (length (lines_of log)) (outcome_room o) (omega arith) in
      import_full j.number (rw f)

  -- for the pairs
  fits_not : (entries : List ℕ) (r : Refusal) (c' : Columns) → paired_in (Err r) ≡ paired_of entries (room_of c) → c' ≡ columns_after entries c
      → (fits entries (room_of c) ≡ false) × (c' ≡ c) × (refusal_number r ≡ 8)
  unfolding paired_of columns_after
  fits_not entries r c' e f = by_test (fits entries (room_of c)) refl
    where
      by_test : (b : Bool) → fits entries (room_of c) ≡ b → (fits entries (room_of c) ≡ false) × (c' ≡ c) × (refusal_number r ≡ 8)
      by_test true q =
          let w : paired_of entries (room_of c) ≡ record { number = 0; pairs = length (pairs_of entries) } = rw q in
          absurd (refused r (ap (λ (x : Paired). x.number) (e ∙ w)))
      by_test false q =
          let w : paired_of entries (room_of c) ≡ record { number = 8; pairs = 0 } = rw q in
          (q, f ∙ (rw q), ap (λ (x : Paired). x.number) (e ∙ w))

  -- as the code has it: a refusal about no line
  pub pairs_full : (verdict_on log).number ≡ 0 → (tables after : Outcomes) (e : List ℕ) (k : ℕ) → Taken log words s tables after e k
      → (r : Result ℕ Refusal) (b : LineRefusal) (c' : Columns) → MatchResult r (λ m. ⊥) (λ x. b ≡ record { refusal = x; line = 0 })
      → paired_in r ≡ paired_of (take k e) (room_of c) → c' ≡ columns_after (take k e) c
      → Imports log words s o c o c' (record { number = refusal_number b.refusal; line = b.line; lines = 0; pairs = 0 })
  pairs_full z tables after e k t (Ok m) b c' a p q = absurd a
  pairs_full z tables after e k t (Err x) b c' a p q =
      let g = fits_not (take k e) x c' p q in
      let f : leb (length (pairs_of (entries_in log words s))) (room_of c) ≡ false = rw t.entries at g.0 in
      rw (a, g.1, g.2) (import_full z (rw f (both (leb (length (lines_of log)) (outcome_room o)))))
    where
      both : (b : Bool) → b && false ≡ false
      both true = refl
      both false = refl

  -- ---- all of it

  pub import_good : (verdict_on log).number ≡ 0 → length (lines_of log) ≤ outcome_room o → fits (entries_in log words s) (room_of c) ≡ true
      → Imports log words s o c (outcomes_over (outcomes_in log words s) o) (columns_over (columns_of (entries_in log words s)) c)
      (record { number = 0; line = 0; lines = length (lines_of log); pairs = length (pairs_of (entries_in log words s)) })
  unfolding imported_of outcomes_after pairs_after
  import_good z h f =
      let e : eqb (verdict_on log).number 0 ≡ true = eq-eqb (verdict_on log).number 0 z in
      let g : leb (length (lines_of log)) (outcome_room o) ≡ true = le-leb (length (lines_of log)) (outcome_room o) h in
      record { answer = rw (e, g, f); outcomes = rw (e, g, f); pairs = rw (e, g, f) }

  fits_so : (entries : List ℕ) (m : ℕ) (c' : Columns) → paired_in (Ok m) ≡ paired_of entries (room_of c) → c' ≡ columns_after entries c
      → (fits entries (room_of c) ≡ true) × (c' ≡ columns_over (columns_of entries) c) × (m ≡ length (pairs_of entries))
  unfolding paired_of columns_after
  fits_so entries m c' e f = by_test (fits entries (room_of c)) refl
    where
      by_test : (b : Bool) → fits entries (room_of c) ≡ b → (fits entries (room_of c) ≡ true) × (c' ≡ columns_over (columns_of entries) c) × (m ≡ length (pairs_of entries))
      by_test true q =
          let w : paired_of entries (room_of c) ≡ record { number = 0; pairs = length (pairs_of entries) } = rw q in
          (q, f ∙ (rw q), ap (λ (x : Paired). x.pairs) (e ∙ w))
      by_test false q =
          let w : paired_of entries (room_of c) ≡ record { number = 8; pairs = 0 } = rw q in
          let n = ap (λ (x : Paired). x.number) (e ∙ w) in
          absurd (omega arith)

  -- the first numbers of a table are those of the outcomes
  copied : (f : Outcome → ℕ) (n : ℕ) (table column : List ℕ) → n ≡ length (lines_of log)
      → over (take n (over (map f (outcomes_in log words s)) table)) column ≡ over (map f (outcomes_in log words s)) column
  copied f n table column q =
      let a = length-map (lines_of log) (outcome_of words s) in
      let b = length-map (outcomes_in log words s) f in
      let m : length (map f (outcomes_in log words s)) ≡ n = omega arith in
      ap (λ (l : List ℕ). over l column) (take_at (map f (outcomes_in log words s)) (drop (length (map f (outcomes_in log words s))) table) n m)

  pub import_all : (verdict_on log).number ≡ 0 → (n : ℕ) → n ≡ length (lines_of log) → n ≤ outcome_room o
      → (tables after : Outcomes) (e : List ℕ) (k : ℕ) → Taken log words s tables after e k
      → (r : Result ℕ Refusal) (m : ℕ) (c' : Columns) → MatchResult r (λ x. m ≡ x) (λ y. ⊥)
      → paired_in r ≡ paired_of (take k e) (room_of c) → c' ≡ columns_after (take k e) c
      → (cases values : List ℕ) → cases ≡ over (take n after.cases) o.cases → values ≡ over (take n after.values) o.values
      → Imports log words s o c (as_outcomes cases values) c' (record { number = 0; line = 0; lines = n; pairs = m })
  import_all z n q h tables after e k t (Err y) m c' a p w cases values ec ev = absurd a
  import_all z n q h tables after e k t (Ok x) m c' a p w cases values ec ev =
      let g = fits_so (take k e) x c' p w in
      let u : cases ≡ over (map case_of (outcomes_in log words s)) o.cases = ec ∙ ap (λ (y : Outcomes). over (take n y.cases) o.cases) t.outcomes ∙ copied case_of n tables.cases o.cases q in
      let v : values ≡ over (map value_of (outcomes_in log words s)) o.values = ev ∙ ap (λ (y : Outcomes). over (take n y.values) o.values) t.outcomes ∙ copied value_of n tables.values o.values q in
      let f : fits (entries_in log words s) (room_of c) ≡ true = rw t.entries at g.0 in
      let d : c' ≡ columns_over (columns_of (entries_in log words s)) c = rw t.entries at g.1 in
      let l : m ≡ length (pairs_of (entries_in log words s)) = a ∙ rw t.entries at g.2 in
      rw (u, v, d, l, q) (import_good z (omega arith) f)
