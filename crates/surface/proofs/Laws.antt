-- What a caller of the surface may rely on beyond the equations themselves: how far what it is told to read reaches, and what a refusal leaves
-- alone. include/rushgirdle.h promises them. That a refused build sets every word is `refused_words` of the crate register; that a refused
-- reading and a refused writing keep the buffer is `buffer_kept` and `out_kept` of the crate fields.
-- Assumes nothing.
use mathlib.Core.Path.{◌≡◌, refl, ap}
use mathlib.Core.Bool.{Bool, true, false, cond}
use mathlib.Core.List.{List}
use Prim.Native.Nat.{ℕ, ◌+◌, ◌≤◌}
use native.Mathlib.Omega.{arith}
use borrow.Author.Tests.{leb-true, ltb-false}
use lib.ListN.{length}
use lib.Dec.{eqb, leb, ltb}
use Rattle.names.specs.Features.{features_of}
use Rattle.likeness.specs.Terms.{lowest_terms}
use Rattle.fields.specs.declared.Layout.{Layout}
use Rattle.hex_digits.specs.Lines.{bytes_of}
use Rattle.hex_digits.proofs.Lines.{length_bytes, well_formed_bytes}
use Rattle.fields.specs.Layouts.{head_size, line_of, read_of, written_of, longest_name}
use Rattle.fields.proofs.Layouts.{size_named, frame_well_formed, frame_length, length_name, read_cases}
use Rattle.index.specs.Good.{good_of}
use Rattle.lists.specs.Part.{none}
use Rattle.lists.specs.Lists.{span_in, span_for}
use Rattle.lists.proofs.Spans.{span_within}
use Rattle.search.specs.Answers.{Answer}
use Rattle.search.specs.Answers.{Found, Refused}
use Rattle.sizes.specs.Method.{touches_of, answers_of}
use Rattle.search.specs.Answers.{rows_in, touches_in, refusal_of, search_good_of, search_of, Columns, room_of, columns_of, columns_over, columns_after}
use Rattle.rows.specs.declared.Row.{Row}
use Rattle.rows.specs.Rows.{rows_after}
use Rattle.rows.proofs.Laws.{rows_refused}
use Rattle.search.proofs.Outcomes.{refused_gives}
use Rattle.weeks.specs.Pairs.{Columns as Pairs, room_of as pairRoom}
use Rattle.importer.specs.declared.Settings.{Settings}
use Rattle.importer.specs.Import.{Imported}
use Rattle.importer.specs.Import.{Outcomes, outcome_room, imported_of, outcomes_after, pairs_after}
use Rattle.importer.proofs.Whole.{imported_cases}
use Rattle.importer.proofs.Wholes.{wholes}
use Rattle.surface.specs.Flat.{list_answer, search_answer, import_answer, write_answer}

-- a list lies within the words, whatever they are
pub list_within : (w : List ℕ) (y f : ℕ) → (list_answer (span_for w y f)).start + (list_answer (span_for w y f)).count ≤ length w
unfolding span_for
list_within w y f = by_test (good_of w) refl
  where
    by_test : (g : Bool) → good_of w ≡ g → (cond g (span_in w y f) none).start + (cond g (span_in w y f) none).count ≤ length w
    by_test true e = span_within w e y f
    by_test false e = omega arith

-- the rows lie within the room, which is the length of a list of records
module _ (query : List ℕ) (m p q allowance : ℕ) (w : List ℕ) (room : ℕ) where
  abbrev found : Answer
  found =
      Found (length (answers_of w m p q (features_of query))) (touches_of w m p q (features_of query)) (lowest_terms p q).p (lowest_terms p q).q

  pub rows_within : (search_answer (search_of query m p q allowance w room)).rows ≤ room
  unfolding search_of search_good_of
  rows_within =
      by_test (eqb (refusal_of query m p q w) 0) (ltb allowance (touches_of w m p q (features_of query))) (ltb room (rows_in found)) refl
    where
      by_test : (a b c : Bool) → ltb room (rows_in found) ≡ c
          → rows_in (cond a (cond b (Refused 7 allowance) (cond c (Refused 8 (touches_in found)) found)) (Refused (refusal_of query m p q w) 0)) ≤ room
      by_test false b c e = omega arith
      by_test true true c e = omega arith
      by_test true false true e = omega arith
      by_test true false false e = ltb-false room (rows_in found) e

-- and so within each of the four columns
pub columns_within : (query : List ℕ) (m p q allowance : ℕ) (w : List ℕ) (c : Columns)
    → let r = (search_answer (search_of query m p q allowance w (room_of c))).rows in
    (r ≤ length c.ids) × (r ≤ length c.shared) × (r ≤ length c.sizes) × (r ≤ length c.least)
columns_within query m p q allowance w c =
    let h = rows_within query m p q allowance w (room_of c) in
    (omega arith, omega arith, omega arith, omega arith)

-- a refused search keeps every column
pub columns_kept : (query : List ℕ) (m p q allowance : ℕ) (w : List ℕ) (c : Columns)
    → ((search_answer (search_of query m p q allowance w (room_of c))).number ≡ 0 → ⊥) → columns_after query m p q allowance w c ≡ c
columns_kept query m p q allowance w c n =
    ap (λ (l : List ℕ). columns_over (columns_of w m p q (features_of query) l) c) (refused_gives (search_of query m p q allowance w (room_of c)) (answers_of w m p q (features_of query)) n)

-- and every record
pub records_kept : (query : List ℕ) (m p q allowance : ℕ) (w : List ℕ) (rows : List Row)
    → ((search_answer (search_of query m p q allowance w (length rows))).number ≡ 0 → ⊥) → rows_after query m p q allowance w rows ≡ rows
records_kept query m p q allowance w rows n = rows_refused query m p q allowance w rows n

-- the outcomes and the pairs of an import lie within their rooms
pub imported_within : (log words : List ℕ) (s : Settings) (lines pairs : ℕ)
    → let r = import_answer (imported_of log words s lines pairs) in (r.lines ≤ lines) × (r.pairs ≤ pairs)
imported_within log words s lines pairs =
    imported_cases log words s lines pairs (λ (r : Imported). (r.lines ≤ lines) × (r.pairs ≤ pairs))
    (λ v a b. (a, b))
    (λ v f. (omega arith, omega arith))
    (λ n. (omega arith, omega arith))

-- and so within each column
pub outcomes_within : (log words : List ℕ) (s : Settings) (o : Outcomes) (c : Pairs)
    → let n = (import_answer (imported_of log words s (outcome_room o) (pairRoom c))).lines in
    (n ≤ length o.cases) × (n ≤ length o.values)
outcomes_within log words s o c = let h = (imported_within log words s (outcome_room o) (pairRoom c)).0 in (omega arith, omega arith)

pub pairs_within : (log words : List ℕ) (s : Settings) (o : Outcomes) (c : Pairs)
    → let n = (import_answer (imported_of log words s (outcome_room o) (pairRoom c))).pairs in
    (n ≤ length c.ids) × (n ≤ length c.weeks) × (n ≤ length c.sums) × (n ≤ length c.counts)
pairs_within log words s o c =
    let h = (imported_within log words s (outcome_room o) (pairRoom c)).1 in
    (omega arith, omega arith, omega arith, omega arith)

-- a refused import keeps every column
pub import_kept : (log words : List ℕ) (s : Settings) (o : Outcomes) (c : Pairs)
    → ((import_answer (imported_of log words s (outcome_room o) (pairRoom c))).number ≡ 0 → ⊥)
    → (outcomes_after log words s o c ≡ o) × (pairs_after log words s o c ≡ c)
import_kept log words s o c n = (wholes log words s o c).kept n

-- a name that was read lies within its buffer
pub name_within_lem : (y : Layout) (line : List ℕ) (room : ℕ) → (read_of y line room).len ≤ room
name_within_lem y line room = read_cases y line room (λ r. r.len ≤ room) (λ e h. h) (λ e h. omega arith) (λ e. omega arith)

-- and has at most as many bytes as its length byte can say
pub name_short : (y : Layout) (line : List ℕ) (room : ℕ) → y.named ≡ true → (read_of y line room).len ≤ longest_name
name_short y line room n =
    read_cases y line room (λ r. r.len ≤ longest_name)
    (λ e h.
    let a = length_name y line e n in
    let b = frame_length y line e in
    let c = size_named y (bytes_of line) n in
    let d = length_bytes line in
    let f = well_formed_bytes line (frame_well_formed y line e) (head_size y) in
    omega arith)
    (λ e h. omega arith)
    (λ e. omega arith)

-- a line that was written lies within its buffer
pub line_within : (y : Layout) (f name : List ℕ) (room : ℕ) → (write_answer (written_of y f name room)).len ≤ room
unfolding written_of
line_within y f name room = by_test (ltb longest_name (length name)) (leb (length (line_of y f name)) room) refl
  where
    by_test : (a b : Bool) → leb (length (line_of y f name)) room ≡ b
        → (write_answer (cond a (record { number = 2; len = 0 }) (cond b (record { number = 0; len = length (line_of y f name) }) (record { number = 8; len = 0 })))).len
        ≤ room
    by_test true b e = omega arith
    by_test false true e = leb-true _ _ e
    by_test false false e = omega arith
