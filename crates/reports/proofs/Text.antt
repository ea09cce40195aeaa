-- The lines of an import in a lent buffer: how long they are, and that the low bytes of a number are all that its line says.
-- Assumes nothing.
use mathlib.Core.Path.{◌≡◌, refl, sym, ap, ap₂, ◌∙◌}
use mathlib.Core.List.{List, [], ◌∷◌, ◌++◌}
use Prim.Native.Nat.{ℕ, ◌+◌, ◌-◌, ◌*◌, ◌%◌, ◌≤◌}
use native.Mathlib.Omega.{arith}
use lib.ListN.{length, get_or, take, drop, length-append, length-drop}
use lib.Seq.{drop_at, length-take-le}
use borrow.Rule.Slice.PartMut.{put_mid}
use Rattle.laws.specs.Lists.{tabulate}
use Rattle.lines.specs.Lines.{joined}
use Rattle.lines.proofs.Evenly.{length_texts}
use Rattle.hex_digits.specs.Lines.{hex_of, hex_line}
use Rattle.hex_digits.specs.Numbers.{bytes_for}
use Rattle.fields.specs.Layouts.{field_bytes, name_bytes, line_of, written_of, out_of}
use Rattle.fields.specs.Fitted.{fitting_of, fitted_of}
use Rattle.fields.proofs.Fitted.{fitted_all, written_plain, out_plain, out_exact, put_behind}
use Rattle.log_frames.specs.Frames.{outcome_frame, pair_frame, import_end_frame, import_refusal_frame, outcome_line_length, pair_line_length, import_end_line_length, import_refusal_line_length}
use Rattle.weeks.specs.Pairs.{Columns}
use Rattle.importer.specs.Import.{Outcomes}
use Rattle.reports.specs.Report.{end_line, refusal_line}
use Rattle.reports.specs.Tables.{outcome_text, outcome_at, pair_text, pair_at, tables_text}

-- ---- how long the lines are

pub length_outcome : (case value : ℕ) → length (outcome_text case value) ≡ outcome_line_length
unfolding line_of hex_line hex_of field_bytes name_bytes bytes_for
length_outcome case value = refl

pub length_pair : (id week sum count : ℕ) → length (pair_text id week sum count) ≡ pair_line_length
unfolding line_of hex_line hex_of field_bytes name_bytes bytes_for
length_pair id week sum count = refl

pub length_end : (outcomes pairs : ℕ) → length (end_line outcomes pairs) ≡ import_end_line_length
unfolding line_of hex_line hex_of field_bytes name_bytes bytes_for
length_end outcomes pairs = refl

pub length_refusal : (part number line : ℕ) → length (refusal_line part number line) ≡ import_refusal_line_length
unfolding line_of hex_line hex_of field_bytes name_bytes bytes_for
length_refusal part number line = refl

-- those of outcomes are all as long, and those of pairs
pub outcome_even : (o : Outcomes) (k : ℕ) → length (outcome_at o k) ≡ outcome_line_length
outcome_even o k = length_outcome (get_or o.cases k 0) (get_or o.values k 0)

pub pair_even : (c : Columns) (k : ℕ) → length (pair_at c k) ≡ pair_line_length
pair_even c k = length_pair (get_or c.ids k 0) (get_or c.weeks k 0) (get_or c.sums k 0) (get_or c.counts k 0)

pub length_outcomes : (o : Outcomes) (n : ℕ) → length (joined (tabulate (outcome_at o) n)) ≡ outcome_line_length * n
length_outcomes o n = length_texts (outcome_at o) outcome_line_length (outcome_even o) n

pub length_pairs : (c : Columns) (n : ℕ) → length (joined (tabulate (pair_at c) n)) ≡ pair_line_length * n
length_pairs c n = length_texts (pair_at c) pair_line_length (pair_even c) n

pub length_tables : (n m : ℕ) (o : Outcomes) (c : Columns) → length (tables_text n m o c) ≡ outcome_line_length * n + pair_line_length * m + import_end_line_length
unfolding tables_text
length_tables n m o c =
    let a = length-append (joined (tabulate (outcome_at o) n) ++ joined (tabulate (pair_at c) m)) (end_line n m) in
    let b = length-append (joined (tabulate (outcome_at o) n)) (joined (tabulate (pair_at c) m)) in
    let d = length_outcomes o n in
    let e = length_pairs c m in
    let f = length_end n m in
    omega arith

-- ---- the low bytes of a number

low_one : (n : ℕ) → bytes_for 1 (n % 256) ≡ bytes_for 1 n
unfolding bytes_for
low_one n = ap (λ (x : ℕ). x ∷ []) (omega arith)

low_two : (n : ℕ) → bytes_for 2 (n % 65536) ≡ bytes_for 2 n
unfolding bytes_for
low_two n = ap₂ (λ (x y : ℕ). x ∷ y ∷ []) (omega arith) (omega arith)

outcome_low : (case value : ℕ) → outcome_text (case % 256) (value % 65536) ≡ outcome_text case value
unfolding line_of field_bytes
outcome_low case value = rw (low_one case, low_two value)

pair_low : (id week sum count : ℕ) → pair_text (id % 65536) (week % 65536) sum (count % 65536) ≡ pair_text id week sum count
unfolding line_of field_bytes
pair_low id week sum count = rw (low_two id, low_two week, low_two count)

refusal_low : (part number line : ℕ) → refusal_line part number (line % 65536) ≡ refusal_line part number line
unfolding line_of field_bytes
refusal_low part number line = rw (low_two line)

-- ---- a line in its part

pub outcome_exact : (case value : ℕ) (out : List ℕ) → length out ≡ outcome_line_length
    → out_of outcome_frame (case % 256 ∷ value % 65536 ∷ []) [] out ≡ outcome_text case value
outcome_exact case value out e =
    out_exact outcome_frame (case % 256 ∷ value % 65536 ∷ []) out (length_outcome (case % 256) (value % 65536) ∙ sym e) ∙ outcome_low case value

pub pair_exact : (id week sum count : ℕ) (out : List ℕ) → length out ≡ pair_line_length
    → out_of pair_frame (id % 65536 ∷ week % 65536 ∷ sum ∷ count % 65536 ∷ []) [] out ≡ pair_text id week sum count
pair_exact id week sum count out e =
    out_exact pair_frame (id % 65536 ∷ week % 65536 ∷ sum ∷ count % 65536 ∷ []) out (length_pair (id % 65536) (week % 65536) sum (count % 65536) ∙ sym e)
    ∙ pair_low id week sum count

pub end_exact : (outcomes pairs : ℕ) (out : List ℕ) → length out ≡ import_end_line_length → out_of import_end_frame (outcomes ∷ pairs ∷ []) [] out ≡ end_line outcomes pairs
end_exact outcomes pairs out e = out_exact import_end_frame (outcomes ∷ pairs ∷ []) out (length_end outcomes pairs ∙ sym e)

-- a part of a buffer is as long as it says
pub part_length : (at n : ℕ) (out : List ℕ) → at + n ≤ length out → length (take ((at + n) - at) (drop at out)) ≡ n
part_length at n out h =
    let d = length-drop at out in
    let t = length-take-le ((at + n) - at) (drop at out) (omega arith) in
    omega arith

-- ---- a refusal

pub refusal_written : (part number line room : ℕ)
    → written_of import_refusal_frame (part ∷ number ∷ line % 65536 ∷ []) [] room ≡ fitting_of (refusal_line part number line) room
refusal_written part number line room =
    written_plain import_refusal_frame (part ∷ number ∷ line % 65536 ∷ []) room ∙ ap (λ (t : List ℕ). fitting_of t room) (refusal_low part number line)

pub refusal_out_lem : (part number line : ℕ) (out : List ℕ)
    → out_of import_refusal_frame (part ∷ number ∷ line % 65536 ∷ []) [] out ≡ fitted_of (refusal_line part number line) out
refusal_out_lem part number line out =
    out_plain import_refusal_frame (part ∷ number ∷ line % 65536 ∷ []) out ∙ ap (λ (t : List ℕ). fitted_of t out) (refusal_low part number line)

-- ---- the tables: the outcomes in front, the pairs after them, and the end

module _ (n m : ℕ) (o : Outcomes) (c : Columns) (out : List ℕ) where
  outcomes : List ℕ
  outcomes = joined (tabulate (outcome_at o) n)

  pairs : List ℕ
  pairs = joined (tabulate (pair_at c) m)

  two : (first second : List ℕ) → first ≡ outcomes → second ≡ pairs
      → put_mid (outcome_line_length * n) ((outcome_line_length * n + pair_line_length * m) - outcome_line_length * n) (first ++ drop (outcome_line_length * n) out) second
      ≡ (outcomes ++ pairs) ++ drop (outcome_line_length * n + pair_line_length * m) out
  unfolding outcomes pairs
  two first second p q =
      ap (λ (t : List ℕ). put_mid (outcome_line_length * n) ((outcome_line_length * n + pair_line_length * m) - outcome_line_length * n) (t ++ drop (outcome_line_length * n) out) second) p
      ∙ put_behind (joined (tabulate (outcome_at o) n)) out second (joined (tabulate (pair_at c) m)) (outcome_line_length * n) ((outcome_line_length * n + pair_line_length * m) - outcome_line_length * n) (pair_line_length * m)
      (length_outcomes o n) (omega arith) q

  -- the end has its room
  pub end_room : outcome_line_length * n + pair_line_length * m + import_end_line_length ≤ length out → (first second : List ℕ)
      → first ≡ joined (tabulate (outcome_at o) n) → second ≡ joined (tabulate (pair_at c) m)
      → let b = outcome_line_length * n + pair_line_length * m in
      let before = put_mid (outcome_line_length * n) (b - outcome_line_length * n) (first ++ drop (outcome_line_length * n) out) second in
      length (take ((b + import_end_line_length) - b) (drop b before)) ≡ import_end_line_length
  unfolding outcomes pairs
  end_room h first second p q =
      let b = outcome_line_length * n + pair_line_length * m in
      let t = ap length (two first second p q) in
      let x = length-append (joined (tabulate (outcome_at o) n)) (joined (tabulate (pair_at c) m)) in
      let y = length-append (joined (tabulate (outcome_at o) n) ++ joined (tabulate (pair_at c) m)) (drop b out) in
      let d = length_outcomes o n in
      let e = length_pairs c m in
      let k = length-drop b out in
      part_length b import_end_line_length (put_mid (outcome_line_length * n) (b - outcome_line_length * n) (first ++ drop (outcome_line_length * n) out) second) (omega arith)

  pub tables_put : outcome_line_length * n + pair_line_length * m + import_end_line_length ≤ length out → (first second third : List ℕ)
      → first ≡ joined (tabulate (outcome_at o) n) → second ≡ joined (tabulate (pair_at c) m)
      → let b = outcome_line_length * n + pair_line_length * m in
      let before = put_mid (outcome_line_length * n) (b - outcome_line_length * n) (first ++ drop (outcome_line_length * n) out) second in
      third ≡ out_of import_end_frame (n ∷ m ∷ []) [] (take ((b + import_end_line_length) - b) (drop b before))
      → put_mid b ((b + import_end_line_length) - b) before third ≡ fitted_of (tables_text n m o c) out
  unfolding outcomes pairs
  tables_put h first second third p q r =
      let b = outcome_line_length * n + pair_line_length * m in
      let t = two first second p q in
      let x = length-append (joined (tabulate (outcome_at o) n)) (joined (tabulate (pair_at c) m)) in
      let d = length_outcomes o n in
      let e = length_pairs c m in
      let l : length (joined (tabulate (outcome_at o) n) ++ joined (tabulate (pair_at c) m)) ≡ b = omega arith in
      let k : (b + import_end_line_length) - b ≡ import_end_line_length = omega arith in
      let both = joined (tabulate (outcome_at o) n) ++ joined (tabulate (pair_at c) m) in
      let u : drop b (both ++ drop b out) ≡ drop b out = drop_at both (drop b out) b l in
      let v = length-drop b out in
      let w = length-take-le ((b + import_end_line_length) - b) (drop b out) (omega arith) in
      let z : third ≡ end_line n m =
      r ∙ ap (λ (y : List ℕ). out_of import_end_frame (n ∷ m ∷ []) [] (take ((b + import_end_line_length) - b) (drop b y))) t
      ∙ ap (λ (y : List ℕ). out_of import_end_frame (n ∷ m ∷ []) [] (take ((b + import_end_line_length) - b) y)) u
      ∙ end_exact n m (take ((b + import_end_line_length) - b) (drop b out)) (w ∙ k) in
      let f : both ++ end_line n m ≡ tables_text n m o c = unfold tables_text in refl in
      ap (λ (y : List ℕ). put_mid b ((b + import_end_line_length) - b) y third) t
      ∙ put_behind both out third (end_line n m) b ((b + import_end_line_length) - b) import_end_line_length l k z
      ∙ ap (λ (y : List ℕ). y ++ drop (b + import_end_line_length) out) f
      ∙ fitted_all (tables_text n m o c) out (b + import_end_line_length) (length_tables n m o c) h
