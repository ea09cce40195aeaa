-- The lines of an output: specs/Demands.antt says what. Its lines are those that the definition lists, and the last of them alone ends it.
-- Assumes nothing.
use mathlib.Core.Path.{◌≡◌, refl, sym, ap, ◌∙◌}
use mathlib.Core.Logic.{◌↔◌, ⊎_elim}
use mathlib.Core.Bool.{Bool, true, false, cond, ◌||◌}
use mathlib.Core.List.{List, [], ◌∷◌, ◌++◌, map}
use Prim.Native.Nat.{ℕ, ◌-◌, ◌≤◌, ◌<◌}
use native.Mathlib.Omega.{arith}
use lib.ListN.{length, get_or, take, replicate, length-replicate}
use lib.Dec.{eqb, leb, ltb}
use borrow.Author.Tests.{lt-ltb, le-ltb, eq-eqb, ne_eqb, leb-true, le-leb}
use Rattle.laws.specs.Lists.{count_of}
use Rattle.laws.specs.Each.{Each}
use Rattle.laws.proofs.Lists.{count_append}
use Rattle.laws.proofs.Tests.{or_right}
use Rattle.laws.proofs.Members.{or_cases, each_nil, each_cons}
use Rattle.hex_digits.specs.Lines.{digit_of, place_in, value_of as digitValue, hex_of, hex_line, bytes_of}
use Rattle.hex_digits.proofs.Lines.{last_feed}
use Rattle.fields.specs.Layouts.{Reading}
use Rattle.fields.specs.Layouts.{is_frame, name_in, line_of, read_of, accepted_as, refused_with}
use Rattle.fields.proofs.Layouts.{frame_other, frame_well_formed}
use Rattle.fields.proofs.Laws.{frame_line}
use Rattle.fields.proofs.Fitted.{one_line}
use Rattle.frames.specs.Frames.{query_frame}
use Rattle.log_frames.specs.Frames.{outcome_frame, pair_frame, import_end_frame, import_refusal_frame}
use Rattle.lines.specs.Lines.{lines_of}
use Rattle.lines.proofs.Cut.{Line, Ended, lines_joined, ended_behind, ended_each, broken_fewer}
use Rattle.weeks.specs.Pairs.{pairs_of}
use Rattle.register.specs.Build.{built_of}
use Rattle.answers.specs.Output.{register_of}
use Rattle.statements.proofs.Building.{builds}
use Rattle.importer.specs.declared.Settings.{Settings}
use Rattle.importer.specs.declared.Outcome.{Outcome}
use Rattle.importer.specs.Import.{case_of, value_of, most_lines, outcomes_in, entries_in, imported_of}
use Rattle.reports.specs.Report.{most_input, index_words, settings_line, log_of, index_of, settled, settings_in, outcome_line, pair_line, end_line, refusal_line, whole_part, register_part, settings_part, log_part, answer_lines, import_lines, settled_lines, report_lines, report_of}
use Rattle.reports.proofs.Most.{import_fits}
use Rattle.reports.specs.Demands.{Registered, Settled, settings_of, import_of, ends_report, Reports}

-- ---- which lines end an output

or_false : (a b : Bool) → a ≡ false → b ≡ false → a || b ≡ false
or_false a b p q = rw (p, q) refl

or_left : (a b : Bool) → a ≡ true → a || b ≡ true
or_left a b p = rw p refl

outcome_goes_on : (o : Outcome) → ends_report (outcome_line o) ≡ false
unfolding ends_report
outcome_goes_on o =
    or_false (is_frame import_end_frame (outcome_line o)) (is_frame import_refusal_frame (outcome_line o))
    (frame_other import_end_frame (outcome_line o) (λ e. let k = kind in omega arith))
    (frame_other import_refusal_frame (outcome_line o) (λ e. let k = kind in omega arith))
  where
    kind : get_or (bytes_of (outcome_line o)) 0 0 ≡ 79
    kind = unfold line_of hex_line hex_of bytes_of digit_of digitValue place_in in refl

pair_goes_on : (entries : List ℕ) (p : ℕ) → ends_report (pair_line entries p) ≡ false
unfolding ends_report
pair_goes_on entries p =
    or_false (is_frame import_end_frame (pair_line entries p)) (is_frame import_refusal_frame (pair_line entries p))
    (frame_other import_end_frame (pair_line entries p) (λ e. let k = kind in omega arith))
    (frame_other import_refusal_frame (pair_line entries p) (λ e. let k = kind in omega arith))
  where
    kind : get_or (bytes_of (pair_line entries p)) 0 0 ≡ 80
    kind = unfold line_of hex_line hex_of bytes_of digit_of digitValue place_in in refl

end_ends : (outcomes pairs : ℕ) → ends_report (end_line outcomes pairs) ≡ true
unfolding ends_report
end_ends outcomes pairs = or_left _ _ (frame_line import_end_frame (outcomes ∷ pairs ∷ []) [] (omega arith) (λ k. omega arith) (omega arith))

refusal_ends : (part number line : ℕ) → ends_report (refusal_line part number line) ≡ true
unfolding ends_report
refusal_ends part number line =
    or_right (is_frame import_end_frame (refusal_line part number line)) _ (frame_line import_refusal_frame (part ∷ number ∷ line ∷ []) [] (omega arith) (λ k. omega arith) (omega arith))

-- and each has its line feed
ends_feed : (l : List ℕ) → ends_report l ≡ true → get_or l (length l - 1) 0 ≡ 10
unfolding ends_report
ends_feed l e =
    ⊎_elim
    (λ (f : is_frame import_end_frame l ≡ true). last_feed l (frame_well_formed import_end_frame l f))
    (λ (f : is_frame import_refusal_frame l ≡ true). last_feed l (frame_well_formed import_refusal_frame l f))
    (or_cases (is_frame import_end_frame l) (is_frame import_refusal_frame l) e)

-- ---- lines of which the last alone ends them

-- they end, and only once
record Single (ls : List (List ℕ)) : Type 0 where
  pub ended : Ended ends_report ls
  pub once : count_of ends_report ls ≡ 1

refusal_single : (part number line : ℕ) → Single (refusal_line part number line ∷ [])
refusal_single part number line =
    record {
      ended =
          record {
            before = [];
            last = refusal_line part number line;
            split = refl;
            each = each_nil Line;
            line = one_line import_refusal_frame (part ∷ number ∷ line ∷ []);
            passes = refusal_ends part number line;
          };
      once = unfold count_of in (rw (refusal_ends part number line));
    }

-- of a list, by what is true of each
each_map : {A : Type 0} (f : A → List ℕ) (l : List A) → ((x : A) → Line (f x)) → Each Line (map f l)
each_map f [] h = each_nil Line
each_map f (x ∷ l) h = each_cons Line (f x) (map f l) (h x) (each_map f l h)

none_map : {A : Type 0} (f : A → List ℕ) (l : List A) → ((x : A) → ends_report (f x) ≡ false) → count_of ends_report (map f l) ≡ 0
unfolding count_of
none_map f [] h = refl
none_map f (x ∷ l) h = let r = none_map f l h in rw (h x) (omega arith)

answer_single : (os : List Outcome) (es : List ℕ) → Single (answer_lines os es)
unfolding answer_lines
answer_single os es =
    let pairs = map (pair_line es) (pairs_of es) in
    let end = end_line (length os) (length (pairs_of es)) in
    let last : Ended ends_report (end ∷ []) =
    record {
      before = [];
      last = end;
      split = refl;
      each = each_nil Line;
      line = one_line import_end_frame (length os ∷ length (pairs_of es) ∷ []);
      passes = end_ends (length os) (length (pairs_of es));
    } in
    let a = count_append ends_report (map outcome_line os) (pairs ++ (end ∷ [])) in
    let b = count_append ends_report pairs (end ∷ []) in
    let c = none_map outcome_line os outcome_goes_on in
    let d = none_map (pair_line es) (pairs_of es) (pair_goes_on es) in
    let e : count_of ends_report (end ∷ []) ≡ 1 = unfold count_of in (rw (end_ends (length os) (length (pairs_of es)))) in
    record {
      ended =
          ended_behind ends_report (map outcome_line os) (pairs ++ (end ∷ [])) (each_map outcome_line os (λ o. one_line outcome_frame (case_of o ∷ value_of o ∷ [])))
          (ended_behind ends_report pairs (end ∷ []) (each_map (pair_line es) (pairs_of es) (λ p. one_line pair_frame _)) last);
      once = omega arith;
    }

by_test : (P : List (List ℕ) → Type 0) (b : Bool) (x y : List (List ℕ)) → P x → P y → P (cond b x y)
by_test P true x y p q = p
by_test P false x y p q = q

import_single : (log words : List ℕ) (s : Settings) → Single (import_lines log words s)
unfolding import_lines
import_single log words s =
    let r = imported_of log words s most_lines most_lines in
    by_test Single (eqb r.number 0) (answer_lines (outcomes_in log words s) (entries_in log words s)) (refusal_line log_part r.number r.line ∷ [])
    (answer_single (outcomes_in log words s) (entries_in log words s))
    (refusal_single log_part r.number r.line)

settled_single : (line log words : List ℕ) → Single (settled_lines line log words)
unfolding settled_lines
settled_single line log words =
    by_test Single (eqb (settled line).number 0) (import_lines log words (settings_in line)) (refusal_line settings_part 11 1 ∷ [])
    (import_single log words (settings_in line))
    (refusal_single settings_part 11 1)

report_single : (input : List ℕ) → Single (report_lines input)
unfolding report_lines
report_single input =
    let b = built_of (register_of input) index_words in
    let rest = settled_lines (settings_line input) (log_of input) (index_of input) in
    let refused = refusal_line register_part b.number b.line ∷ [] in
    by_test Single (ltb most_input (length input)) (refusal_line whole_part 8 0 ∷ []) (cond (eqb b.number 0) rest refused)
    (refusal_single whole_part 8 0)
    (by_test Single (eqb b.number 0) rest refused (settled_single (settings_line input) (log_of input) (index_of input)) (refusal_single register_part b.number b.line))

-- so the lines of the output are those
lines_of_lem : (input : List ℕ) → lines_of (report_of input) ≡ report_lines input
unfolding report_of
lines_of_lem input = lines_joined (report_lines input) (ended_each ends_report (report_lines input) (report_single input).ended)

-- ---- the settings line

settings_so : (line : List ℕ) → ((settled line).number ≡ 0) ↔ ((is_frame query_frame line ≡ true) × (name_in query_frame line ≡ []))
unfolding read_of
settings_so line = (there, back)
  where
    given : Bool → Bool → Reading
    given a b = cond a (cond b (accepted_as query_frame line) (refused_with query_frame 8)) (refused_with query_frame 11)

    none : (l : List ℕ) → length l ≤ 0 → l ≡ []
    none [] h = refl
    none (x ∷ l) h = absurd (omega arith)

    by : (a : Bool) → is_frame query_frame line ≡ a → (b : Bool) → leb (length (name_in query_frame line)) 0 ≡ b → (given a b).number ≡ 0
        → (is_frame query_frame line ≡ true) × (name_in query_frame line ≡ [])
    by true e true f z = (e, none (name_in query_frame line) (leb-true (length (name_in query_frame line)) 0 f))
    by true e false f z = absurd (omega arith)
    by false e b f z = absurd (omega arith)

    there : (settled line).number ≡ 0 → (is_frame query_frame line ≡ true) × (name_in query_frame line ≡ [])
    there z = by (is_frame query_frame line) refl (leb (length (name_in query_frame line)) 0) refl z

    back : (is_frame query_frame line ≡ true) × (name_in query_frame line ≡ []) → (settled line).number ≡ 0
    back h =
        let n : length (name_in query_frame line) ≡ 0 = ap length h.1 in
        rw (h.0, le-leb (length (name_in query_frame line)) 0 (omega arith)) refl

-- ---- the whole

-- the words are as many as are lent
as_lent : (input : List ℕ) → (built_of (register_of input) (length {A = ℕ} (replicate index_words 0))).number ≡ (built_of (register_of input) index_words).number
as_lent input = ap (λ (n : ℕ). (built_of (register_of input) n).number) (length-replicate {A = ℕ} index_words 0)

module _ (input : List ℕ) where
  much : most_input < length input → report_lines input ≡ refusal_line whole_part 8 0 ∷ []
  unfolding report_lines
  much h = rw (lt-ltb most_input (length input) h)

  module _ (h : length input ≤ most_input) where
    register_bad : (Registered input → ⊥)
        → report_lines input ≡ refusal_line register_part (built_of (register_of input) index_words).number (built_of (register_of input) index_words).line ∷ []
    unfolding report_lines
    register_bad n = rw (le-ltb most_input (length input) h, ne_eqb (built_of (register_of input) index_words).number 0 (λ z. n (as_lent input ∙ z)))

    register_good : Registered input → report_lines input ≡ settled_lines (settings_line input) (log_of input) (index_of input)
    unfolding report_lines
    register_good k = rw (le-ltb most_input (length input) h, eq-eqb (built_of (register_of input) index_words).number 0 (sym (as_lent input) ∙ k))

    settings_bad : Registered input → (Settled input → ⊥) → report_lines input ≡ refusal_line settings_part 11 1 ∷ []
    settings_bad k n = register_good k ∙ bad
      where
        bad : settled_lines (settings_line input) (log_of input) (index_of input) ≡ refusal_line settings_part 11 1 ∷ []
        bad = unfold settled_lines in (rw (ne_eqb (settled (settings_line input)).number 0 n))

    settings_good : Registered input → Settled input → report_lines input ≡ import_lines (log_of input) (index_of input) (settings_of input)
    settings_good k s = register_good k ∙ good
      where
        good : settled_lines (settings_line input) (log_of input) (index_of input) ≡ import_lines (log_of input) (index_of input) (settings_of input)
        good = unfold settled_lines in (rw (eq-eqb (settled (settings_line input)).number 0 s))

    log_bad : Registered input → Settled input → ((import_of input).number ≡ 0 → ⊥)
        → report_lines input ≡ refusal_line log_part (import_of input).number (import_of input).line ∷ []
    log_bad k s n = settings_good k s ∙ bad
      where
        bad : import_lines (log_of input) (index_of input) (settings_of input) ≡ refusal_line log_part (import_of input).number (import_of input).line ∷ []
        bad = unfold import_lines in (rw (ne_eqb (import_of input).number 0 n))

    log_good : Registered input → Settled input → (import_of input).number ≡ 0
        → report_lines input
        ≡ answer_lines (outcomes_in (log_of input) (index_of input) (settings_of input)) (entries_in (log_of input) (index_of input) (settings_of input))
    log_good k s z = settings_good k s ∙ good
      where
        good : import_lines (log_of input) (index_of input) (settings_of input)
            ≡ answer_lines (outcomes_in (log_of input) (index_of input) (settings_of input)) (entries_in (log_of input) (index_of input) (settings_of input))
        good = unfold import_lines in (rw (eq-eqb (import_of input).number 0 z))

-- ---- there is room

register_fits : (input : List ℕ) → (built_of (register_of input) index_words).number ≡ 8 → ⊥
register_fits input e =
    let n : length {A = ℕ} (replicate index_words 0) ≡ index_words = length-replicate {A = ℕ} index_words 0 in
    (builds (register_of input) (replicate index_words 0)).enough (omega arith) (as_lent input ∙ e)

set_out : (os : List Outcome) (es : List ℕ)
    → answer_lines os es ≡ map outcome_line os ++ (map (pair_line es) (pairs_of es) ++ (end_line (length os) (length (pairs_of es)) ∷ []))
unfolding answer_lines
set_out os es = refl

broken_none : (input : List ℕ) (n : ℕ) → n < length (report_of input) → count_of ends_report (lines_of (take n (report_of input))) ≡ 0
unfolding report_of
broken_none input n h =
    let a = broken_fewer ends_report ends_feed (report_lines input) n (report_single input).ended h in
    let b = ap (count_of ends_report) (lines_joined (report_lines input) (ended_each ends_report (report_lines input) (report_single input).ended)) in
    let c = (report_single input).once in
    omega arith

pub reports : Reports
reports input =
    record {
      settings_line_lem = settings_so;
      too_much = λ h. lines_of_lem input ∙ much input h;
      register_refused = λ h n. lines_of_lem input ∙ register_bad input h n;
      register_room = register_fits input;
      settings_refused = λ h k n. lines_of_lem input ∙ settings_bad input h k n;
      log_refused = λ h k s n. lines_of_lem input ∙ log_bad input h k s n;
      log_room = import_fits (log_of input) (index_of input) (settings_of input);
      answered = λ h k s z. lines_of_lem input ∙ log_good input h k s z ∙ set_out _ _;
      once = ap (count_of ends_report) (lines_of_lem input) ∙ (report_single input).once;
      broken = broken_none input;
    }
