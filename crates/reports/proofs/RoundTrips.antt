-- Every line of an output reads back: specs/RoundTrips.antt says what, this file shows that each field is within its bytes.
-- Assumes nothing.
use mathlib.Core.Path.{◌≡◌, refl, sym, ap, ◌∙◌}
use mathlib.Core.Logic.{⊎_elim}
use mathlib.Core.Bool.{Bool, true, false, cond, not, ◌&&◌, true≢false}
use mathlib.Core.List.{List, [], ◌∷◌, map}
use Prim.Native.Nat.{ℕ, suc, ◌+◌, ◌*◌, ◌≤◌, ◌<◌}
use native.Mathlib.Nat.{mul-suc}
use native.Mathlib.Omega.{arith}
use lib.ListN.{length, get_or, length-map}
use lib.Dec.{eqb, ltb}
use borrow.Author.Tests.{ltb-true, eq-eqb, eqb-true}
use Rattle.laws.specs.Lists.{member, sum_of}
use Rattle.laws.specs.Each.{Each}
use Rattle.laws.specs.First.{first_from}
use Rattle.laws.specs.Cases.{Case, first_case, all_numbers}
use Rattle.laws.proofs.Cases.{not_false, first_number}
use Rattle.laws.proofs.Order.{le_or_lt}
use Rattle.laws.proofs.First.{first_least}
use Rattle.laws.proofs.FirstFound.{first_found}
use Rattle.laws.proofs.Tests.{cond_most}
use Rattle.laws.proofs.Members.{member_head, member_map_place, each_nil, each_cons, each_append, each_member}
use Rattle.names.specs.Features.{features_of}
use Rattle.lines.specs.Lines.{lines_of}
use Rattle.fields.specs.Layouts.{is_frame}
use Rattle.log_frames.specs.Frames.{log_frame}
use Rattle.words.specs.Words.{name_id}
use Rattle.index.proofs.Laws.{good_name_within}
use Rattle.register.specs.Build.{Built}
use Rattle.register.specs.Build.{judge_line, judge_nth, taken_of, room_for, entries_of as names_in, built_of}
use Rattle.register.proofs.Judging.{good_line}
use Rattle.register.proofs.First.{none_bad, first_bad_built}
use Rattle.search.specs.Answers.{number_in, places_given}
use Rattle.search.specs.Answers.{Answer}
use Rattle.search.specs.Answers.{Found, Refused as SearchRefused}
use Rattle.search.proofs.Outcomes.{answered, given_found}
use Rattle.search.proofs.Listed.{answer_place}
use Rattle.answers.specs.Output.{register_of}
use Rattle.statements.specs.Demands.{columns, number, refusals}
use Rattle.statements.proofs.Demands.{searches}
use Rattle.statements.proofs.LogFrames.{log_frames}
use Rattle.weeks.specs.Pairs.{pair_in, id_in, week_in, reading_in as reading_of, present, pairs_of, amount, tally, sum_for, count_for}
use Rattle.weeks.proofs.Laws.{member_pairs}
use Rattle.importer.specs.declared.Settings.{Settings}
use Rattle.importer.specs.Import.{Imported}
use Rattle.importer.specs.declared.Outcome.{Outcome}
use Rattle.importer.specs.declared.Outcome.TheVariants.{Belongs, Unresolved, Ambiguous, Refused}
use Rattle.importer.specs.Import.{day_in, reading_in, typed_in, row_room, outcome_from, answer_to, listed_for, outcome_of, case_of, value_of, entry_from, entry_in, entries_of, most_lines, line_cases as logCases, judge_line as judgeLog, Verdict, judged_from, verdict_on, outcomes_in, entries_in, imported_of}
use Rattle.importer.specs.Demands.{question_of}
use Rattle.importer.proofs.Judging.{line_good, all_good}
use Rattle.importer.proofs.Whole.{imported_cases}
use Rattle.importer.proofs.Tables.{entries_few}
use Rattle.reports.specs.Report.{index_words, log_of, index_of, whole_part, register_part, settings_part, log_part}
use Rattle.reports.specs.Demands.{settings_of}
use Rattle.reports.specs.RoundTrips.{ReadsBack}
use Rattle.reports.proofs.Import.{answered_so}

-- ---- numbers of refusals

-- the first case has a number of one byte where every case has
first_below : (cs : List Case) → all_numbers (λ (n : ℕ). ltb n 256) cs ≡ true → first_case cs < 256
first_below cs h = ltb-true (first_case cs) 256 (first_number (λ (n : ℕ). ltb n 256) cs refl h)

-- ---- an outcome

case_below : (o : Outcome) → case_of o < 256
case_below (Belongs id) = omega arith
case_below Unresolved = omega arith
case_below Ambiguous = omega arith
case_below (Refused number) = omega arith

-- by the answer of a search and the ids that it lists
value_from : (a : Answer) (l : List ℕ) → number_in a < 256 → (number_in a ≡ 0 → (x : ℕ) → member x l ≡ true → x < 65536) → value_of (outcome_from a l) < 65536
unfolding outcome_from
value_from (SearchRefused m t) l n h = omega arith
value_from (Found rows t p q) [] n h = omega arith
value_from (Found rows t p q) (x ∷ []) n h = h refl x (member_head x [])
value_from (Found rows t p q) (x ∷ y ∷ l) n h = omega arith

module _ (words : List ℕ) (s : Settings) where
  number_below : (line : List ℕ) → number columns (question_of words s line) < 256
  number_below line =
      let e = (searches.0 (question_of words s line)).one.judged in
      let b = first_below (refusals columns (question_of words s line)) (unfold all_numbers in refl) in
      omega arith

  -- an id that a search lists is a name's
  listed_below : (name : List ℕ) → number_in (answer_to words s name) ≡ 0 → (x : ℕ) → member x (listed_for words s name) ≡ true → x < 65536
  listed_below name z x m =
      let a = answered name s.measure s.p s.q s.allowance words row_room z in
      let g = given_found (answer_to words s name) _ _ _ _ _ a.form in
      let i = member_map_place (name_id words) x (places_given name s.measure s.p s.q s.allowance words row_room) m in
      let p = answer_place words s.measure s.p s.q (features_of name) i.0 (sym (ap (member i.0) g) ∙ i.1) in
      let b = (good_name_within words a.admitted.good i.0 p.0).0 in
      let e = i.2 in
      omega arith

  value_below : (line : List ℕ) → value_of (outcome_of words s line) < 65536
  unfolding outcome_of
  value_below line = value_from (answer_to words s (typed_in line)) (listed_for words s (typed_in line)) (number_below line) (listed_below (typed_in line))

-- ---- the entries and the pairs

-- the id of an entry is that of its line's outcome
entry_ids : (o : Outcome) (day reading : ℕ) → value_of o < 65536 → day < 65536 → reading < 65536 → Each (λ (e : ℕ). id_in (pair_in e) < 65536) (entry_from o day reading)
unfolding entry_from
entry_ids (Belongs id) day reading v d r = each_cons _ _ [] (omega arith) (each_nil _)
entry_ids Unresolved day reading v d r = each_nil _
entry_ids Ambiguous day reading v d r = each_nil _
entry_ids (Refused number) day reading v d r = each_nil _

entries_ids : (words : List ℕ) (s : Settings) (ls : List (List ℕ)) → ((i : ℕ) → i < length ls → is_frame log_frame (get_or ls i []) ≡ true)
    → Each (λ (e : ℕ). id_in (pair_in e) < 65536) (entries_of words s ls)
unfolding entries_of
entries_ids words s [] h = each_nil _
entries_ids words s (l ∷ ls) h =
    let b = log_frames.log_fields l (h 0 (omega arith)) in
    each_append _ (entry_in words s l) (entries_of words s ls)
    (entry_ids (outcome_of words s l) (day_in l) (reading_in l) (value_below words s l) b.0 b.1)
    (entries_ids words s ls (λ i k. h (suc i) (omega arith)))

-- a pair has the id of an entry
pair_id : (entries : List ℕ) → Each (λ (e : ℕ). id_in (pair_in e) < 65536) entries → (k : ℕ) → member k (pairs_of entries) ≡ true → id_in k < 65536
pair_id entries h k m =
    let e = member_map_place pair_in k entries (sym (member_pairs k entries) ∙ m) in
    let b = each_member (λ (x : ℕ). id_in (pair_in x) < 65536) entries h e.0 e.1 in
    let q = e.2 in
    omega arith

-- values that are at most b add up to at most b for each element
sum_most : (f : ℕ → ℕ) (b : ℕ) → ((x : ℕ) → f x ≤ b) → (l : List ℕ) → sum_of (map f l) ≤ b * length l
unfolding sum_of
sum_most f b h [] = omega arith
sum_most f b h (x ∷ l) =
    let p = h x in
    let r = sum_most f b h l in
    let q = mul-suc b (length l) in
    omega arith

amount_most : (k e : ℕ) → amount k e ≤ 65535
unfolding amount
amount_most k e = let h = cond_most (eqb (pair_in e) k && present e) (reading_of e) in omega arith

tally_most : (k e : ℕ) → tally k e ≤ 1
unfolding tally
tally_most k e = cond_most (eqb (pair_in e) k && present e) 1

-- ---- a build

module _ (register : List ℕ) where
  -- whether line i is bad, judged after those before it
  bad_at : ℕ → Bool
  bad_at i = not (eqb (judge_nth register i) 0)

  judged_below : (i : ℕ) → judge_nth register i < 256
  unfolding judge_line
  judged_below i = first_below _ (unfold all_numbers in refl)

  good_so : (i : ℕ) → bad_at i ≡ false → judge_nth register i ≡ 0
  unfolding bad_at
  good_so i e = eqb-true (judge_nth register i) 0 (not_false (eqb (judge_nth register i) 0) e)

  bad_so : (i : ℕ) → bad_at i ≡ true → judge_nth register i ≡ 0 → ⊥
  unfolding bad_at
  bad_so i e z = true≢false (sym e ∙ ap not (eq-eqb (judge_nth register i) 0 z))

  -- where no line is bad
  built_whole : (room : ℕ) → (taken_of register).number ≡ 0 → ((built_of register room).number < 256) × ((built_of register room).line ≤ 257)
  unfolding built_of
  built_whole room z = rw (eq-eqb (taken_of register).number 0 z) (by_room (room_for (names_in register) room))
    where
      given : Bool → Built
      given b = cond b (record { number = 0; line = 0 }) (record { number = 8; line = 0 })

      by_room : (b : Bool) → ((given b).number < 256) × ((given b).line ≤ 257)
      by_room true = (omega arith, omega arith)
      by_room false = (omega arith, omega arith)

  -- the first bad line is after 256 others at most: with one more before it, that one were bad
  built_bad : (room i : ℕ) → i < length (lines_of register) → ((j : ℕ) → j < i → judge_nth register j ≡ 0) → (judge_nth register i ≡ 0 → ⊥)
      → ((built_of register room).number < 256) × ((built_of register room).line ≤ 257)
  built_bad room i h g b =
      let e = first_bad_built register i room h g b in
      let n = ap (λ (x : Built). x.number) e in
      let l = ap (λ (x : Built). x.line) e in
      let m = judged_below i in
      let few : i ≤ 256 =
      ⊎_elim (λ (p : i ≤ 256). p) (λ (p : 256 < i). absurd (let q = (good_line 256 _ _ (g 256 p)).3 in omega arith)) (le_or_lt i 256) in
      (omega arith, omega arith)

  built_within : (room : ℕ) → ((built_of register room).number < 256) × ((built_of register room).line ≤ 257)
  built_within room =
      let i = first_from bad_at (length (lines_of register)) 0 in
      let before : (j : ℕ) → j < i → judge_nth register j ≡ 0 = λ j h. good_so j (first_least bad_at (length (lines_of register)) 0 j (omega arith) h) in
      ⊎_elim
      (λ (p : length (lines_of register) ≤ i). built_whole room (none_bad register (λ j h. before j (omega arith))).0)
      (λ (p : i < length (lines_of register)). built_bad room i p before (bad_so i (first_found bad_at (length (lines_of register)) 0 (omega arith))))
      (le_or_lt (length (lines_of register)) i)

-- ---- an import

log_number : (count : ℕ) (line : List ℕ) → judgeLog count line < 256
unfolding judgeLog
log_number count line = first_below (logCases count line) (unfold all_numbers in refl)

-- no line that is judged is after more than 1,024 others
judged_within : (count : ℕ) (ls : List (List ℕ)) → count ≤ most_lines → ((judged_from count ls).number < 256) × ((judged_from count ls).line ≤ 1025)
unfolding judged_from
judged_within count [] h = (omega arith, omega arith)
judged_within count (l ∷ ls) h = by_test (eqb (judgeLog count l) 0) refl (judged_within (count + 1) ls)
  where
    by_test : (b : Bool) → eqb (judgeLog count l) 0 ≡ b
        → (count + 1 ≤ most_lines → ((judged_from (count + 1) ls).number < 256) × ((judged_from (count + 1) ls).line ≤ 1025))
        → ((cond {A = Verdict} b (judged_from (count + 1) ls) (record { number = judgeLog count l; line = count + 1 })).number < 256)
        × ((cond {A = Verdict} b (judged_from (count + 1) ls) (record { number = judgeLog count l; line = count + 1 })).line ≤ 1025)
    by_test true e r = r (let g = (line_good count l (eqb-true (judgeLog count l) 0 e)).0 in omega arith)
    by_test false e r = (log_number count l, omega arith)

module _ (log words : List ℕ) (s : Settings) (lines pairs : ℕ) where
  imported_within : ((imported_of log words s lines pairs).number < 256) × ((imported_of log words s lines pairs).line ≤ 1025)
  imported_within =
      imported_cases log words s lines pairs (λ (r : Imported). (r.number < 256) × (r.line ≤ 1025))
      (λ v a b. (omega arith, omega arith))
      (λ v f. (omega arith, omega arith))
      (λ n. judged_within 0 (lines_of log) (omega arith))

  -- an import that is answered has no line that is refused
  imported_good : (imported_of log words s lines pairs).number ≡ 0 → (verdict_on log).number ≡ 0
  imported_good = imported_cases log words s lines pairs (λ (r : Imported). r.number ≡ 0 → (verdict_on log).number ≡ 0) (λ v a b z. v) (λ v f z. v) (λ n z. z)

-- ---- every line

pub reads_back : ReadsBack
reads_back input =
    let log = log_of input in
    let words = index_of input in
    let s = settings_of input in
    record {
      outcome = λ line. log_frames.outcome_back (case_of (outcome_of words s line)) (value_of (outcome_of words s line)) (case_below (outcome_of words s line)) (value_below words s line);
      pair = λ z k m.
          let entries = entries_in log words s in
          let a = (answered_so log words s most_lines most_lines z).0 in
          let g = all_good 0 (lines_of log) (imported_good log words s most_lines most_lines z) in
          let n = entries_few words s (lines_of log) in
          let t = sum_most (amount k) 65535 (amount_most k) entries in
          let c = sum_most (tally k) 1 (tally_most k) entries in
          log_frames.pair_back (id_in k) (week_in k) (sum_for entries k) (count_for entries k)
          (pair_id entries (entries_ids words s (lines_of log) (λ i h. (g i h).1)) k m)
          (omega arith)
          (omega arith)
          (omega arith);
      end = λ z.
          let a = answered_so log words s most_lines most_lines z in
          let a0 = a.0 in
          let a1 = a.1 in
          let n = length-map (lines_of log) (outcome_of words s) in
          log_frames.end_back (length (outcomes_in log words s)) (length (pairs_of (entries_in log words s))) (omega arith) (omega arith);
      too_much = log_frames.refusal_back whole_part 8 0 (omega arith) (omega arith) (omega arith);
      register_refused =
          (let b = built_within (register_of input) index_words in
          let l = b.1 in
          log_frames.refusal_back register_part _ _ (omega arith) b.0 (omega arith));
      settings_refused = log_frames.refusal_back settings_part 11 1 (omega arith) (omega arith) (omega arith);
      log_refused =
          (let b = imported_within log words s most_lines most_lines in
          let l = b.1 in
          log_frames.refusal_back log_part _ _ (omega arith) b.0 (omega arith));
    }
