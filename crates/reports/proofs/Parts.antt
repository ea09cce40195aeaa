-- The parts of an input, judged one after the other: the first that is refused is all of the output.
-- Assumes nothing.
use mathlib.Core.Path.{◌≡◌, refl, sym, ap, ap₂, ◌∙◌}
use mathlib.Core.List.{List, [], ◌∷◌, append-nil}
use Prim.Native.Nat.{ℕ, ◌+◌, ◌-◌, ◌≤◌, ◌<◌}
use native.Mathlib.Omega.{arith}
use lib.ListN.{length, get_or, take, drop, replicate, length-drop, length-replicate}
use lib.Seq.{drop-drop, take_all}
use borrow.Author.Tests.{lt-ltb, le-ltb, eq-eqb, ne_eqb}
use Rattle.lines.specs.Lines.{line_length, joined}
use Rattle.fields.specs.Layouts.{Reading}
use Rattle.std.specs.Prelude.{Ok, Err}
use Rattle.refusals.specs.declared.Refusal.{Refusal}
use Rattle.refusals.proofs.Refusals.{refused}
use Rattle.frames.specs.declared.Query.{Query}
use Rattle.frames.specs.Frames.{query_out}
use Rattle.register.specs.Build.{Built, built_of, words_after}
use Rattle.answers.specs.Output.{register_end, register_of}
use Rattle.importer.specs.Import.{settings}
use Rattle.reports.specs.Report.{most_input, index_words, settings_line, log_of, index_of, settled, refusal_line, whole_part, register_part, settings_part, import_lines, settled_lines, report_lines, report_of}

alone : (l : List ℕ) → l ≡ joined (l ∷ [])
alone l = unfold joined in (sym (append-nil l))

-- ---- the settings line

module _ (line log words : List ℕ) where
  pub settings_bad : (r : Refusal) → query_out (Err r) ≡ settled line → refusal_line settings_part 11 1 ≡ joined (settled_lines line log words)
  unfolding settled_lines
  settings_bad r e =
      rw (ne_eqb (settled line).number 0 (λ z. refused r (ap (λ (x : Reading). x.number) e ∙ z))) (alone (refusal_line settings_part 11 1))

  pub settings_good : (r : Query) → query_out (Ok r) ≡ settled line
      → joined (import_lines log words (settings r.measure r.p r.q r.allowance)) ≡ joined (settled_lines line log words)
  unfolding settled_lines
  settings_good r e =
      rw (eq-eqb (settled line).number 0 (sym (ap (λ (x : Reading). x.number) e)))
      (ap (λ (x : Reading). joined (import_lines log words (settings (get_or x.fields 0 0) (get_or x.fields 1 0) (get_or x.fields 2 0) (get_or x.fields 3 0)))) e)

-- ---- the whole

module _ (input : List ℕ) where
  pub report_much : most_input < length input → refusal_line whole_part 8 0 ≡ report_of input
  unfolding report_of report_lines
  report_much h = rw (lt-ltb most_input (length input) h) (alone (refusal_line whole_part 8 0))

  module _ (few : length input ≤ most_input) (at : ℕ) (ends : at ≡ register_end input) (b : Built)
      (built : b ≡ built_of (take at input) (length {A = ℕ} (replicate index_words 0))) where
    as_built : b ≡ built_of (register_of input) index_words
    as_built = built ∙ ap₂ built_of (ap (λ (k : ℕ). take k input) ends) (length-replicate {A = ℕ} index_words 0)

    pub register_bad : (b.number ≡ 0 → ⊥) → refusal_line register_part b.number b.line ≡ report_of input
    unfolding report_of report_lines
    register_bad n =
        rw (le-ltb most_input (length input) few, ne_eqb (built_of (register_of input) index_words).number 0 (λ z. n (ap (λ (x : Built). x.number) as_built ∙ z)))
        (ap (λ (x : Built). refusal_line register_part x.number x.line) as_built ∙ alone _)

    whole : (built_of (register_of input) index_words).number ≡ 0 → joined (settled_lines (settings_line input) (log_of input) (index_of input)) ≡ report_of input
    unfolding report_of report_lines
    whole n = rw (le-ltb most_input (length input) few, eq-eqb (built_of (register_of input) index_words).number 0 n) refl

    -- the settings line and the log, as they are cut
    pub register_good : b.number ≡ 0 → (words : List ℕ) → words ≡ words_after (take at input) (replicate index_words 0) → (end : ℕ)
        → end ≡ at + line_length (drop at input) → (line log : List ℕ) → line ≡ take (end - at) (drop at input) → log ≡ take (length input - end) (drop end input)
        → joined (settled_lines line log words) ≡ report_of input
    register_good z words w end e line log p q =
        let n : (built_of (register_of input) index_words).number ≡ 0 = sym (ap (λ (x : Built). x.number) as_built) ∙ z in
        let i : words ≡ index_of input = w ∙ ap (λ (k : ℕ). words_after (take k input) (replicate index_words 0)) ends in
        let k : end - at ≡ line_length (drop at input) = omega arith in
        let l : line ≡ settings_line input = p ∙ ap (λ (j : ℕ). take j (drop at input)) k ∙ ap (λ (j : ℕ). take (line_length (drop j input)) (drop j input)) ends in
        let d = length-drop end input in
        let left = take_all (length input - end) (drop end input) (omega arith) in
        let m : log ≡ log_of input =
        q ∙ left ∙ ap (λ (j : ℕ). drop j input) e ∙ sym (drop-drop (line_length (drop at input)) at input) ∙ ap (λ (j : ℕ). drop (line_length (drop j input)) (drop j input)) ends in
        ap (λ (x : List ℕ). joined (settled_lines x log words)) l
        ∙ ap₂ (λ (x y : List ℕ). joined (settled_lines (settings_line input) x y)) m i
        ∙ whole n
