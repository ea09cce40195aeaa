-- The buffer holds the longest output, so all of it is there.
use Rattle.std.proofs.Common.{◌≡◌, refl, Result, Ok, Err, ℕ, ap, sym, ◌∙◌, arith, length, take}
use Rattle.std.specs.Prelude.{IsOk}
use Rattle.refusals.specs.declared.Refusal.{Refusal}
use Rattle.refusals.proofs.Refusals.{refused}
use Rattle.fields.specs.Layouts.{Written, written_in}
use Rattle.fields.proofs.Fitted.{fitting_whole, fitted_whole, length_fitted}
use Rattle.reports.specs.Report.{report_of}
use Rattle.reports.proofs.Most.{report_most}
use Rattle.importer_program.proofs.import_input.Goals as goal

-- a text that is written whole is no refusal
answered : (r : Result ℕ Refusal) (n : ℕ) → written_in r ≡ record { number = 0; len = n } → IsOk r
answered (Ok k) n e = refl
answered (Err r) n e = absurd (refused r (ap (λ (x : Written). x.number) e))

pub unwrap-len-requires : goal.unwrap-len-requires
unwrap-len-requires g c =
    let a = c.args in
    let l = c.requires in
    let m = report_most a.input.now in
    answered _ _ (c.report.ensures.value ∙ fitting_whole (report_of a.input.now) (length a.out.now) (omega arith))

pub hand_over-requires : goal.hand_over-requires
hand_over-requires g c =
    let a = c.args in
    let l = c.requires in
    let r = c.report in
    let m = report_most a.input.now in
    let e = ap written_in (sym c.unwrap-len.ensures) ∙ r.ensures.value ∙ fitting_whole (report_of a.input.now) (length a.out.now) (omega arith) in
    let n : length r.new.out ≡ length a.out.now = ap length r.ensures.out_after ∙ length_fitted (report_of a.input.now) a.out.now in
    let k = ap (λ (x : Written). x.len) e in
    record {
      within = omega arith;
      text =
          ap (λ (j : ℕ). take j r.new.out) k
          ∙ ap (take (length (report_of a.input.now))) r.ensures.out_after
          ∙ fitted_whole (report_of a.input.now) a.out.now (omega arith);
    }
