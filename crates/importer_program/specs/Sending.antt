-- What the program hands to a write. What the output is: `report_of` of the crate `reports`.
-- Assumes nothing.
use Rattle.std.specs.Prelude.{◌≡◌, List, ℕ, ◌≤◌, length, take}
use Rattle.reports.specs.Report.{report_of}

-- the first `len` bytes of a buffer are all of the output
pub record Output (input : List ℕ) (len : ℕ) (out : List ℕ) : Type 0 where
  pub within : len ≤ length out
  pub text : take len out ≡ report_of input
