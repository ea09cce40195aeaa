-- Rows that can be shown as 52 lines: the part of the contracts that is not an equation.
-- Assumes nothing.
use Rattle.std.specs.Prelude.{ℕ, ◌≤◌, ◌<◌, length, get_or}
use Rattle.search.specs.Answers.{Columns}
use Rattle.answers.specs.Output.{rows_lent}

-- the first n rows are there, at most as many as are lent, and each field fits its bytes
pub record Shown (c : Columns) (n : ℕ) : Type 0 where
  pub few : n ≤ rows_lent
  pub in_ids : n ≤ length c.ids
  pub in_shared : n ≤ length c.shared
  pub in_sizes : n ≤ length c.sizes
  pub in_least : n ≤ length c.least
  pub id : (k : ℕ) → k < n → get_or c.ids k 0 < 65536
  pub share : (k : ℕ) → k < n → get_or c.shared k 0 < 256
  pub size : (k : ℕ) → k < n → get_or c.sizes k 0 < 256
  pub least : (k : ℕ) → k < n → get_or c.least k 0 < 256
