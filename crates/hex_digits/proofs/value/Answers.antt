-- `value` meets its contract: its two ranges are those of the digits.
-- Assumes nothing.
use native.Mathlib.Omega.{arith}
use Rattle.hex_digits.proofs.Digits.{value_low, value_high, value_none}
use Rattle.hex_digits.proofs.value.Goals as goal

pub returns-in-48-to-57 : goal.returns-in-48-to-57
returns-in-48-to-57 c = value_low _ (omega arith) (omega arith)

pub returns-in-65-to-70 : goal.returns-in-65-to-70
returns-in-65-to-70 c = value_high _ (omega arith) (omega arith)

pub returns-in_default : goal.returns-in_default
returns-in_default c = value_none _ (omega arith) (λ h k. omega arith) (λ h k. omega arith)

pub returns-in_default-2 : goal.returns-in_default-2
returns-in_default-2 c = value_none _ (omega arith) (λ h k. omega arith) (λ h k. omega arith)

pub returns-in_default-3 : goal.returns-in_default-3
returns-in_default-3 c = value_none _ (omega arith) (λ h k. omega arith) (λ h k. omega arith)
