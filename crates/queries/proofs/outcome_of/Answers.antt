-- `outcome_of` meets its contract, by its test.
use mathlib.Core.Path.{sym, ap}
use mathlib.Core.Bool.{Bool, cond}
use Prim.Native.Nat.{ℕ}
use borrow.Author.Tests.{eq-eqb, ne_eqb}
use Rattle.queries.proofs.outcome_of.Goals as goal

pub returns-then-reached-asked : goal.returns-then-reached-asked
returns-then-reached-asked c = sym (ap (λ (b : Bool). cond {A = ℕ} b 0 8) (eq-eqb _ _ c.if-reached-asked.true))

pub returns-else-reached-asked : goal.returns-else-reached-asked
returns-else-reached-asked c = sym (ap (λ (b : Bool). cond {A = ℕ} b 0 8) (ne_eqb _ _ c.if-reached-asked.false))
