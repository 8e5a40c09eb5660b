-- `Scenario::shifted` meets its contract. Assumes nothing.
use native.Mathlib.Omega.{arith}
use Rattle.form.specs.Shift.{shifted_rate}
use Rattle.form_scenarios.proofs.Scenario.shifted.Goals as goal

pub returns-then-raised-middle : goal.returns-then-raised-middle
unfolding shifted_rate
returns-then-raised-middle c = omega arith

pub returns-else-raised-middle : goal.returns-else-raised-middle
unfolding shifted_rate
returns-else-raised-middle c = omega arith
