-- `price_factors::fill_factors` meets its contract: the months passed are written. Assumes nothing.
use Prim.Native.Nat.{ℕ, ◌*◌}
use mathlib.Core.List.{List}
use lib.ListN.{replicate}
use Rattle.lists.specs.Tables.{table, joined}
use Rattle.lists.proofs.RunLaws.{Overwritten}
use Rattle.form.specs.Shift.{scenario_count}
use Rattle.form.specs.Counts.{factor_count}
use Rattle.pricing.specs.Rounding.{Rounding, down, up}
use Rattle.price_factors.specs.Inner.Factors.{month_factors}
use Rattle.price_factors.proofs.fill_factors.Given as goal

-- a table with the factors of some months
abbrev Written : Rounding → List ℕ → ℕ → ℕ → List ℕ → Type 0
Written ρ yields longest month factors = Overwritten (joined (table month (month_factors ρ yields longest))) (scenario_count * month) (replicate factor_count 0) factors

abbrev pub invariant-loop-month : goal.invariant-loop-month
invariant-loop-month l = Written down l.yields l.longest l.month l.lower × Written up l.yields l.longest l.month l.upper
