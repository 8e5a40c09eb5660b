-- `withdrawal_months::early_levels` meets its contract: the months before t have their levels. Assumes nothing.
use Prim.Native.Nat.{ℕ, ◌≤◌}
use mathlib.Core.Path.{◌≡◌}
use mathlib.Core.List.{[]}
use lib.ListN.{get_or}
use Rattle.lists.proofs.FillLaws.{FilledBy}
use Rattle.withdrawal_months.specs.Levels.{MonthLevelled}
use Rattle.withdrawal_months.proofs.early_levels.Given as goal

abbrev pub invariant-loop-t : goal.invariant-loop-t
invariant-loop-t l =
    FilledBy (MonthLevelled l.brokered l.coupon l.penalty l.months l.tiers l.rates l.column) [] 120 l.t l.list
    × ((month : ℕ) → l.t ≤ month → get_or l.list month [] ≡ get_or l.initial.list month [])
