-- `withdrawal_months::level_multipliers` meets its contract: the levels passed have their multipliers, the others none. Assumes nothing.
use Prim.Native.Nat.{ℕ, ◌≤◌}
use mathlib.Core.Path.{◌≡◌}
use Rattle.lists.proofs.FillLaws.{Filled}
use Rattle.withdrawal_months.specs.Levels.{multipliers_at, no_multipliers, held_at}
use Rattle.withdrawal_months.proofs.level_multipliers.Given as goal

abbrev pub invariant-loop-level : goal.invariant-loop-level
invariant-loop-level l =
    Filled (multipliers_at l.brokered l.growth l.servicing l.tiers) no_multipliers 17 l.level l.multipliers
    × ((level : ℕ) → l.level ≤ level → held_at l.multipliers level ≡ no_multipliers)
