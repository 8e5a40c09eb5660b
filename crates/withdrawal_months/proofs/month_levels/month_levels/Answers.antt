-- `withdrawal_months::month_levels::month_levels` meets its contract. Assumes nothing.
use Prim.Native.Nat.{ℕ}
use Rattle.std.proofs.Common.{rules}
use Rattle.form.specs.Shift.{shifted_rate, scenario_count}
use Rattle.withdrawal.specs.Inner.Incentives.{incentive_from}
use Rattle.withdrawal_months.specs.TierLevels.{LevelFor}
use Rattle.withdrawal_months.proofs.EntryLaws.{holds-from_fn}
use Rattle.withdrawal_months.proofs.month_levels.month_levels.Goals as goal

pub returns : goal.returns
returns c =
    let a = c.args in
    holds-from_fn (λ (i level : ℕ). LevelFor a.brokered a.tiers.now (incentive_from a.parts (shifted_rate i a.rate) a.left) level) _ 0 scenario_count
    c.from_fn.ensures.items (λ i y q l k. search rules)
