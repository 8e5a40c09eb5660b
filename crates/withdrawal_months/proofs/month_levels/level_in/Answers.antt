-- `withdrawal_months::month_levels::level_in` meets its contract. Assumes nothing.
use Prim.Native.Nat.{ℕ, ◌≤◌}
use mathlib.Core.Path.{◌≡◌, ap, ◌∙◌}
use native.Mathlib.Omega.{arith}
use Rattle.form.specs.Shift.{shifted_rate, shifted_limit}
use Rattle.form.proofs.ShiftLaws.{shifted-rate-le}
use Rattle.withdrawal.specs.Inner.Incentives.{incentive_from}
use Rattle.withdrawal.proofs.IncentiveLaws.{incentive-small}
use Rattle.withdrawal_months.proofs.LevelLaws.{level-last, last-le}
use Rattle.withdrawal_months.proofs.month_levels.level_in.Goals as goal

pub gain_and_cost-incentive-requires : goal.gain_and_cost-incentive-requires
gain_and_cost-incentive-requires c =
    let rate-le : c.shifted-shifted.result ≤ shifted_limit = rw (c.shifted-shifted.ensures, c.new.ensures)
    (shifted-rate-le _ _ (omega arith) c.requires.3) in
    (c.requires.2, rate-le, c.requires.4)

pub level_for-requires : goal.level_for-requires
level_for-requires c =
    let rate-le : c.shifted-shifted.result ≤ shifted_limit = rw (c.shifted-shifted.ensures, c.new.ensures)
    (shifted-rate-le _ _ (omega arith) c.requires.3) in
    (c.requires.1, rw c.gain_and_cost-incentive.ensures (incentive-small c.requires.2 rate-le c.requires.4))

-- a level is at most the last one, which is at most 16
pub overflow_cast-result : goal.overflow_cast-result
overflow_cast-result c =
    let a = c.args in
    omega (
      arith,
      level-last a.brokered a.tiers.now c.gain_and_cost-incentive.result c.level_for.result c.level_for.ensures,
      last-le a.brokered a.tiers.now c.requires.1.count-le,
    )

pub returns : goal.returns
returns c =
    let a = c.args in
    let same : c.gain_and_cost-incentive.result ≡ incentive_from a.parts (shifted_rate a.scenario a.rate) a.left =
    c.gain_and_cost-incentive.ensures
    ∙ ap (λ (r : ℕ). incentive_from a.parts r a.left) (c.shifted-shifted.ensures ∙ ap (λ (s : ℕ). shifted_rate s a.rate) c.new.ensures) in
    rw (← same) c.level_for.ensures
