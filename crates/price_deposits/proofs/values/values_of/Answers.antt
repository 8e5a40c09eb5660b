-- `price_deposits::values::values_of` meets its contract: the scenarios passed are written, by the walk. Assumes nothing.
use Prim.Native.Nat.{ℕ, ◌+◌, ◌*◌, ◌≤◌, ◌<◌}
use mathlib.Core.List.{[]}
use mathlib.Core.Path.{◌≡◌, refl, ap, subst, ◌∙◌}
use native.Mathlib.Nat.{le_refl, mul-le-mul_left, ne_of_gt, pos_of_ne-zero}
use native.Mathlib.Omega.{arith}
use lib.ListN.{replicate}
use Rattle.lists.specs.Tables.{table_from, joined}
use Rattle.lists.proofs.TableLaws.{table-ext}
use Rattle.lists.proofs.RunLaws.{overwritten-none, overwritten-row, overwritten-all}
use Rattle.form.specs.Shift.{scenario_count}
use Rattle.form.specs.Counts.{place_value_count}
use Rattle.withdrawal.specs.MonthSurvival.{account_of}
use Rattle.pricing.specs.Scales.{par, coupon_growth}
use Rattle.price_multipliers.specs.Multipliers.{multipliers_of}
use Rattle.price_deposits.specs.DepositTerms.{servicing_cost}
use Rattle.price_deposits.specs.Inner.Levels.{lent_tiers, Multiplied}
use Rattle.price_deposits.specs.Inner.Walked.{values_at}
use Rattle.price_deposits.specs.Inner.Values.{tabled_values}
use Rattle.withdrawal_months.proofs.LevelLaws.{level-survival-le, survival-alike}
use Rattle.price_deposits.proofs.TermsLaws.{servicing-le}
use Rattle.price_deposits.proofs.LevelLaws.{levelled-lent, multiplied-lent}
use Rattle.price_deposits.proofs.WalkLaws.{priceable, prices-le, bounds-are}
use Rattle.price_deposits.proofs.ValueLaws.{no-values}
use Rattle.price_deposits.proofs.values.values_of.Goals as goal

pub returns-then-balance-eq0 : goal.returns-then-balance-eq0
returns-then-balance-eq0 c = record { value = (λ t. rw c.if-balance-eq0.true (no-values _ _ _ _ _ _)); levels_left = ((λ e. refl), λ some. absurd (ne_of_gt some c.if-balance-eq0.true)) }

pub multipliers_of-last-requires : goal.multipliers_of-last-requires
multipliers_of-last-requires c = (
  rw c.coupon_growth-growth.ensures (mul-le-mul_left _ c.requires.balance_le_balance_limit.1.coupon-le),
  rw c.servicing_cost-servicing.ensures (servicing-le (account_of c.args.d.brokered)),
  le_refl par,
)

pub early_levels-requires : goal.early_levels-requires
early_levels-requires c =
    let limits = c.requires.balance_le_balance_limit in
    record {
      coupon_le_coupon_limit = (limits.1.coupon-le, limits.1.penalty-le, limits.1.months-le, limits.3.usable.edges_fit);
      by_index = (limits.2.within, limits.2.first-le, limits.2.last-le, limits.2.long);
    }

pub level_multipliers-multipliers-requires : goal.level_multipliers-multipliers-requires
level_multipliers-multipliers-requires c =
    let limits = c.requires.balance_le_balance_limit in (
      rw c.coupon_growth-growth.ensures (mul-le-mul_left _ limits.1.coupon-le),
      rw c.servicing_cost-servicing.ensures (servicing-le (account_of c.args.d.brokered)),
      limits.3.usable.edges_fit.count-le,
      λ i. subst (λ (q : ℕ). q ≤ par) (survival-alike c.args.tiers.now limits.3.withdrawals limits.3.otherwise c.args.d.brokered i)
          (level-survival-le c.args.d.brokered (lent_tiers limits.3) i limits.3.usable),
    )

pub loop-scenario-init : goal.loop-scenario-init
unfolding table_from joined
loop-scenario-init c = overwritten-none _

-- the deposit is priceable with these levels and multipliers, and its prices are within the limit
pub value_bounds-two-requires : goal.value_bounds-two-requires
value_bounds-two-requires c =
    let a = c.args in
    let limits = c.requires.balance_le_balance_limit in
    let tables = c.requires.discounting (pos_of_ne-zero c.if-balance-eq0.false) in
    let last-is : c.multipliers_of-last.result ≡ multipliers_of (coupon_growth * a.d.coupon) (servicing_cost (account_of a.d.brokered)) par =
    rw (← c.coupon_growth-growth.ensures, ← c.servicing_cost-servicing.ensures) c.multipliers_of-last.ensures in
    let multiplied : Multiplied a.tiers.now a.d c.level_multipliers-multipliers.result =
    rw (← c.coupon_growth-growth.ensures, ← c.servicing_cost-servicing.ensures) c.level_multipliers-multipliers.ensures.0 in
    let levelled = levelled-lent a.tiers.now limits.3 a.d a.rates.now a.column _ c.early_levels.ensures.0 in
    let lent = multiplied-lent a.tiers.now limits.3 a.d _ multiplied in
    let lt : c.loop-scenario.scenario < scenario_count = omega arith in record {
      balance_le_balance_limit = (limits.0, limits.1.months-le, lt);
      priceable = priceable (lent_tiers limits.3) a.d a.rates.now a.column _ _ a.discounts.now _ limits.1 limits.3.usable levelled lent lt tables.0 tables.1 last-is;
      months_bound = prices-le (lent_tiers limits.3) a.d a.rates.now a.column _ _ a.discounts.now _ limits.1 limits.3.usable levelled lent lt tables.0 tables.1 last-is;
    }

-- lower and upper value of one scenario more are written
pub loop-scenario-preserved : goal.loop-scenario-preserved
unfolding values_at
loop-scenario-preserved c =
    let state = c.loop-scenario in
    rw c.write.ensures (overwritten-row [] _ 2 (λ s. refl) state.scenario (2 * state.scenario) (2 * (state.scenario + 1)) (replicate place_value_count 0) state.values
    c.value_bounds-two.result state.invariant c.value_bounds-two.ensures (omega arith) (omega arith))

-- all seven scenarios are written, each with the values by the tables
pub returns : goal.returns
unfolding tabled_values
returns c =
    let a = c.args in
    let limits = c.requires.balance_le_balance_limit in
    let tables = c.requires.discounting (pos_of_ne-zero c.if-balance-eq0.false) in
    let last-is : c.multipliers_of-last.result ≡ multipliers_of (coupon_growth * a.d.coupon) (servicing_cost (account_of a.d.brokered)) par =
    rw (← c.coupon_growth-growth.ensures, ← c.servicing_cost-servicing.ensures) c.multipliers_of-last.ensures in
    let multiplied : Multiplied a.tiers.now a.d c.level_multipliers-multipliers.result =
    rw (← c.coupon_growth-growth.ensures, ← c.servicing_cost-servicing.ensures) c.level_multipliers-multipliers.ensures.0 in
    let e : c.loop-scenario.scenario ≡ scenario_count = omega arith in record {
      value = λ t. overwritten-all _ _ _ _ c.loop-scenario.invariant (omega arith)
          ∙ rw e
          (ap joined (table-ext scenario_count _ _
          (λ s h. bounds-are (lent_tiers t) a.d a.rates.now a.column _ _ a.discounts.now s limits.1 t.usable
          (levelled-lent a.tiers.now t a.d a.rates.now a.column _ c.early_levels.ensures.0) (multiplied-lent a.tiers.now t a.d _ multiplied) h tables.0 tables.1 last-is a.balance)));
      levels_left = ((λ none. absurd (c.if-balance-eq0.false none)), λ some. c.early_levels.ensures);
    }
