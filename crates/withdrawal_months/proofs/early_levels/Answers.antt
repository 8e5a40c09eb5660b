-- `withdrawal_months::early_levels` meets its contract: the months before t have their levels. Assumes nothing.
use mathlib.Core.Path.{refl, ◌∙◌}
use mathlib.Core.List.{[]}
use native.Mathlib.Numerals.{add-one}
use native.Mathlib.Omega.{arith}
use lib.Seq.{get_or-set_other}
use Rattle.withdrawal.proofs.IncentiveLaws.{parts_within}
use Rattle.lists.proofs.FillLaws.{filled-start, filled_more}
use Rattle.withdrawal_months.specs.Levels.{MonthLevelled}
use Rattle.withdrawal_months.proofs.PathLaws.{path-suc}
use Rattle.withdrawal_months.proofs.early_levels.Goals as goal

pub coupon_parts-parts-requires : goal.coupon_parts-parts-requires
coupon_parts-parts-requires c = (c.requires.coupon_le_coupon_limit.0, c.requires.coupon_le_coupon_limit.1)

pub loop-t-init : goal.loop-t-init
loop-t-init c = (filled-start _ [] _ (omega arith), λ month h. refl)

pub overflow_sub-rate : goal.overflow_sub-rate
overflow_sub-rate c = omega (arith, c.requires.by_index.1)

pub overflow_mul-rate : goal.overflow_mul-rate
overflow_mul-rate c = omega (arith, c.requires.by_index.2)

pub overflow_add-rate : goal.overflow_add-rate
overflow_add-rate c = omega (arith, c.requires.by_index.2)

pub offset_bounds-rates-column : goal.offset_bounds-rates-column
offset_bounds-rates-column c = omega (arith, c.requires.by_index.2)

pub bounds-rates-column : goal.bounds-rates-column
bounds-rates-column c = let limits = c.requires.by_index in omega (arith, limits.2, limits.3)

-- the parts of the incentive are within their limits, and so is the rate of the month
pub month_levels-requires : goal.month_levels-requires
month_levels-requires c =
    let limits = c.requires.coupon_le_coupon_limit in (
      c.requires.coupon_le_coupon_limit.3,
      rw c.coupon_parts-parts.ensures (parts_within limits.0 limits.1),
      c.requires.by_index.0 _,
      omega (arith, limits.2),
    )

pub bounds-list-t : goal.bounds-list-t
bounds-list-t c = omega (arith, c.loop-t.invariant.0.long)

-- the levels of month t are set, and the months behind it stay
pub loop-t-preserved : goal.loop-t-preserved
loop-t-preserved c =
    let levelled : let a = c.args in
    MonthLevelled a.brokered a.coupon a.penalty a.months a.tiers.now a.rates.now a.column c.loop-t.t c.month_levels.result = λ i h. let a = c.args in
    rw (path-suc a.rates.now a.column c.loop-t.t, ← c.coupon_parts-parts.ensures, ← (add-one c.loop-t.t)) (c.month_levels.ensures i h) in
    let t = c.loop-t.t in
    let seven = c.month_levels.result in (
      filled_more _ [] 120 t c.loop-t.list seven (omega arith) levelled c.loop-t.invariant.0,
      λ month h. get_or-set_other c.loop-t.list t month seven [] (λ e. omega (arith, e, h)) ∙ c.loop-t.invariant.1 month (omega (arith, h)),
    )

pub returns : goal.returns
returns c = (
  λ month h. c.loop-t.invariant.0.holds month (omega arith),
  λ month h. c.loop-t.invariant.1 month (omega arith),
)
