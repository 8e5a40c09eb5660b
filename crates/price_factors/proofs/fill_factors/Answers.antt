-- `price_factors::fill_factors` meets its contract: the months passed are written. Assumes nothing.
use Prim.Native.Nat.{ℕ, suc, ◌+◌, ◌*◌, ◌<◌}
use mathlib.Core.List.{List, []}
use mathlib.Core.Path.{◌≡◌, ◌∙◌}
use native.Mathlib.Omega.{arith}
use lib.ListN.{get_or, replicate}
use Rattle.lists.specs.Runs.{written}
use Rattle.lists.specs.Tables.{table_from, table, joined}
use Rattle.lists.proofs.RunLaws.{Overwritten, overwritten-none, overwritten-row, overwritten-all}
use Rattle.form.specs.Shift.{scenario_count, shifted_rates}
use Rattle.form.specs.Limits.{months_limit}
use Rattle.form.specs.Counts.{factor_count}
use Rattle.pricing.specs.Rounding.{Rounding, down, up}
use Rattle.pricing.specs.Inner.Multipliers.{discounts_by}
use Rattle.price_factors.specs.Inner.Factors.{yield_factors, month_factors, factors_by}
use Rattle.price_factors.proofs.FactorLaws.{month-length, month-within, factors-left}
use Rattle.price_factors.proofs.fill_factors.Goals as goal

-- a table with the factors of some months
abbrev Written : Rounding → List ℕ → ℕ → ℕ → List ℕ → Type 0
Written ρ yields longest month factors = Overwritten (joined (table month (month_factors ρ yields longest))) (scenario_count * month) (replicate factor_count 0) factors

-- one month more
month-written : (ρ : Rounding) (yields : List ℕ) (longest month : ℕ) (factors after : List ℕ) → month < months_limit → month < longest
    → Written ρ yields longest month factors → after ≡ written factors (scenario_count * month) (discounts_by ρ (shifted_rates (get_or yields month 0)) (suc month))
    → Written ρ yields longest (month + 1) after
unfolding yield_factors
month-written ρ yields longest month factors after h l w e =
    rw e
    (overwritten-row [] (month_factors ρ yields longest) scenario_count (month-length ρ yields longest) month (scenario_count * month) (scenario_count * (month + 1)) (replicate factor_count 0) factors
    (discounts_by ρ (shifted_rates (get_or yields month 0)) (suc month)) w (month-within ρ yields longest month l) (omega arith) (omega arith))

pub loop-month-init : goal.loop-month-init
unfolding table_from joined
loop-month-init c = rw (c.requires.2, c.requires.3) (overwritten-none _, overwritten-none _)

pub returns-then-longest-month : goal.returns-then-longest-month
returns-then-longest-month c =
    let inv = c.loop-month.invariant in
    (inv.0.is ∙ factors-left _ _ _ _ c.if-longest-month.true (omega arith), inv.1.is ∙ factors-left _ _ _ _ c.if-longest-month.true (omega arith))

pub fill_month-requires : goal.fill_month-requires
fill_month-requires c =
    let p = c.requires in
    (p.0 _, omega (arith, c.loop-month.invariant.0.as_long), omega (arith, c.loop-month.invariant.1.as_long))

pub loop-month-preserved : goal.loop-month-preserved
loop-month-preserved c = (
  month-written down _ _ c.loop-month.month c.loop-month.lower _ (omega arith) (omega (arith, c.if-longest-month.false)) c.loop-month.invariant.0 c.fill_month.ensures.0,
  month-written up _ _ c.loop-month.month c.loop-month.upper _ (omega arith) (omega (arith, c.if-longest-month.false)) c.loop-month.invariant.1 c.fill_month.ensures.1,
)

pub returns : goal.returns
unfolding factors_by
returns c =
    let e : c.loop-month.month ≡ months_limit = omega arith in
    let inv = c.loop-month.invariant in
    (overwritten-all _ _ _ _ inv.0 (omega arith) ∙ rw e, overwritten-all _ _ _ _ inv.1 (omega arith) ∙ rw e)
