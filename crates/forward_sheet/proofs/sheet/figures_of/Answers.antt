-- `figures_of` meets its contract: the entries of the months passed are there. Assumes nothing.
use Prim.Native.Nat.{ℕ, suc, ◌+◌, ◌-◌}
use mathlib.Core.Path.{◌≡◌}
use native.Mathlib.Omega.{arith}
use mathlib.Core.List.{List}
use lib.ListN.{get_or}
use Rattle.lists.proofs.FillLaws.{filled_more}
use Rattle.form.specs.Limits.{sheet_months}
use Rattle.form.specs.Shift.{shifted_rate}
use Rattle.form.proofs.ShiftLaws.{shifted-rate-le}
use Rattle.price_factors.specs.Inner.Factors.{sheet_yield}
use Rattle.forward_sheet.specs.Inner.Runs.{sheet_growth}
use Rattle.forward_sheet.proofs.FigureLaws.{entries-end, sheet-grows}
use Rattle.forward_sheet.proofs.sheet.figures_of.Goals as goal

same : (yields : List ℕ) (scenario month : ℕ) {z : ℕ} → z ≡ shifted_rate scenario (get_or yields month 0) → z ≡ sheet_yield yields scenario (month + 1)
unfolding sheet_yield
same yields scenario month h = let e : month + 1 - 1 ≡ month = omega arith in rw e h

pub accumulated-requires : goal.accumulated-requires
accumulated-requires c =
    (rw c.shifted.ensures (shifted-rate-le c.args.scenario.number _ (omega (arith, c.requires.2)) (c.requires.0 _)), omega arith)

pub loop-month-preserved : goal.loop-month-preserved
unfolding sheet_growth
loop-month-preserved c =
    let shifted-is : c.shifted.result ≡ sheet_yield c.args.yields.now c.args.scenario.number (c.loop-month.month + 1) = same c.args.yields.now c.args.scenario.number c.loop-month.month c.shifted.ensures in
    filled_more _ 0 (suc sheet_months) _ _ _ (omega arith)
    (record { is = rw shifted-is at c.accumulated.ensures.0; limit = c.accumulated.ensures.1 }) c.loop-month.invariant

pub returns : goal.returns
returns c =
    let e : c.loop-month.month + 1 ≡ suc sheet_months = omega arith in
    entries-end _ (λ month. sheet-grows _ c.requires.0 c.args.scenario.number month c.requires.2) (rw e at c.loop-month.invariant)
