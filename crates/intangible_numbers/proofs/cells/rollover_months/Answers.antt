-- `cells::rollover_months` meets its contract: each arm has the months of the definition. Assumes nothing.
use Prim.Native.Nat.{◌≤◌}
use mathlib.Core.Path.{◌≡◌, sym, ap}
use native.Mathlib.Omega.{arith}
use Rattle.intangible_numbers.specs.Sheets.{rollover_months}
use Rattle.intangible_numbers.proofs.cells.rollover_months.Goals as goal

pub returns-in-1 : goal.returns-in-1
unfolding rollover_months
returns-in-1 c = ap rollover_months (sym c.in-1.is)

pub returns-in-2 : goal.returns-in-2
unfolding rollover_months
returns-in-2 c = ap rollover_months (sym c.in-2.is)

pub returns-in_default : goal.returns-in_default
unfolding rollover_months
returns-in_default c =
    let past : 3 ≤ c.args.column = omega arith in
    let e : c.args.column ≡ 3 = omega arith in
    ap rollover_months (sym e)
