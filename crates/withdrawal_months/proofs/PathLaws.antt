-- The rates of a column's months. Assumes nothing.
use Prim.Native.Nat.{ℕ, suc, ◌+◌, ◌*◌, ◌-◌}
use mathlib.Core.Path.{◌≡◌}
use mathlib.Core.List.{List}
use native.Mathlib.Omega.{arith}
use lib.ListN.{get_or}
use Rattle.form.specs.Limits.{sheet_months}
use Rattle.form.specs.Shift.{path_rate}

-- the rate of month t + 1
pub path-suc : (rates : List ℕ) (column t : ℕ) → path_rate rates column (suc t) ≡ get_or rates (sheet_months * (column - 1) + t) 0
unfolding path_rate
path-suc rates column t = let e : suc t - 1 ≡ t = omega arith in rw e
