-- The size of a scenario's totals. Assumes nothing.
use Prim.Native.Nat.{ℕ}
use mathlib.Core.Path.{◌≡◌, refl}
use mathlib.Core.List.{List}
use lib.ListN.{length}
use Rattle.value_places.specs.RowTotals.{row_totals}

-- a scenario has four totals
pub row_totals-length : (list : List ℕ) (scenario : ℕ) → length (row_totals list scenario) ≡ 4
unfolding row_totals
row_totals-length list scenario = refl
