-- `coupon_cell` meets its contract. Assumes nothing.
use mathlib.Core.Path.{refl}
use Rattle.form.specs.Borrowings.{coupon_cell}
use Rattle.form.proofs.borrowings.coupon_cell.Goals as goal

pub returns : goal.returns
unfolding coupon_cell
returns c = refl
