-- `total` meets its contract. The loop's invariant: the numbers of the borrowings so far are summed. Assumes nothing.
use Prim.Native.Nat.{◌+◌, ◌*◌}
use native.Mathlib.Omega.{arith}
use native.Mathlib.Numerals.{add-one}
use mathlib.Core.Path.{refl}
use Rattle.lists.specs.Sums.{sum_where}
use Rattle.form.specs.Counts.{place_number_count}
use Rattle.borrowing_numbers.specs.Inner.Rows.{number_at}
use Rattle.borrowing_numbers.proofs.totals.total.Goals as goal

pub loop-i-init : goal.loop-i-init
unfolding sum_where
loop-i-init c = (omega arith, refl)

pub loop-i-preserved : goal.loop-i-preserved
unfolding sum_where number_at
loop-i-preserved c =
    let a = c.args in
    let i = c.loop-i.i in
    let limit = c.requires.0.within (place_number_count * i + a.r) (omega arith) in
    (omega arith, rw (add-one, c.loop-i.invariant.1))
