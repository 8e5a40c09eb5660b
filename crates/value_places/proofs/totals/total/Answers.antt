-- `value_places::totals::total` meets its contract: the sum is that of the places before, each at most the limit. Assumes nothing.
use Prim.Native.Nat.{◌+◌, ◌*◌}
use mathlib.Core.Path.{◌≡◌, refl, ◌∙◌}
use native.Mathlib.Omega.{arith}
use Rattle.lists.specs.Sums.{sum}
use Rattle.lists.specs.Tables.{table_from}
use Rattle.lists.proofs.SumLaws.{sum-table-suc}
use Rattle.form.specs.Counts.{place_number_count}
use Rattle.value_places.specs.RowTotals.{number_at}
use Rattle.value_places.proofs.totals.total.Goals as goal

pub loop-i-init : goal.loop-i-init
unfolding sum table_from
loop-i-init c = (omega arith, refl)

pub overflow_add-sum-in-loop-i-2 : goal.overflow_add-sum-in-loop-i-2
overflow_add-sum-in-loop-i-2 c =
    let a = c.args in
    omega (arith, c.requires.0.within (place_number_count * (a.first + c.loop-i.i) + a.r) (omega arith))

pub loop-i-preserved : goal.loop-i-preserved
unfolding number_at
loop-i-preserved c =
    let a = c.args in
    let i = c.loop-i.i in
    let limit = c.requires.0.within (place_number_count * (a.first + i) + a.r) (omega arith) in
    (omega arith, omega (arith, sum-table-suc a.first i (number_at a.list.now a.r)))

pub returns : goal.returns
returns c =
    let e : c.loop-i.i ≡ c.args.count = omega arith in
    c.loop-i.invariant.1 ∙ rw e
