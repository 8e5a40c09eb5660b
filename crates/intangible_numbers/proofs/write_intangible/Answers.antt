-- `write_intangible` meets its contract: the numbers of the cells so far are written. Assumes nothing.
use Prim.Native.Nat.{◌+◌, ◌*◌, ◌<◌}
use mathlib.Core.Path.{◌≡◌, ◌∙◌}
use mathlib.Core.List.{[]}
use native.Mathlib.Omega.{arith}
use Rattle.lists.specs.Tables.{table_from, joined}
use Rattle.lists.proofs.RunLaws.{overwritten-none, overwritten-row}
use Rattle.form.specs.Counts.{place_value_count}
use Rattle.pricing.specs.Rounding.{down, up}
use Rattle.intangible_numbers.specs.Numbers.{position_count}
use Rattle.intangible_numbers.proofs.FactorLaws.{long-at-most-par}
use Rattle.intangible_numbers.proofs.NumberLaws.{tabled-length, rows_are}
use Rattle.intangible_numbers.proofs.write_intangible.Goals as goal

pub loop-i-init : goal.loop-i-init
unfolding table_from joined
loop-i-init c = overwritten-none _

pub cell_numbers-fourteen-requires : goal.cell_numbers-fourteen-requires
cell_numbers-fourteen-requires c =
    record { rolling_cells = (c.requires.rolling_cells.0, c.loop-i-test.true, c.requires.rolling_cells.1.rates-fit, c.requires.rolling_cells.1.shares-fit); tiers_lent = (c.requires.tiers_lent.0, rw c.fill_long.ensures.0 (long-at-most-par down _ _), rw c.fill_long.ensures.1 (long-at-most-par up _ _)) }

pub loop-i-preserved : goal.loop-i-preserved
loop-i-preserved c =
    let state = c.loop-i in
    let more : state.i < position_count = omega arith in
    rw c.write_signed.ensures (overwritten-row [] _ place_value_count (tabled-length _ _ _ _ _ _) state.i (place_value_count * state.i) (place_value_count * (state.i + 1))
    _ state.list c.cell_numbers-fourteen.result state.invariant c.cell_numbers-fourteen.ensures (omega (arith, more)) (omega (arith, more, c.requires.tiers_lent.1)))

pub returns : goal.returns
returns c =
    let a = c.args in
    let e : c.loop-i.i ≡ position_count = omega arith in
    λ t. c.loop-i.invariant.is ∙ rw (e, rows_are a.cells.now a.yields.now a.long.now a.rates.now a.shares.now a.tiers.now t c.requires.rolling_cells.0 c.fill_long.ensures.0 c.fill_long.ensures.1)
