-- `cells::cell_numbers` meets its contract. Assumes nothing.
use Prim.Native.Nat.{◌<◌}
use mathlib.Core.Path.{◌≡◌, sym, ◌∙◌}
use mathlib.Core.Logic.{⊎_elim}
use native.Mathlib.Nat.{eq-zero-or-pos}
use native.Mathlib.Omega.{arith}
use borrow.Author.Tests.{eq-eqb, ne_eqb}
use Rattle.form.specs.Cells.{position_at}
use Rattle.filing_cells.proofs.SumLaws.{column-range}
use Rattle.intangible_numbers.specs.Numbers.{balance_of}
use Rattle.intangible_numbers.specs.Inner.Limits.{retail_cell, cell_numbers_by}
use Rattle.intangible_numbers.proofs.CellLaws.{cell-fits}
use Rattle.intangible_numbers.proofs.cells.cell_numbers.Goals as goal

pub returns-then-cell_value-eq0 : goal.returns-then-cell_value-eq0
unfolding balance_of cell_numbers_by
returns-then-cell_value-eq0 c =
    let balance : balance_of c.args.cells.now c.args.i ≡ c.cell_value.result = sym (c.cell_value.ensures ∙ rw c.position-p.ensures) in
    rw (eq-eqb _ 0 (balance ∙ c.if-cell_value-eq0.true))

pub retail_cell-cell-requires : goal.retail_cell-cell-requires
retail_cell-cell-requires c =
    rw c.position-p.ensures ((column-range _ c.requires.rolling_cells.1).0, (column-range _ c.requires.rolling_cells.1).1, c.requires.rolling_cells.3.long)

pub intangible_of-requires : goal.intangible_of-requires
unfolding balance_of
intangible_of-requires c =
    let balance : balance_of c.args.cells.now c.args.i ≡ c.cell_value.result = sym (c.cell_value.ensures ∙ rw c.position-p.ensures) in
    let filled : 0 < balance_of c.args.cells.now c.args.i = ⊎_elim (λ e. absurd (c.if-cell_value-eq0.false (sym balance ∙ e))) (λ p. p) (eq-zero-or-pos _) in
    let is : c.retail_cell-cell.result
    ≡ retail_cell c.args.cells.now c.args.shares.now
    (position_at c.args.i) = c.retail_cell-cell.ensures ∙ rw c.position-p.ensures in
    (rw is (cell-fits _ _ _ c.requires.rolling_cells.0 c.requires.rolling_cells.3 c.requires.rolling_cells.1 filled), c.requires.rolling_cells.2, c.requires.tiers_lent.0, c.requires.tiers_lent.1, c.requires.tiers_lent.2)

pub returns : goal.returns
unfolding balance_of cell_numbers_by
returns c =
    let balance : balance_of c.args.cells.now c.args.i ≡ c.cell_value.result = sym (c.cell_value.ensures ∙ rw c.position-p.ensures) in
    let filled : 0 < balance_of c.args.cells.now c.args.i = ⊎_elim (λ e. absurd (c.if-cell_value-eq0.false (sym balance ∙ e))) (λ p. p) (eq-zero-or-pos _) in
    let is : c.retail_cell-cell.result
    ≡ retail_cell c.args.cells.now c.args.shares.now
    (position_at c.args.i) = c.retail_cell-cell.ensures ∙ rw c.position-p.ensures in
    c.intangible_of.ensures ∙ rw (ne_eqb (balance_of c.args.cells.now c.args.i) 0 (λ e. omega (arith, filled, e)), is)
