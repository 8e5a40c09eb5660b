-- `row_of` meets its contract. Assumes nothing.
use mathlib.Core.Path.{◌≡◌}
use Rattle.borrowing_numbers.specs.Borrowed.{balance_of, coupon_of, months_of}
use Rattle.borrowing_numbers.specs.Inner.Rows.{row_with}
use Rattle.borrowing_numbers.proofs.RowLaws.{row_written}
use Rattle.borrowing_numbers.proofs.rows.row_of.Goals as goal

-- balance, coupon and months are read from the borrowing's own cells, whose limits the caller holds; so are those of the factors
pub values_of-values-requires : goal.values_of-values-requires
unfolding balance_of coupon_of months_of
values_of-values-requires c =
    let balance-read : c.cell_value-balance.result ≡ balance_of c.args.cells.now c.args.i = rw (← c.borrowing_at-b.ensures) c.cell_value-balance.ensures in
    let coupon-read : c.cell_value-coupon.result ≡ coupon_of c.args.cells.now c.args.i = rw (← c.borrowing_at-b.ensures) c.cell_value-coupon.ensures in
    let months-read : c.cell_value-months.result ≡ months_of c.args.cells.now c.args.i = rw (← c.borrowing_at-b.ensures) c.cell_value-months.ensures in
    let p = c.requires in
    let limits = p.0 in (
      rw balance-read (limits.balance-le _ p.1),
      rw coupon-read (limits.coupon-le _ p.1),
      rw months-read (limits.months-le _ p.1),
      p.2,
      p.3,
    )

pub returns : goal.returns
unfolding balance_of coupon_of months_of row_with
returns c =
    let balance-read : c.cell_value-balance.result ≡ balance_of c.args.cells.now c.args.i = rw (← c.borrowing_at-b.ensures) c.cell_value-balance.ensures in
    let coupon-read : c.cell_value-coupon.result ≡ coupon_of c.args.cells.now c.args.i = rw (← c.borrowing_at-b.ensures) c.cell_value-coupon.ensures in
    let months-read : c.cell_value-months.result ≡ months_of c.args.cells.now c.args.i = rw (← c.borrowing_at-b.ensures) c.cell_value-months.ensures in
    rw (c.write.ensures, c.values_of-values.ensures, balance-read, coupon-read, months-read)
    (row_written _ _ _ _ _)
