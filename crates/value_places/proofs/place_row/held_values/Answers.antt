-- `value_places::place_row::held_values` meets its contract. Assumes nothing.
use Prim.Native.Nat.{◌/◌}
use native.Mathlib.Omega.{arith}
use Rattle.filing_cells.proofs.SumLaws.{column-range}
use Rattle.form.specs.PlaceOrder.{position_of}
use Rattle.value_places.specs.Inner.PlaceRows.{tabled_held}
use Rattle.value_places.proofs.place_row.held_values.Goals as goal

-- the deposit is the one that the place holds, and its column is 1 to 3
pub values_of-requires : goal.values_of-requires
values_of-requires c =
    let range = column-range (c.args.place / 4) (omega arith) in record {
      balance_le_balance_limit = (
        c.requires.place_lt_sub_balance_count.1,
        rw c.deposit_at-d.ensures c.requires.place_lt_sub_balance_count.2,
        rw c.position-column.ensures (record { within = c.requires.within_rates.0; first-le = range.0; last-le = range.1; long = c.requires.within_rates.1 }),
        c.requires.within_rates.2,
      );
      discounting = rw c.deposit_at-d.ensures c.requires.discounting;
    }

pub returns : goal.returns
unfolding tabled_held position_of
returns c =
    record { value = λ t. rw (c.values_of.ensures.value t, c.position-column.ensures, c.deposit_at-d.ensures); levels_left = rw (c.position-column.ensures, c.deposit_at-d.ensures) at c.values_of.ensures.levels_left }
