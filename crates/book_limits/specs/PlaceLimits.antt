-- What a place of the book takes (02:CR 7): the limits of document 01 (01:17-24) at that place. Definitions only.
use Rattle.std.specs.Prelude.{ℕ, Bool, cond, ◌&&◌, leb, ltb}
use Rattle.form.specs.Cells.{within_row}
use Rattle.form.specs.Limits.{balance_limit, coupon_limit, penalty_limit}
use Rattle.form.specs.PlaceOrder.{sub_balance_count, position_of, with_penalty}

-- a place with penalty takes one up to the limit, hundredths of a month, a place without only 0
unfoldable pub penalty_within : ℕ → ℕ → Bool
penalty_within place penalty = leb penalty (cond (with_penalty place) penalty_limit 0)

-- place 0 to 35 takes a balance of at least 1 (thousands of dollars), a coupon (thousandths of a percent a year), months of its row and a penalty
unfoldable pub fits_place : ℕ → ℕ → ℕ → ℕ → ℕ → Bool
fits_place place balance coupon months penalty =
    ltb place sub_balance_count
    && (leb 1 balance
    && (leb balance balance_limit
    && (leb coupon coupon_limit
    && (within_row (position_of place).row months
    && penalty_within place penalty))))
