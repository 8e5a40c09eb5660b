-- The sums of the nine positions with a certificate more. Definitions only.
use Rattle.std.specs.Prelude.{ℕ, ◌+◌, ◌*◌, List, get_or, set}
use Rattle.certificate_cells.specs.declared.filled_cells.Totals.{Totals}

-- an amount added at an index
unfoldable pub added_at : List ℕ → ℕ → ℕ → List ℕ
added_at l i amount = set l i (get_or l i 0 + amount)

-- the sums with a certificate more, of a position, remaining months, balance and coupon
unfoldable pub totals_with : Totals → ℕ → ℕ → ℕ → ℕ → Totals
totals_with t i months balance coupon =
    record {
      balance = added_at t.balance i balance;
      coupon = added_at t.coupon i (balance * coupon);
      months = added_at t.months i (balance * months);
    }
