-- The longest term that has to be discounted, in months. Definitions only.
use Rattle.std.specs.Prelude.{ℕ, zero, suc, max, cond, List, eqb}
use Rattle.form.specs.declared.sub_balances.SubBalance.{SubBalance}
use Rattle.form.specs.PlaceOrder.{sub_balance_count}
use Rattle.form.specs.Places.{place_in}

-- the remaining months of a place with a balance, 0 of one without
unfoldable pub term_of : SubBalance → ℕ
term_of p = cond (eqb p.balance 0) 0 p.remaining_months

-- the longest such term among the first n places, and among the thirty-six
unfoldable pub longest_to : List SubBalance → ℕ → ℕ
longest_to ps zero = 0
longest_to ps (suc n) = max (longest_to ps n) (term_of (place_in ps n))

unfoldable pub longest_term : List SubBalance → ℕ
longest_term ps = longest_to ps sub_balance_count
