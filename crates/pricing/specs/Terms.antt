-- What the cash flows of a deposit depend on. Definitions only.
use Rattle.std.specs.Prelude.{ℕ}

pub record Terms : Type 0 where
  -- 2,500 × coupon in thousandths, which is 25,000 × one in hundredths (01:56; 02:CR 4): the month's interest in units of 1 / (3 × 10^9) of the balance
  pub growth : ℕ
  -- a (01:55): the month's servicing cost in billionths of the balance
  pub servicing : ℕ
  -- T, the remaining months
  pub months : ℕ
  -- q of a month (01:50-53), billionths
  pub survival : ℕ → ℕ
