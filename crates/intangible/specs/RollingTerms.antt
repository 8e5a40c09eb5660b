-- What the intangible of a retail cell in a scenario depends on (02:CR 9; 003, Equations 6.A.8 to 6.A.11). Definitions only.
use Rattle.std.specs.Prelude.{ℕ, ◌^◌}

-- B_0 (02:CR 9), and the scale of balances, flows and results: millionths of the opening balance
abbrev pub first_balance : ℕ
first_balance = 10 ^ 6

-- the scale of a rollover share: thousandths
abbrev pub share_scale : ℕ
share_scale = 1000

-- the month to which the intangible is reckoned (003, Equation 6.A.8)
abbrev pub last_month : ℕ
last_month = 360

pub record RollingTerms : Type 0 where
  -- c, the filed coupon (WAC), thousandths of a percent a year
  pub coupon : ℕ
  -- T, the filed remaining months (WARM)
  pub months : ℕ
  -- the months of a term that a rollover opens (003, Table 6.A.2)
  pub term : ℕ
  -- the rollover share (02:CR 9, kind 9), thousandths
  pub share : ℕ
  -- a (01:55): the month's servicing cost, billionths of the opening balance
  pub servicing : ℕ
  -- the shifted retail rate of a month, from 1 on, hundredths of a percent a year
  pub rate : ℕ → ℕ
  -- q of a month before the last of its term (01:50-51), billionths: by the term's coupon, the month's rate and the months left of the term
  pub survival : ℕ → ℕ → ℕ → ℕ
  -- the month in which what remains is paid (02:CR 9): 360
  pub horizon : ℕ
