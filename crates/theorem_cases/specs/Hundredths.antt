-- Gain, cost and growth as document 01 writes them, with the coupon c in hundredths of a percent a year (01:49, 01:56). The model takes c in
-- thousandths (02:CR 4); HundredthsLaws says that ten times c gives the same. Definitions only.
-- r: shifted retail rate in hundredths of a percent a year; p: penalty in hundredths of a month; n: months left.
use Rattle.std.specs.Prelude.{ℕ, ◌*◌, ℤ, pos, ◌-ℤ◌, ◌*ℤ◌}

unfoldable pub gain_in_hundredths : ℕ → ℕ → ℕ → ℕ → ℤ
gain_in_hundredths c p r n = (pos 12000000 -ℤ pos (c * p)) *ℤ pos (r * n) -ℤ pos (120000 * c * p)

unfoldable pub cost_in_hundredths : ℕ → ℕ → ℕ
cost_in_hundredths c n = 12000000 * c * n

-- units of 1 / (3 × 10^9) of the balance
unfoldable pub growth_in_hundredths : ℕ → ℕ
growth_in_hundredths c = 25000 * c
