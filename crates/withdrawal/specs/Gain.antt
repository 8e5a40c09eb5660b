-- What a depositor gains and foregoes by withdrawing early (01:49; 02:CR 4), on one common scale. Definitions only.
-- c: coupon in thousandths of a percent a year, r: shifted retail rate in hundredths; p: penalty in hundredths of a month; n: months left, T - t.
use Rattle.std.specs.Prelude.{ℕ, ◌*◌, Bool, false, leb, ℤ, pos, negsuc, ◌-ℤ◌, ◌*ℤ◌}

-- the scale of the gain: a balance without interest, against which c × p is set
abbrev pub gain_scale : ℕ
gain_scale = 120000000

-- what a penalty of one hundredth of a month costs at a coupon of one
abbrev pub penalty_scale : ℕ
penalty_scale = 120000

-- what a month at a coupon of one is worth
abbrev pub cost_scale : ℕ
cost_scale = 12000000

-- (120,000,000 - c × p) × r × n - 120,000 × c × p, which may be negative: ten times the gain of 01:49, whose c is in hundredths
unfoldable pub gain : ℕ → ℕ → ℕ → ℕ → ℤ
gain c p r n = (pos gain_scale -ℤ pos (c * p)) *ℤ pos (r * n) -ℤ pos (penalty_scale * c * p)

-- 12,000,000 × c × n: ten times the cost of 01:49
unfoldable pub cost : ℕ → ℕ → ℕ
cost c n = cost_scale * c * n

-- the whole number m is at most the integer
unfoldable pub at_most : ℕ → ℤ → Bool
at_most m (pos n) = leb m n
at_most m (negsuc n) = false
