-- The terms one after the other (02:CR 9; 003, Equations 6.A.9 to 6.A.11): the filed one, which ends in month T, and those that rollovers open, which
-- end in months T + TR, T + 2 TR and so on. Definitions only.
use Rattle.std.specs.Prelude.{ℕ, suc, ◌+◌, ◌*◌, ◌-◌, ◌/◌, Bool, cond, ◌||◌, leb, eqb}
use Rattle.pricing.specs.Scales.{par, coupon_growth}
use Rattle.intangible.specs.RollingTerms.{RollingTerms}

-- the month before the first of month t's term: 0 for the filed term, then T, T + TR, T + 2 TR and so on
unfoldable pub term_opened : RollingTerms → ℕ → ℕ
term_opened k t = cond (leb t k.months) 0 (k.months + k.term * ((t - suc k.months) / k.term))

-- the last month of month t's term, even past the horizon
unfoldable pub term_end : RollingTerms → ℕ → ℕ
term_end k t = cond (leb t k.months) k.months (term_opened k t + k.term)

-- the coupon of month t's term, thousandths of a percent a year: the filed one; of a new term the retail rate of its first month
unfoldable pub term_coupon : RollingTerms → ℕ → ℕ
term_coupon k t = cond (leb t k.months) k.coupon (10 * k.rate (suc (term_opened k t)))

-- month t is the last of its term
unfoldable pub ends_term : RollingTerms → ℕ → Bool
ends_term k t = eqb t (term_end k t)

-- q of month t, billionths: 10^9 in the last month of a term and at the horizon, else by the months left to the term's own end
unfoldable pub month_survival : RollingTerms → ℕ → ℕ
month_survival k t = cond (eqb t k.horizon || ends_term k t) par (k.survival (term_coupon k t) (k.rate t) (term_end k t - t))

-- 2,500 × c of month t (01:56; 02:CR 4): the month's interest in units of 1 / (3 × 10^9) of the balance
unfoldable pub month_growth : RollingTerms → ℕ → ℕ
month_growth k t = coupon_growth * term_coupon k t
