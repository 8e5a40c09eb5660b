-- What has been paid and what is left of a deposit, together, month by month: how large it becomes, and how far lower and upper come apart.
-- Assumes nothing.
use Prim.Native.Nat.{ℕ, suc, ◌+◌, ◌*◌, ◌-◌, ◌≤◌, zero-le}
use lib.Dec.{lit<, lit≤}
use native.Mathlib.Nat.{zero-add, sub-zero, le_trans, add-le-add, mul-le-mul_left}
use Rattle.fraction.proofs.EnclosureLaws.{encloses-le}
use Rattle.form.specs.Limits.{months_limit}
use Rattle.pricing.specs.Scales.{par, growth_limit, servicing_limit, amount_limit}
use Rattle.pricing.specs.Terms.{Terms}
use Rattle.pricing.specs.Bounded.{Bounded}
use Rattle.pricing.specs.Rounding.{Rounding, down, up, quotient}
use Rattle.pricing.specs.Run.{balance_by, outflow_by}
use Rattle.pricing.proofs.RoundingLaws.{quotient-zero}
use Rattle.pricing.proofs.EnclosureLaws.{balance-encloses, outflow-encloses}
use Rattle.pricing.proofs.MonthLaws.{grown, month-lines, distance, distance-mono}
use Rattle.pricing.proofs.FlowWidthLaws.{paid}
use Rattle.pricing.proofs.PaidLaws.{paid-width, paid-limit}

-- the most that growth and servicing add to a balance of 3 × 10^9 in a month
abbrev growth_over : ℕ
growth_over = growth_limit + 3 * servicing_limit

-- a distance after a month of two lines, and after some such months
abbrev month_grown : ℕ → ℕ
month_grown d = grown growth_over 4 d

abbrev pub apart : ℕ → ℕ → ℕ
apart start t = distance growth_over 4 start t

-- outflows of the first t months
abbrev pub outflows_by : Rounding → Terms → ℕ → ℕ
outflows_by ρ k t = paid (outflow_by ρ k) t

-- balance and outflow of month t + 1 from any balances l ≤ u at its start: a month's step at growth, servicing and survival q, with u as
-- l and the difference, and 10^9 - q withdrawn
step : (k : Terms) → Bounded k → (t l u : ℕ) → l ≤ u
    → quotient up (u * (k.growth + 3 * k.survival (suc t))) (3 * par) + quotient up (u * (k.servicing + par - k.survival (suc t))) par
    ≤ quotient down (l * (k.growth + 3 * k.survival (suc t))) (3 * par) + quotient down (l * (k.servicing + par - k.survival (suc t)))
    par + month_grown (u - l)
step k b t l u h =
    month-lines growth_over k.growth k.servicing (k.survival (suc t)) l u (add-le-add b.growth-limit (mul-le-mul_left 3 b.servicing-limit))
    (b.survival-limit (suc t)) h

step-from-zero : (k : Terms) → Bounded k → (t : ℕ) → balance_by up k (suc t) + outflow_by up k t ≤ month_grown (balance_by up k t)
unfolding balance_by outflow_by
step-from-zero k b t =
    rw (quotient-zero down _ (3 * par) (lit< tt), quotient-zero down _ par (lit< tt), zero-add, sub-zero) at (step k b t 0 (balance_by up k t) zero-le)

-- upper balance and outflows to month t are at most the distance of 10^9 after t months
pub amount-le : (k : Terms) → Bounded k → (t : ℕ) → balance_by up k t + outflows_by up k t ≤ apart par t
unfolding balance_by
amount-le k b t = paid-limit growth_over 4 (balance_by up k) (outflow_by up k) (step-from-zero k b) t

step-apart : (k : Terms) → Bounded k → (t : ℕ)
    → balance_by up k (suc t) + outflow_by up k t ≤ balance_by down k (suc t) + outflow_by down k t + month_grown (balance_by up k t - balance_by down k t)
unfolding balance_by outflow_by
step-apart k b t = step k b t (balance_by down k t) (balance_by up k t) (encloses-le (balance-encloses k t))

-- upper balance and outflows to month t stand above the lower ones by at most the distance of 0 after t months
pub amount-width : (k : Terms) → Bounded k → (t : ℕ) → balance_by up k t + outflows_by up k t ≤ balance_by down k t + outflows_by down k t + apart 0 t
unfolding balance_by
amount-width k b t =
    paid-width growth_over 4 (balance_by down k) (balance_by up k) (outflow_by down k) (outflow_by up k) (λ i. encloses-le (balance-encloses k i))
    (λ i. encloses-le (outflow-encloses k i)) (step-apart k b) t

-- the two distances after the longest term
pub amount-limit : {t : ℕ} → t ≤ months_limit → apart par t ≤ amount_limit
unfolding distance grown quotient
amount-limit h = le_trans (distance-mono growth_over 4 par h) (lit≤ tt)

pub width-limit : {t : ℕ} → t ≤ months_limit → apart 0 t ≤ 1254
unfolding distance grown quotient
width-limit h = le_trans (distance-mono growth_over 4 0 h) (lit≤ tt)
