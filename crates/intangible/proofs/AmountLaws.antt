-- What has been paid and what is left, together, month by month and term by term: how large it becomes, and how far lower and upper come apart.
-- Assumes nothing.
use Prim.Native.Nat.{ℕ, suc, ◌+◌, ◌*◌, ◌-◌, ◌≤◌, zero-le}
use mathlib.Core.Path.{◌≡◌}
use mathlib.Core.Bool.{Bool, true, false, cond}
use lib.Dec.{lit<}
use native.Mathlib.Nat.{zero-add, sub-zero, add-sub_of_le, add-le-add, mul-le-mul_left}
use native.Mathlib.Omega.{arith}
use Rattle.fraction.proofs.EnclosureLaws.{encloses-le}
use Rattle.pricing.specs.Scales.{par, coupon_growth, servicing_limit}
use Rattle.pricing.specs.Rounding.{Rounding, down, up, quotient}
use Rattle.pricing.proofs.RoundingLaws.{floor-gt, ceiling-ge, ceiling-lt, quotient-zero}
use Rattle.pricing.proofs.MonthLaws.{grown, month-lines, distance}
use Rattle.pricing.proofs.FlowWidthLaws.{paid}
use Rattle.pricing.proofs.PaidLaws.{paid-width, paid-limit}
use Rattle.intangible.specs.RollingTerms.{RollingTerms, first_balance, share_scale}
use Rattle.intangible.specs.RolledMonths.{ends_term, month_survival, month_growth}
use Rattle.intangible.specs.Run.{opened_by, balance_by, opening_by, unrolled_by, outflow_by}
use Rattle.intangible.specs.Bounded.{RollingBounded}
use Rattle.intangible.proofs.TermLaws.{survival-limit, filed-within}
use Rattle.intangible.proofs.EnclosureLaws.{balance-encloses, opening-encloses, outflow-encloses, unrolled-encloses}

-- the most that growth and servicing add to a balance of 3 × 10^9 in a month, with coupons of at most `limit`
abbrev pub over_by : ℕ → ℕ
over_by limit = coupon_growth * limit + 3 * servicing_limit

-- a distance after some months: two lines of a month, and the two parts where a term ends, are rounded six times
abbrev pub apart : ℕ → ℕ → ℕ → ℕ
apart limit start t = distance (over_by limit) 6 start t

-- A balance in two parts, s and e thousandths of it: rounded up they are less than 2 above it, rounded down less than 2 below it
parts-width : (s e l u : ℕ) → s + e ≡ share_scale → l ≤ u
    → quotient up (u * s) share_scale + quotient up (u * e) share_scale ≤ quotient down (l * s) share_scale + quotient down (l * e) share_scale + (u - l) + 2
parts-width s e l u h hl =
    let below : l * s + l * e ≡ l * share_scale = rw (← h) (omega arith) in
    let above : u * s + u * e ≡ u * share_scale = rw (← h) (omega arith) in
    omega (
      arith,
      ceiling-lt (u * s) share_scale (lit< tt),
      ceiling-lt (u * e) share_scale (lit< tt),
      floor-gt (l * s) share_scale (lit< tt),
      floor-gt (l * e) share_scale (lit< tt),
    )

-- the two parts rounded up are no less than the balance
parts-ge : (s e u : ℕ) → s + e ≡ share_scale → u ≤ quotient up (u * s) share_scale + quotient up (u * e) share_scale
parts-ge s e u h =
    let above : u * s + u * e ≡ u * share_scale = rw (← h) (omega arith) in
    omega (arith, ceiling-ge (u * s) share_scale (lit< tt), ceiling-ge (u * e) share_scale (lit< tt))

pub cond-le : (ends : Bool) {x y : ℕ} → x ≤ y → cond ends x 0 ≤ cond ends y 0
cond-le true h = h
cond-le false h = zero-le

-- what leaves in month t + 1: outflow, and where a term ends what does not roll over
unfoldable pub gone_by : Rounding → RollingTerms → ℕ → ℕ
gone_by ρ k t = outflow_by ρ k t + cond (ends_term k (suc t)) (unrolled_by ρ k (suc t)) 0

module _ (limit : ℕ) (k : RollingTerms) (b : RollingBounded limit k) where
  -- balance and outflow of month t + 1 from any opening balances l ≤ u
  pub lines : (t l u : ℕ) → l ≤ u
      → quotient up (u * (month_growth k (suc t) + 3 * month_survival k (suc t))) (3 * par) + quotient up (u * (k.servicing + par - month_survival k (suc t))) par
      ≤ quotient down (l * (month_growth k (suc t) + 3 * month_survival k (suc t))) (3 * par)
      + quotient down (l * (k.servicing + par - month_survival k (suc t))) par + grown (over_by limit) 4 (u - l)
  unfolding month_growth
  lines t l u h =
      month-lines (over_by limit) (month_growth k (suc t)) k.servicing (month_survival k (suc t)) l u
      (add-le-add (mul-le-mul_left coupon_growth (b.coupon-limit (suc t))) (mul-le-mul_left 3 b.servicing-limit))
      (survival-limit k b.survival-limit (suc t)) h

  -- of the run, lower and upper apart, and the upper from nothing
  pub month-width : (t : ℕ)
      → balance_by up k (suc t) + outflow_by up k t ≤ balance_by down k (suc t) + outflow_by down k t + grown (over_by limit) 4 (opening_by up k t - opening_by down k t)
  unfolding balance_by outflow_by opening_by
  month-width t = lines t (opening_by down k t) (opening_by up k t) (encloses-le (opening-encloses k t))

  pub month-limit : (t : ℕ) → balance_by up k (suc t) + outflow_by up k t ≤ grown (over_by limit) 4 (opening_by up k t)
  unfolding balance_by outflow_by opening_by
  month-limit t =
      rw (quotient-zero down _ (3 * par) (lit< tt), quotient-zero down _ par (lit< tt), zero-add, sub-zero) at (lines t 0 (opening_by up k t) zero-le)

  shares-add : k.share + (share_scale - k.share) ≡ share_scale
  shares-add = add-sub_of_le b.share-limit

  -- what of a balance is left for the next month, and what is not, whether a term ends or not: together at most 2 further apart than the balance
  split-width : (ends : Bool) (l u lo uo d : ℕ) → l ≤ u → u + uo ≤ l + lo + grown (over_by limit) 4 d
      → cond ends (quotient up (u * k.share) share_scale) u + (uo + cond ends (quotient up (u * (share_scale - k.share)) share_scale) 0)
      ≤ cond ends (quotient down (l * k.share) share_scale) l + (lo + cond ends (quotient down (l * (share_scale - k.share)) share_scale) 0) + grown (over_by limit) 6 d
  unfolding grown
  split-width true l u lo uo d hl h = omega (arith, parts-width k.share (share_scale - k.share) l u shares-add hl)
  split-width false l u lo uo d hl h = omega arith

  -- the same from a lower figure of 0
  split-limit : (ends : Bool) (u uo d : ℕ) → u + uo ≤ grown (over_by limit) 4 d
      → cond ends (quotient up (u * k.share) share_scale) u + (uo + cond ends (quotient up (u * (share_scale - k.share)) share_scale) 0)
      ≤ grown (over_by limit) 6 d
  unfolding grown
  split-limit true u uo d h =
      omega (
        arith,
        parts-width k.share (share_scale - k.share) 0 u shares-add zero-le,
        quotient-zero down k.share share_scale (lit< tt),
        quotient-zero down (share_scale - k.share) share_scale (lit< tt),
      )
  split-limit false u uo d h = omega arith

  -- one month of the run: lower and upper apart, and the upper from nothing
  step-width : (t : ℕ)
      → opening_by up k (suc t) + gone_by up k t
      ≤ opening_by down k (suc t) + gone_by down k t + grown (over_by limit) 6 (opening_by up k t - opening_by down k t)
  unfolding opening_by opened_by gone_by unrolled_by
  step-width t =
      split-width (ends_term k (suc t)) (balance_by down k (suc t)) (balance_by up k (suc t)) (outflow_by down k t) (outflow_by up k t)
      (opening_by up k t - opening_by down k t) (encloses-le (balance-encloses k (suc t))) (month-width t)

  step-limit : (t : ℕ) → opening_by up k (suc t) + gone_by up k t ≤ grown (over_by limit) 6 (opening_by up k t)
  unfolding opening_by opened_by gone_by unrolled_by
  step-limit t = split-limit (ends_term k (suc t)) (balance_by up k (suc t)) (outflow_by up k t) (opening_by up k t) (month-limit t)

  -- B_0 is what the first month opens with
  first_opening : (ρ : Rounding) → opening_by ρ k 0 ≡ first_balance
  unfolding opening_by opened_by balance_by
  first_opening ρ = rw (filed-within k 0 b.months-pos)

  -- what is left and what has gone to month t, upper: at most the distance of 10^6 after t months
  pub amount-le : (t : ℕ) → opening_by up k t + paid (gone_by up k) t ≤ apart limit first_balance t
  amount-le t = rw (first_opening up) at (paid-limit (over_by limit) 6 (opening_by up k) (gone_by up k) step-limit t)

  -- an upper balance is no more than what is left of it and what does not roll over
  pub upper-held : (t : ℕ) → balance_by up k (suc t) + outflow_by up k t ≤ opening_by up k (suc t) + gone_by up k t
  unfolding opening_by opened_by gone_by unrolled_by
  upper-held t = by (ends_term k (suc t)) (balance_by up k (suc t)) (outflow_by up k t)
    where
      by : (ends : Bool) (u o : ℕ)
          → u + o ≤ cond ends (quotient up (u * k.share) share_scale) u + (o + cond ends (quotient up (u * (share_scale - k.share)) share_scale) 0)
      by true u o = omega (arith, parts-ge k.share (share_scale - k.share) u shares-add)
      by false u o = omega arith

  pub gone-le : (t : ℕ) → gone_by down k t ≤ gone_by up k t
  unfolding gone_by
  gone-le t = add-le-add (encloses-le (outflow-encloses k t)) (cond-le (ends_term k (suc t)) (encloses-le (unrolled-encloses k (suc t))))

  -- upper and lower apart: at most the distance of 0 after t months
  pub amount-width : (t : ℕ) → opening_by up k t + paid (gone_by up k) t ≤ opening_by down k t + paid (gone_by down k) t + apart limit 0 t
  amount-width t =
      rw (first_opening up, first_opening down)
      at (paid-width (over_by limit) 6 (opening_by down k) (opening_by up k) (gone_by down k) (gone_by up k) (λ i. encloses-le (opening-encloses k i)) gone-le step-width t)
