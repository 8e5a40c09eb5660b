-- A certificate without a fault is sound, and its months are in order. Assumes nothing.
use Prim.Native.Nat.{ℕ, ◌≤◌, ◌<◌}
use mathlib.Core.Path.{◌≡◌}
use mathlib.Core.Bool.{true, false, not}
use borrow.Author.Tests.{ltb-false, not-false}
use lib.Dec.{ltb}
use Rattle.form.specs.Limits.{balance_limit, filed_coupon_limit, months_limit}
use Rattle.answers.specs.Verdict.{refused_if, first_of}
use Rattle.answers.proofs.VerdictLaws.{first-none, condition-fails}
use Rattle.certificate_calendar.specs.declared.Date.{Date}
use Rattle.certificate_terms.specs.declared.Certificate.{Certificate}
use Rattle.certificate_terms.specs.Terms.{months_remaining, original_months, position_of}
use Rattle.certificate_terms.specs.Faults.{over_limit, no_such_day, not_outstanding, too_many_months, own_verdict}
use Rattle.certificate_calendar.specs.Dates.{is_date, on_or_after}
use Rattle.lists.proofs.TestLaws.{neither}
use Rattle.certificate_calendar.proofs.DateLaws.{date-day, on-or-after}
use Rattle.certificate_calendar.proofs.MonthLaws.{months-between-least, months-between-anti}
use Rattle.certificate_terms.proofs.PositionLaws.{position-lt}

-- all three dates are days
pub days-are : (v : Date) (c : Certificate) → no_such_day v c ≡ false
    → (is_date v ≡ true) × ((is_date c.issue ≡ true) × (is_date c.maturity ≡ true))
unfolding no_such_day
days-are v c h =
    let a = neither (not (is_date v)) _ h in
    let b = neither (not (is_date c.issue)) _ a.1 in
    (not-false _ a.0, (not-false _ b.0, not-false _ b.1))

-- a certificate without a fault
pub record Sound (v : Date) (c : Certificate) : Type 0 where
  pub balance-le : c.balance ≤ balance_limit
  pub coupon-le : c.coupon ≤ filed_coupon_limit
  pub valuation-day : is_date v ≡ true
  pub issue-day : is_date c.issue ≡ true
  pub maturity-day : is_date c.maturity ≡ true
  pub issued : on_or_after v c.issue ≡ true
  pub months-le : months_remaining v c ≤ months_limit

-- none of 5, 13, 14 and 15 refuses: balance and coupon are within their limits, the three dates are days, the issue is not after the
-- valuation, and the months are at most 120
pub own-sound : (v : Date) (k : ℕ) (c : Certificate) → (own_verdict v k c).number ≡ 0 → Sound v c
unfolding own_verdict first_of over_limit not_outstanding too_many_months
own-sound v k c h =
    let one = first-none (refused_if (over_limit c) 5 k) _ h in
    let two = first-none (refused_if (no_such_day v c) 13 k) _ one.1 in
    let three = first-none (refused_if (not_outstanding v c) 14 k) _ two.1 in
    let four = first-none (refused_if (too_many_months v c) 15 k) _ three.1 in
    let limits = neither (ltb balance_limit c.balance) _ (condition-fails (over_limit c) 4 k one.0) in
    let days = days-are v c (condition-fails (no_such_day v c) 12 k two.0) in
    let order = neither (not (on_or_after v c.issue)) _ (condition-fails (not_outstanding v c) 13 k three.0) in
    record {
      balance-le = ltb-false _ _ limits.0;
      coupon-le = ltb-false _ _ limits.1;
      valuation-day = days.0;
      issue-day = days.1.0;
      maturity-day = days.1.1;
      issued = not-false _ order.0;
      months-le = ltb-false _ _ (condition-fails (too_many_months v c) 14 k four.0);
    }

-- its remaining months are at least 1 and at most its original months, so that it has a position
module _ (v : Date) (c : Certificate) (s : Sound v c) where
  pub remaining-one : 1 ≤ months_remaining v c
  remaining-one = (months-between-least v c.maturity (date-day v s.valuation-day) (date-day c.maturity s.maturity-day)).one

  pub remaining-le-original : months_remaining v c ≤ original_months c
  remaining-le-original =
      months-between-anti c.issue v c.maturity (date-day c.issue s.issue-day) (date-day v s.valuation-day)
      (date-day c.maturity s.maturity-day) (on-or-after v c.issue s.issued)

  pub sound-position : position_of v c < 9
  unfolding position_of
  sound-position = position-lt (months_remaining v c) (original_months c) remaining-one s.months-le remaining-le-original
