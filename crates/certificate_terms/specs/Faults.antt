-- What can be wrong with a certificate by itself (02:CR 5): 5, 13, 14 and 15, in that order. Definitions only.
use Rattle.std.specs.Prelude.{ℕ, Bool, not, ◌||◌, ltb, [], ◌∷◌}
use Rattle.form.specs.Limits.{balance_limit, filed_coupon_limit, months_limit}
use Rattle.certificate_calendar.specs.declared.Date.{Date}
use Rattle.certificate_terms.specs.declared.Certificate.{Certificate}
use Rattle.certificate_terms.specs.Terms.{months_remaining}
use Rattle.certificate_calendar.specs.Dates.{is_date, on_or_after}
use Rattle.answers.specs.Verdict.{Verdict, refused_if, first_of}

-- 5: a balance or coupon past its limit
unfoldable pub over_limit : Certificate → Bool
over_limit c = ltb balance_limit c.balance || ltb filed_coupon_limit c.coupon

-- 13: a date that is no day of 1900 to 2199. The valuation date counts with each certificate, so that the first has the fault where it is no day
unfoldable pub no_such_day : Date → Certificate → Bool
no_such_day valuation c = not (is_date valuation) || (not (is_date c.issue) || not (is_date c.maturity))

-- 14: an issue after the valuation date, or a maturity not after it
unfoldable pub not_outstanding : Date → Certificate → Bool
not_outstanding valuation c = not (on_or_after valuation c.issue) || on_or_after valuation c.maturity

-- 15: more than 120 remaining months
unfoldable pub too_many_months : Date → Certificate → Bool
too_many_months valuation c = ltb months_limit (months_remaining valuation c)

-- the faults of certificate k by itself: 5, 13, 14, 15, at its index
unfoldable pub own_verdict : Date → ℕ → Certificate → Verdict
own_verdict valuation k c =
    first_of
    (refused_if (over_limit c) 5 k
    ∷ refused_if (no_such_day valuation c) 13 k
    ∷ refused_if (not_outstanding valuation c) 14 k
    ∷ refused_if (too_many_months valuation c) 15 k
    ∷ [])
