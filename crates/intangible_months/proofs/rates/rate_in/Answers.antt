-- `rates::rate_in` meets its contract. Assumes nothing.
use mathlib.Core.Path.{◌∙◌}
use native.Mathlib.Omega.{arith}
use Rattle.form.proofs.ShiftLaws.{shifted-rate-le}
use Rattle.intangible_months.specs.Rates.{rolling_rate}
use Rattle.intangible_months.proofs.rates.rate_in.Goals as goal

pub returns : goal.returns
unfolding rolling_rate
returns c =
    let p = c.requires in
    let is = c.shifted.ensures in
    (is ∙ rw (c.new.ensures, c.lasting_rate.ensures.0), rw (is, c.new.ensures) (shifted-rate-le _ _ (omega (arith, p.1)) c.lasting_rate.ensures.1))
