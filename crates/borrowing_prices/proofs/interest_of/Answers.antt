-- `interest_of` meets its contract. Assumes nothing.
use Prim.Native.Nat.{ℕ, ◌*◌}
use mathlib.Core.Path.{◌≡◌}
use mathlib.Core.Bool.{Bool}
use Rattle.pricing.specs.Scales.{par, rate_scale}
use Rattle.pricing.specs.Rounding.{rounding_of, quotient}
use Rattle.borrowing_prices.specs.Run.{interest_by}
use Rattle.borrowing_prices.proofs.WidthLaws.{interest-limit}
use Rattle.borrowing_prices.proofs.interest_of.Goals as goal

interest-made : (up : Bool) (coupon r : ℕ) → r ≡ quotient (rounding_of up) (par * coupon) rate_scale → r ≡ interest_by (rounding_of up) coupon
unfolding interest_by
interest-made up coupon r e = e

pub returns : goal.returns
returns c = let e = interest-made c.args.up c.args.coupon c.quotient.result c.quotient.ensures in
    (e, rw e (interest-limit (rounding_of c.args.up) c.args.coupon c.requires))
