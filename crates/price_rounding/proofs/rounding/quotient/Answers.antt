-- `price_rounding::rounding::quotient` meets its contract. Assumes nothing.
use Rattle.pricing.specs.Rounding.{quotient, rounding_of}
use Rattle.price_rounding.proofs.rounding.quotient.Goals as goal

pub returns-then-up : goal.returns-then-up
unfolding quotient rounding_of
returns-then-up c = simp c.if-up.true

pub returns-else-up : goal.returns-else-up
unfolding quotient rounding_of
returns-else-up c = simp c.if-up.false
