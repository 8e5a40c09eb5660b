-- `doubled` meets its contract. Assumes nothing.
use native.Mathlib.Omega.{arith}
use Rattle.forward_rates.proofs.PowerLaws.{moderate-once}
use Rattle.forward_rates.proofs.FigureLaws.{half-limit, square-limit, first-limit, power-even, power-odd}
use Rattle.forward_rates.proofs.figures.doubled.Goals as goal

pub product-even-requires : goal.product-even-requires
product-even-requires c = let h = half-limit c.requires.0 c.requires.1 c.requires.2 in (h, h)

pub returns-then-n-eq0 : goal.returns-then-n-eq0
returns-then-n-eq0 c =
    rw c.product-even.ensures (power-even c.requires.0 c.requires.1 c.requires.2 c.if-n-eq0.true)

pub first-requires : goal.first-requires
first-requires c =
    moderate-once (omega arith) c.requires.1

pub product-requires : goal.product-requires
product-requires c = (
  rw c.product-even.ensures (square-limit c.requires.0 c.requires.1 c.requires.2),
  rw c.first.ensures (first-limit c.requires.0 c.requires.1 c.requires.2),
)

pub returns : goal.returns
returns c =
    rw (c.product.ensures, c.product-even.ensures, c.first.ensures)
    (power-odd c.requires.0 c.requires.1 c.requires.2 c.if-n-eq0.false)
