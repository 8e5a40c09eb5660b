-- `product_in` meets its contract. Assumes nothing.
use Rattle.borrowing_prices.proofs.TabledLaws.{factor-stands}
use Rattle.borrowing_prices.proofs.product_in.Goals as goal

pub returns : goal.returns
returns c = rw (← c.flow_of-flow.ensures.0, ← factor-stands _ _ _) c.quotient.ensures
