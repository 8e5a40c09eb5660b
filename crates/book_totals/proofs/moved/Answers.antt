-- `moved` meets its contract. Assumes nothing.
use Rattle.std.proofs.Common.{arith}
use Rattle.book_totals.specs.KeptTotals.{moved}
use Rattle.book_totals.proofs.moved.Goals as goal

pub returns : goal.returns
unfolding moved
returns c = omega (arith, c.saturating_add.ensures, c.saturating_sub.ensures)
