-- `within` meets its contract. Assumes nothing.
use borrow.Author.Tests.{lt-leb, le-leb}
use Rattle.lists.specs.Ranges.{within}
use Rattle.form.proofs.tables.within.Goals as goal

pub returns-then-x-least : goal.returns-then-x-least
unfolding within
returns-then-x-least c = simp (lt-leb _ _ c.if-x-least.true)

pub returns : goal.returns
unfolding within
returns c = simp (le-leb _ _ c.if-x-least.false)
