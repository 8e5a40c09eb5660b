-- `price_multipliers::carried_of` meets its contract. Assumes nothing.
use borrow.Author.Tests.{eq-eqb, ne_eqb}
use Rattle.price_multipliers.specs.Multipliers.{carried_of}
use Rattle.price_multipliers.proofs.carried_of.Goals as goal

pub returns-then-left-eq0 : goal.returns-then-left-eq0
unfolding carried_of
returns-then-left-eq0 c = rw (eq-eqb _ 0 c.if-left-eq0.true)

pub returns-else-left-eq0 : goal.returns-else-left-eq0
unfolding carried_of
returns-else-left-eq0 c = rw (ne_eqb _ 0 c.if-left-eq0.false)
