-- `counting_of` meets its contract.
-- Assumes nothing.
use borrow.Author.Tests.{lt-ltb, le-ltb}
use Rattle.record_offsets.proofs.counting_of.Goals as goal

pub returns-then-high-own : goal.returns-then-high-own
returns-then-high-own c = simp (lt-ltb c.args.high c.args.own c.if-high-own.true)

pub returns-else-high-own : goal.returns-else-high-own
returns-else-high-own c = simp (le-ltb c.args.high c.args.own c.if-high-own.false)
