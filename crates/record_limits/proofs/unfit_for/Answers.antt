-- `unfit_for` meets its contract: each test of the code is the definition's.
-- Assumes nothing.
use borrow.Author.Tests.{eq-eqb, ne_eqb}
use Rattle.record_limits.specs.Bodies.{unfit_for}
use Rattle.record_limits.proofs.unfit_for.Goals as goal

pub returns-then-number-eq0 : goal.returns-then-number-eq0
unfolding unfit_for
returns-then-number-eq0 c = simp (eq-eqb _ 0 c.if-number-eq0.true)

pub returns-then-state-eq0 : goal.returns-then-state-eq0
unfolding unfit_for
returns-then-state-eq0 c = simp (ne_eqb _ 0 c.if-number-eq0.false, eq-eqb _ 0 c.if-state-eq0.true)

pub returns-then-state-eq1 : goal.returns-then-state-eq1
unfolding unfit_for
returns-then-state-eq1 c = simp (ne_eqb _ 0 c.if-number-eq0.false, ne_eqb _ 0 c.if-state-eq0.false, eq-eqb _ 1 c.if-state-eq1.true)

pub returns : goal.returns
unfolding unfit_for
returns c = simp (ne_eqb _ 0 c.if-number-eq0.false, ne_eqb _ 0 c.if-state-eq0.false, ne_eqb _ 1 c.if-state-eq1.false)
