-- `value_places::longest_term::term_of` meets its contract. Assumes nothing.
use borrow.Author.Tests.{eq-eqb, ne_eqb}
use Rattle.value_places.specs.Inner.LongestTerm.{term_of}
use Rattle.value_places.proofs.longest_term.term_of.Goals as goal

pub returns-then-place-eq0 : goal.returns-then-place-eq0
unfolding term_of
returns-then-place-eq0 c = simp (eq-eqb _ _ c.if-place-eq0.true)

pub returns-else-place-eq0 : goal.returns-else-place-eq0
unfolding term_of
returns-else-place-eq0 c = simp (ne_eqb _ _ c.if-place-eq0.false)
