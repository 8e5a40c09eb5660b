-- `longest_term` meets its contract. The loop's invariant: the longest of the borrowings so far. Assumes nothing.
use native.Mathlib.Numerals.{add-one}
use mathlib.Core.Path.{refl}
use Rattle.borrowing_numbers.specs.Inner.Rows.{longest_to}
use Rattle.borrowing_numbers.proofs.rows.longest_term.Goals as goal

pub loop-i-init : goal.loop-i-init
unfolding longest_to
loop-i-init c = refl

pub loop-i-preserved : goal.loop-i-preserved
unfolding longest_to
loop-i-preserved c = rw (add-one, c.max-longest.ensures, c.term_at.ensures, c.loop-i.invariant)
