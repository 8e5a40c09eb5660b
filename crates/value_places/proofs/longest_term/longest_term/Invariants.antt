-- `value_places::longest_term::longest_term` meets its contract. Assumes nothing.
use mathlib.Core.Path.{◌≡◌}
use Rattle.value_places.specs.Inner.LongestTerm.{longest_to}
use Rattle.value_places.proofs.longest_term.longest_term.Given as goal

abbrev pub invariant-loop-i : goal.invariant-loop-i
invariant-loop-i l = l.longest ≡ longest_to l.places l.i
