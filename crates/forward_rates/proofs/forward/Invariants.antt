-- `forward` meets its contract: the search keeps the true rate's growth between its ends. Assumes nothing.
use Prim.Native.Nat.{◌-◌}
use Rattle.forward_rates.proofs.SearchLaws.{Search}
use Rattle.forward_rates.proofs.forward.Given as goal

abbrev pub invariant-loop-lower : goal.invariant-loop-lower
invariant-loop-lower l = Search l.start l.end l.term l.initial.lower l.initial.upper l.lower l.upper

abbrev pub decreases-loop-lower : goal.decreases-loop-lower
decreases-loop-lower l = l.upper - l.lower
