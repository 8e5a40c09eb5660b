-- `withdrawal_search::reached_level` meets its contract: no edge before the level is reached. Assumes nothing.
use Rattle.withdrawal.specs.Inner.Levels.{Unreached}
use Rattle.withdrawal.specs.Inner.Incentives.{gain_of}
use Rattle.withdrawal_search.proofs.reached_level.Given as goal

abbrev pub invariant-loop-level : goal.invariant-loop-level
invariant-loop-level l = Unreached l.edges (gain_of l.incentive) l.incentive.cost l.level
