-- `values_of` meets its contract: the scenarios passed are written. Assumes nothing.
use Prim.Native.Nat.{◌*◌}
use lib.ListN.{replicate}
use Rattle.lists.specs.Tables.{table, joined}
use Rattle.lists.proofs.RunLaws.{Overwritten}
use Rattle.borrowing_prices.specs.Inner.Tabled.{bounds_with}
use Rattle.borrowing_prices.proofs.values_of.Given as goal

abbrev pub invariant-loop-scenario : goal.invariant-loop-scenario
invariant-loop-scenario l =
    Overwritten (joined (table l.scenario (bounds_with l.balance l.interest.lower l.interest.upper l.months l.factors.lower l.factors.upper))) (2 * l.scenario) (replicate 14 0) l.values
