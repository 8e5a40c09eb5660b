-- `cell_numbers` meets its contract. The loop's invariant: the cells passed are written. Assumes nothing.
use Prim.Native.Nat.{◌*◌}
use lib.ListN.{replicate}
use Rattle.lists.specs.Tables.{table, joined}
use Rattle.lists.proofs.RunLaws.{Overwritten}
use Rattle.exports.specs.CellNumbers.{pair_at}
use Rattle.exports.proofs.plain_numbers.cell_numbers.Given as goal

abbrev pub invariant-loop-i : goal.invariant-loop-i
invariant-loop-i l = Overwritten (joined (table l.i (pair_at l.cells))) (2 * l.i) (replicate 56 0) l.numbers
