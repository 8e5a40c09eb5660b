-- `cells` meets its contract. The loop's invariant: the cells before a number are listed. Assumes nothing.
use Rattle.certificate_cells.proofs.ListingLaws.{Listing}
use Rattle.certificate_cells.proofs.filled_cells.Totals.cells.Given as goal

abbrev pub invariant-loop-cell : goal.invariant-loop-cell
invariant-loop-cell l = Listing l.self l.cells l.count l.cell
