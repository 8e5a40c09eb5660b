-- `write_rows` meets its contract. The loop's invariant: the rows of the borrowings so far are written. Assumes nothing.
use Prim.Native.Nat.{◌*◌}
use Rattle.lists.specs.Tables.{table, joined}
use Rattle.lists.proofs.RunLaws.{Overwritten}
use Rattle.form.specs.Counts.{place_number_count}
use Rattle.filing_contents.specs.Contents.{libor_in}
use Rattle.price_factors.specs.Inner.Factors.{sheet_yield}
use Rattle.borrowing_numbers.specs.Numbers.{borrowing_numbers}
use Rattle.borrowing_numbers.proofs.rows.write_rows.Given as goal

abbrev pub invariant-loop-i : goal.invariant-loop-i
invariant-loop-i l =
    Overwritten (joined (table l.i (borrowing_numbers l.cells (sheet_yield (libor_in l.sheets))))) (place_number_count * l.i) l.initial.list l.list
