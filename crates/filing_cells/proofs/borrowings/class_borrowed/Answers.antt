-- `class_borrowed` meets its contract: the three balances stand one behind the other. Assumes nothing.
use native.Mathlib.Omega.{arith}
use mathlib.Core.Path.{ap, ◌∙◌}
use Rattle.form.specs.declared.borrowings.Borrowing.{Borrowing}
use Rattle.form.specs.Borrowings.{borrowing}
use Rattle.filing_cells.specs.Inner.Borrowed.{some_from}
use Rattle.filing_cells.proofs.BorrowingLaws.{class-from}
use Rattle.filing_cells.proofs.borrowings.class_borrowed.Goals as goal

pub borrowing_of-requires : goal.borrowing_of-requires
borrowing_of-requires c = (c.requires, omega arith)

pub some_from-requires : goal.some_from-requires
unfolding borrowing
some_from-requires c = rw c.borrowing_of.ensures (omega (arith, c.requires))

pub returns : goal.returns
returns c =
    let a = c.args in
    c.some_from.ensures
    ∙ ap (λ (b : Borrowing). some_from a.cells.now b.balance 1 3) c.borrowing_of.ensures
    ∙ class-from a.cells.now a.class
