-- `term_borrowed` meets its contract: the eight balances stand four apart. Assumes nothing.
use native.Mathlib.Omega.{arith}
use mathlib.Core.Path.{ap, ◌∙◌}
use Rattle.form.specs.declared.borrowings.Borrowing.{Borrowing}
use Rattle.form.specs.Borrowings.{borrowing}
use Rattle.filing_cells.specs.Inner.Borrowed.{some_from}
use Rattle.filing_cells.proofs.BorrowingLaws.{term-from}
use Rattle.filing_cells.proofs.borrowings.term_borrowed.Goals as goal

pub borrowing_of-requires : goal.borrowing_of-requires
borrowing_of-requires c = (omega arith, c.requires)

pub some_from-requires : goal.some_from-requires
unfolding borrowing
some_from-requires c = rw c.borrowing_of.ensures (omega (arith, c.requires))

pub returns : goal.returns
returns c =
    let a = c.args in
    c.some_from.ensures
    ∙ ap (λ (b : Borrowing). some_from a.cells.now b.balance 4 8) c.borrowing_of.ensures
    ∙ term-from a.cells.now a.term
