-- `some_borrowed` meets its contract. Assumes nothing.
use Prim.Native.Nat.{ℕ}
use mathlib.Core.Path.{refl, ◌∙◌}
use borrow.Author.Tests.{tests}
use Rattle.std.proofs.Common.{rules}
use Rattle.std.proofs.lemmas.Iterator.{YieldsList-from_range}
use Rattle.std.proofs.lemmas.Iterator.Search.{any_from_yields_List}
use Rattle.lists.proofs.ChainLaws.{any-in_range}
use Rattle.form.specs.Borrowings.{borrowing_at}
use Rattle.filing_cells.specs.BorrowingConditions.{some_borrowed, filled}
use Rattle.filing_cells.proofs.borrowings.some_borrowed.Goals as goal

pub returns : goal.returns
unfolding some_borrowed filled
returns c =
    let test = λ (i : ℕ). filled c.args.cells.now (borrowing_at i).balance in
    any_from_yields_List test _ _ _ c.any.ensures.ran (YieldsList-from_range 0 24 24 refl refl) (λ i b q k. search (rules, tests))
    ∙ any-in_range test 24
