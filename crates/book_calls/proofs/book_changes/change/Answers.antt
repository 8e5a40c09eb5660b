-- `book_calls::book_changes::change` meets its contract: a place is cleared, set, or neither. Assumes nothing.
use borrow.Author.Tests.{eq-eqb, ne_eqb}
use mathlib.Core.Path.{refl, sym, ◌∙◌}
use Rattle.book_promise.specs.Changes.{neither_at, changed_place, fits_change}
use Rattle.book_promise.proofs.ChangeLaws.{change-refused}
use Rattle.book_calls.specs.Changing.{change_of}
use Rattle.book_calls.proofs.book_changes.change.Goals as goal

pub returns-then-clears : goal.returns-then-clears
unfolding change_of
returns-then-clears c = rw (sym c.clears.ensures ∙ c.if-clears.true) c.clear.ensures.changed

pub returns-then-action-eq0 : goal.returns-then-action-eq0
unfolding change_of
returns-then-action-eq0 c =
    rw (sym c.clears.ensures ∙ c.if-clears.false, eq-eqb _ 0 c.if-action-eq0.true) c.set.ensures.changed

pub returns : goal.returns
unfolding change_of fits_change changed_place
returns c =
    let a = c.args in
    rw (sym c.clears.ensures ∙ c.if-clears.false, ne_eqb _ 0 c.if-action-eq0.false)
    (change-refused a.book.now (neither_at a.place) refl _ refl)
