-- `put_place` meets its contract. Assumes nothing.
use Rattle.book_state.specs.BookPlaces.{with_place}
use Rattle.book_state.proofs.put_place.Goals as goal

pub returns : goal.returns
unfolding with_place
returns c = rw (c.moved-book.ensures, c.totals_after-totals.ensures)
