-- `exports::book::spritapricot_book` keeps the promise of `book_of`. Assumes nothing.
use Rattle.exports.proofs.ChangedLaws.{book-refused, book-accepted}
use Rattle.exports.proofs.book.spritapricot_book.Goals as goal

pub returns-in-Ok : goal.returns-in-Ok
returns-in-Ok c = record { changed = book-accepted _ _ _ c.in-Ok.done _ c.in-Ok.ensures.changed c.shown.ensures }

pub returns-in-Err : goal.returns-in-Err
returns-in-Err c = record { changed = book-refused _ _ _ c.in-Err.not_made _ _ c.in-Err.ensures.changed c.refused.ensures.0 c.refused.ensures.1 }
