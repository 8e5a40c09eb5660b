-- `book_calls::book_changes::book_of` meets its contract. Assumes nothing.
use Rattle.std.proofs.lemmas.Result.{err_from_is_err_and}
use Rattle.book_calls.proofs.ChangingLaws.{opening-refused, opening-changed, opening-stopped}
use Rattle.book_calls.proofs.book_changes.book_of.Goals as goal

pub returns-in_err-book : goal.returns-in_err-book
returns-in_err-book c =
    let p = err_from_is_err_and c.from_residual.result c.from_residual.ensures.1 in
    record { changed = rw (p.1, p.2) (opening-refused _ _ _ c.in_err-book.ensures.opened) }

pub returns-in_err-made : goal.returns-in_err-made
returns-in_err-made c =
    let p = err_from_is_err_and c.from_residual-in_err-made.result c.from_residual-in_err-made.ensures.1 in
    record { changed = rw (p.1, p.2) (opening-stopped _ _ _ c.in_ok-book.ensures.opened _ _ c.in_err-made.ensures) }

pub returns : goal.returns
returns c = record { changed = opening-changed _ _ _ c.in_ok-book.ensures.opened _ _ c.in_ok-made.ensures }
