-- `open` meets its contract. Assumes nothing.
use mathlib.Core.Path.{refl}
use Rattle.std.proofs.lemmas.Result.{err_from_is_err_and}
use Rattle.filing.proofs.ReadingLaws.{reading-says}
use Rattle.book_promise.proofs.OpeningLaws.{opened-yields, opened, opening-refused}
use Rattle.book_calls.proofs.open.Goals as goal

pub returns-in_err-reading : goal.returns-in_err-reading
returns-in_err-reading c =
    let p = err_from_is_err_and c.from_residual.result c.from_residual.ensures.1 in
    record { opened = rw (p.1, p.2) (opening-refused _ _ c.in_err-reading.ensures.answered) }

pub book_under-requires : goal.book_under-requires
book_under-requires c = opened-yields _ _ _ c.in_ok-reading.ensures.answered c.in_ok-reading.ensures.said

pub returns : goal.returns
returns c =
    let read = c.in_ok-reading.ensures in
    record { opened = opened _ _ read.answered (reading-says _ _ _ read.answered read.said) refl refl c.book_under.ensures }
