-- `open_book` meets its contract. Assumes nothing.
use native.Mathlib.Omega.{arith}
use Rattle.text_book.proofs.OpenLaws.{opened-long, opened-refused, opened-taken}
use Rattle.text_book.proofs.open_book.Goals as goal

pub returns-then-filing-gt-FILING_LIMIT : goal.returns-then-filing-gt-FILING_LIMIT
returns-then-filing-gt-FILING_LIMIT c =
    record { opened = opened-long _ _ (omega arith) (rw c.clear.ensures at c.append_too_long.ensures) }

pub returns-in-Ok : goal.returns-in-Ok
returns-in-Ok c =
    record { opened = opened-taken _ (omega arith) c.in-Ok.book _ c.in-Ok.ensures.opened (rw c.clear.ensures at c.append_opened.ensures) }

pub returns-in-Err : goal.returns-in-Err
returns-in-Err c =
    record { opened = opened-refused _ (omega arith) c.in-Err.refusal _ c.in-Err.ensures.opened (rw c.clear.ensures at c.append_refused.ensures.line) }
