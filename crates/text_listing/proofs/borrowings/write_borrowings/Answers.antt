-- `write_borrowings` meets its contract. Assumes nothing.
use mathlib.Core.Path.{◌∙◌}
use native.Mathlib.Omega.{arith}
use Rattle.text_listing.specs.BorrowingListing.{borrowing_lines, borrowings_text}
use Rattle.text_listing.proofs.ListingLaws.{text-too-long, text-refused, borrowings-accepted}
use Rattle.text_listing.proofs.borrowings.write_borrowings.Goals as goal

pub returns-then-filing-gt-FILING_LIMIT : goal.returns-then-filing-gt-FILING_LIMIT
unfolding borrowings_text
returns-then-filing-gt-FILING_LIMIT c =
    record { printed = c.append_too_long.ensures ∙ rw c.new-text.ensures (text-too-long borrowing_lines c.args.filing.now (omega arith)) }

pub returns-in-Err : goal.returns-in-Err
unfolding borrowings_text
returns-in-Err c =
    let refusal = text-refused c.args.filing.now _ _ _ _ _ (omega arith) (omega arith) (omega arith) c.value.ensures.valued borrowing_lines _ c.in-Err.is in
    record { printed = c.append_refused.ensures.line ∙ rw c.new-text.ensures refusal }

pub returns : goal.returns
returns c =
    let lines = borrowings-accepted c.args.filing.now _ _ _ _ _ (omega arith) (omega arith) (omega arith) c.value.ensures.valued _ c.in_default.is in
    record { printed = c.append_scenarios.ensures.lines ∙ rw c.new-text.ensures lines }
