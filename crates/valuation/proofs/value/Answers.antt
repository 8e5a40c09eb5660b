-- `valuation::value` keeps its promise: each way out is one of the call's laws. Assumes nothing.
use Prim.Native.Nat.{◌≤◌}
use native.Mathlib.Omega.{arith}
use mathlib.Core.Path.{ap, ◌∙◌}
use lib.ListN.{length}
use Rattle.form.specs.Counts.{number_count}
use Rattle.std.proofs.lemmas.Result.{err_from_is_err_and}
use Rattle.filing_cells.specs.Inner.Sums.{column_sums}
use Rattle.filing.proofs.ReadingLaws.{reading-valid, reading-cells}
use Rattle.borrowing_numbers.specs.Numbers.{borrowing_number_count}
use Rattle.borrowing_numbers.proofs.PromiseLaws.{borrowing-limits, libor-within}
use Rattle.valuation.proofs.CallLaws.{short-list, short-borrowings, refused-filing, valued-filing}
use Rattle.valuation.proofs.value.Goals as goal

pub returns-then-numbers-lt-NUMBERS : goal.returns-then-numbers-lt-NUMBERS
returns-then-numbers-lt-NUMBERS c = record { valued = short-list _ _ _ c.if-numbers-lt-NUMBERS.true }

pub returns-then-borrowings-lt-BORROWING_NUMBERS : goal.returns-then-borrowings-lt-BORROWING_NUMBERS
returns-then-borrowings-lt-BORROWING_NUMBERS c = record { valued = short-borrowings _ _ _ (omega arith) c.if-borrowings-lt-BORROWING_NUMBERS.true }

pub returns-in_err-reading : goal.returns-in_err-reading
returns-in_err-reading c =
    let p = err_from_is_err_and c.from_residual.result c.from_residual.ensures.1 in
    let long : number_count ≤ length c.args.numbers.now = omega arith in
    let room : borrowing_number_count ≤ length c.args.borrowings.now = omega arith in
    record { valued = rw (p.1, p.2) (refused-filing _ _ _ long room _ c.in_err-reading.ensures.answered) }

-- an accepted filing's contents are valid, the sums are those of its cells, and the list is long enough
pub write_numbers-requires : goal.write_numbers-requires
write_numbers-requires c =
    let long : number_count ≤ length c.args.numbers.now = omega arith in
    let read = c.in_ok-reading.ensures in (
      reading-valid _ _ _ read.answered read.said,
      read.summed ∙ ap column_sums (reading-cells _ _ _ read.answered read.said),
      long,
    )

pub write_borrowings-requires : goal.write_borrowings-requires
write_borrowings-requires c =
    let room : borrowing_number_count ≤ length c.args.borrowings.now = omega arith in
    let valid = reading-valid _ _ _ c.in_ok-reading.ensures.answered c.in_ok-reading.ensures.said in
    (borrowing-limits _ valid.of-borrowings, libor-within _ valid, room)

pub returns : goal.returns
returns c =
    let long : number_count ≤ length c.args.numbers.now = omega arith in
    let room : borrowing_number_count ≤ length c.args.borrowings.now = omega arith in
    record {
      valued = valued-filing _ _ _ long room c.in_ok-reading.ensures.answered _ _ c.in_ok-reading.ensures.said _ _ c.write_numbers.ensures c.write_borrowings.ensures;
    }
