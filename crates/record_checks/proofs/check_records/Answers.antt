-- `check_records` meets its contract: a repeated amendment before the end of the scan, acceptance, or the verdict on the record at which it ended.
-- Assumes nothing.
use Prim.Native.Nat.{ℕ, ◌≤◌, ◌<◌}
use native.Mathlib.Nat.{le_antisymm}
use native.Mathlib.Omega.{arith}
use lib.ListN.{length}
use mathlib.Core.Path.{◌≡◌, sym, ap, ◌∙◌}
use mathlib.Core.List.{List}
use Rattle.answers.specs.Verdict.{refused}
use Rattle.record_offsets.specs.Inner.Notes.{Noted, block_count, noted_before}
use Rattle.record_verdicts.specs.RecordVerdicts.{record_verdict}
use Rattle.record_verdicts.specs.Inner.PlainVerdicts.{first_plain}
use Rattle.record_checks.specs.Inner.Repetitions.{repetitions_below}
use Rattle.record_checks.proofs.VerdictLaws.{found, plain-le, faulty-first, again-verdict, here-first, none-verdict, here-verdict, refused-end}
use Rattle.record_checks.proofs.check_records.Goals as goal

pub first_repetition-first-requires : goal.first_repetition-first-requires
first_repetition-first-requires c =
    let scanned = c.scan-end.ensures in
    (rw scanned.1 (plain-le _), ap (λ (n : Noted). n.falling) (scanned.0 ∙ ap (noted_before _) (sym scanned.1)))

-- a repetition stands before the record at which the scan ended, and every record before it passes the other tests: it is the first faulty
-- one, by 16
pub returns-then-first-end : goal.returns-then-first-end
returns-then-first-end c =
    let s : List ℕ = c.args.s.now in
    let end_is : c.scan-end.result ≡ first_plain s = c.scan-end.ensures.1 in
    let first-is : c.first_repetition-first.result ≡ found s = c.first_repetition-first.ensures ∙ ap (repetitions_below s block_count) end_is in
    let l : found s < first_plain s = omega (arith, c.if-first-end.true, first-is, end_is) in
    record {
      verdict = ap (refused 16) first-is ∙ sym (again-verdict s l);
      noted = c.scan-end.ensures.0;
      end = first-is ∙ sym (faulty-first s);
    }

-- the scan went to the end and no amendment is repeated: no record is faulty
pub returns-then-s-end : goal.returns-then-s-end
returns-then-s-end c =
    let s : List ℕ = c.args.s.now in
    let end_is : c.scan-end.result ≡ first_plain s = c.scan-end.ensures.1 in
    let first-is : c.first_repetition-first.result ≡ found s = c.first_repetition-first.ensures ∙ ap (repetitions_below s block_count) end_is in
    let none : first_plain s ≤ found s = omega (arith, first-is, end_is) in
    let past : length s ≤ first_plain s = omega (arith, c.if-s-end.true, end_is) in
    record {
      verdict = sym (none-verdict s none past);
      noted = c.scan-end.ensures.0;
      end = le_antisymm past (plain-le s) ∙ sym (here-first s none);
    }

pub check_fully-requires : goal.check_fully-requires
check_fully-requires c =
    let noted = c.scan-end.ensures.0 ∙ ap (noted_before _) (sym c.scan-end.ensures.1) in
    (c.if-s-end.false, ap (λ (n : Noted). n.sheets) noted, ap (λ (n : Noted). n.cells) noted)

-- no amendment is repeated before the record at which the scan ended: that is the first faulty one, and all tests together say its verdict
pub returns : goal.returns
returns c =
    let s : List ℕ = c.args.s.now in
    let end_is : c.scan-end.result ≡ first_plain s = c.scan-end.ensures.1 in
    let first-is : c.first_repetition-first.result ≡ found s = c.first_repetition-first.ensures ∙ ap (repetitions_below s block_count) end_is in
    let none : first_plain s ≤ found s = omega (arith, first-is, end_is) in
    let within : first_plain s < length s = omega (arith, c.if-s-end.false, end_is) in
    let own = c.check_fully.ensures ∙ ap (record_verdict s) end_is in
    record {
      verdict = own ∙ sym (here-verdict s none within);
      noted = c.scan-end.ensures.0;
      end = refused-end s none within _ own;
    }
