-- What the verdict of acceptance says: no record is faulty, no sheet is missing, and the cells keep 19 and 7 to 9.
-- Assumes nothing.
use Prim.Native.Nat.{ℕ}
use mathlib.Core.Path.{◌≡◌, ap}
use mathlib.Core.Bool.{false}
use mathlib.Core.List.{List}
use lib.ListN.{length}
use Rattle.answers.specs.Verdict.{Verdict, accepted}
use Rattle.answers.proofs.VerdictLaws.{first-none, condition-fails}
use Rattle.record_verdicts.specs.RecordVerdicts.{first_faulty, records_verdict}
use Rattle.record_checks.proofs.ProgressLaws.{records-passed}
use Rattle.filing_decode.specs.Contents.{contents_of}
use Rattle.filing.specs.RequiredSheets.{sheet_missing, sheet_verdict, libor_missing, libor_verdict}
use Rattle.filing.specs.Verdict.{contents_verdict, filing_verdict, Accepted}

-- the conditions on an accepted filing, in their order
pub record Passed (s : List ℕ) : Type 0 where
  pub none-faulty : first_faulty s ≡ length s
  pub none-missing : sheet_missing s ≡ false
  pub libor-there : libor_missing s ≡ false
  pub cells : (contents_verdict (contents_of s)).number ≡ 0

-- the first refusal of four is none, so that none of the four refuses
pub accepted-passed : (s : List ℕ) → Accepted s → Passed s
unfolding filing_verdict sheet_verdict libor_verdict accepted
accepted-passed s a =
    let records = first-none (records_verdict s) _ (ap (λ (v : Verdict). v.number) a) in
    let sheets = first-none (sheet_verdict s) _ records.1 in
    let libor = first-none (libor_verdict s) _ sheets.1 in
    record {
      none-faulty = records-passed s records.0;
      none-missing = condition-fails (sheet_missing s) 5 (length s) sheets.0;
      libor-there = condition-fails (libor_missing s) 17 (length s) libor.0;
      cells = libor.1;
    }
