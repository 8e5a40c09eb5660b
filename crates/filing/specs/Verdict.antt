-- The verdict on a filing (01:26-41; 02:CR 3, CR 8): its records, then 6, 18, 19 and 7 to 9, each by ascending cell number. 10 comes before any of them.
-- Definitions only.
use Rattle.std.specs.Prelude.{ℕ, ◌≡◌, List}
use Rattle.answers.specs.Verdict.{Verdict, accepted, first_refusal}
use Rattle.record_verdicts.specs.RecordVerdicts.{records_verdict}
use Rattle.filing_cells.specs.CellVerdicts.{cells_verdict}
use Rattle.filing_contents.specs.Contents.{Contents}
use Rattle.filing_decode.specs.Contents.{contents_of}
use Rattle.filing.specs.RequiredSheets.{sheet_verdict, libor_verdict}

-- the verdict on what the filing says: 19 and 7 to 9
abbrev pub contents_verdict : Contents → Verdict
contents_verdict k = cells_verdict k.cells

-- the records front to back; then 6; then 18; then 19 and 7 to 9
unfoldable pub filing_verdict : List ℕ → Verdict
filing_verdict s =
    first_refusal (records_verdict s) (first_refusal (sheet_verdict s) (first_refusal (libor_verdict s) (contents_verdict (contents_of s))))

-- the filing is accepted: no row of the table holds for it
abbrev pub Accepted : List ℕ → Type 0
Accepted s = filing_verdict s ≡ accepted
