-- The cells that certificates fill (02:CR 5). Definitions only.
use Rattle.std.specs.Prelude.{ℕ, cond, List, [], eqb}
use Rattle.certificate_calendar.specs.declared.Date.{Date}
use Rattle.certificate_terms.specs.Terms.{certificate_count}
use Rattle.certificate_cells.specs.declared.filled_cells.CellValue.{CellValue}
use Rattle.certificate_cells.specs.Cells.{cells_of}
use Rattle.certificates.specs.Sums.{totals_of}
use Rattle.certificates.specs.Verdict.{certificates_verdict}

-- the cells of the certificates; a refusal gives none
unfoldable pub filled_cells : Date → List ℕ → List CellValue
filled_cells valuation s =
    cond (eqb (certificates_verdict valuation s).number 0) (cells_of (totals_of valuation s (certificate_count s))) []
