-- What the call promises (02:CR 5), for any valuation date and any list of numbers. Definitions only.
use Rattle.std.specs.Prelude.{◌≡◌, List, ℕ, Result, IfOk, length}
use Rattle.answers.specs.declared.Refusal.{Refusal}
use Rattle.answers.specs.Answers.{verdict_of}
use Rattle.certificate_calendar.specs.declared.Date.{Date}
use Rattle.certificate_cells.specs.declared.filled_cells.Cells.{Cells}
use Rattle.certificate_cells.specs.Cells.{cell_array, items_of}
use Rattle.certificates.specs.Verdict.{certificates_verdict}
use Rattle.certificates.specs.Filled.{filled_cells}

pub record Converted (valuation : Date) (s : List ℕ) (r : Result Cells Refusal) : Type 0 where
  -- acceptance, or the first refusal's number and location
  pub answer-is : verdict_of r ≡ certificates_verdict valuation s
  -- the cells that the certificates fill, by ascending number: how many, and each with its value; a refusal has none
  pub count-is : IfOk r (λ cells. cells.count ≡ length (filled_cells valuation s))
  pub cells_are : IfOk r (λ cells. items_of cells ≡ filled_cells valuation s)
  -- each place of the array: these cells, and no cell past the last
  pub array-is : IfOk r (λ cells. cells.cells ≡ cell_array (filled_cells valuation s))
