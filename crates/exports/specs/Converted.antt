-- What the certificates' call from C promises: the promise of `to_cells`, as plain numbers (02:CR 5). Definitions only.
use Rattle.std.specs.Prelude.{ℕ, ◌≡◌, cond, List, eqb, length}
use Rattle.certificate_calendar.specs.declared.Date.{Date}
use Rattle.certificates.specs.Verdict.{certificates_verdict}
use Rattle.certificates.specs.Filled.{filled_cells}
use Rattle.exports.specs.CellNumbers.{numbers_of}

-- s is the list of certificates, before and after are the cells' list at the call and at the return; number and location are 0 for acceptance
pub record ConvertedForC (valuation : Date) (s before : List ℕ) (number location count : ℕ) (after : List ℕ) : Type 0 where
  pub number_is : number ≡ (certificates_verdict valuation s).number
  pub location-is : location ≡ (certificates_verdict valuation s).location
  pub count-is : count ≡ length (filled_cells valuation s)
  -- number and value of each cell by ascending number, past the last one 0; a refusal leaves the list
  pub list-is : after ≡ cond (eqb (certificates_verdict valuation s).number 0) (numbers_of (filled_cells valuation s)) before
