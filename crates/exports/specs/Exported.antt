-- What the call from C promises: the valuing call's promise, with the verdict's number and location as plain numbers (01:26-41; 02:CR 8). Definitions only.
use Rattle.std.specs.Prelude.{ℕ, ◌≡◌, List}
use Rattle.filing_decode.specs.Contents.{contents_of}
use Rattle.borrowing_numbers.specs.Borrowed.{libor_rate}
use Rattle.borrowing_numbers.specs.Promise.{EnclosedBorrowings}
use Rattle.valuation.specs.Promise.{verdict_on, list_after, borrowings_after, Enclosed}

-- s is the filing's bytes, list and borrowings are what is lent, and then what stands there at the return; number and location are 0 for acceptance
pub record ValuedForC (s list borrowings : List ℕ) (number location : ℕ) (list-after borrowings-after : List ℕ) : Type 0 where
  pub number_is : number ≡ (verdict_on s list borrowings).number
  pub location-is : location ≡ (verdict_on s list borrowings).location
  pub list-is : list-after ≡ list_after s list borrowings
  pub borrowings-are : borrowings-after ≡ borrowings_after s list borrowings
  pub enclosed : number ≡ 0 → Enclosed s list-after
  pub borrowings-enclosed : number ≡ 0 → EnclosedBorrowings (contents_of s).cells (libor_rate (contents_of s)) borrowings-after
