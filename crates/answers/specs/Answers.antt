-- The refusals of the code, and its answers as verdicts of the paper's table (01:28-39; 02:CR 1, CR 3, CR 5, CR 6, CR 7, CR 8, CR 12): each case's number and location. Definitions only.
use Rattle.std.specs.Prelude.{ℕ, Result, Ok, Err}
use Rattle.answers.specs.declared.Refusal.{Refusal}
use Rattle.answers.specs.declared.Refusal.TheVariants.{RecordIncomplete, RecordMisshapen, CellUnlisted, Repeated, PathBesideFlat, AmendmentRepeated, OverLimit, TiersUnsound, SheetMissing, LiborMissing, CouponOutsideClass, MonthsOutsideRow, AboveColumnSum, TotalDiffers, ListTooShort, NoSuchDay, NotOutstanding, TooManyMonths, OutsidePlaceLimits, LineFaulty}
use Rattle.answers.specs.Verdict.{Verdict, accepted, refused}

-- the number of a refusal
abbrev pub number_of : Refusal → ℕ
number_of (RecordIncomplete offset) = 1
number_of (RecordMisshapen offset) = 2
number_of (CellUnlisted offset) = 3
number_of (Repeated offset) = 4
number_of (PathBesideFlat offset) = 12
number_of (AmendmentRepeated offset) = 16
number_of (OverLimit offset) = 5
number_of (TiersUnsound offset) = 11
number_of (SheetMissing size) = 6
number_of (LiborMissing size) = 18
number_of (CouponOutsideClass cell) = 19
number_of (MonthsOutsideRow cell) = 7
number_of (AboveColumnSum cell) = 8
number_of (TotalDiffers cell) = 9
number_of (ListTooShort size) = 10
number_of (NoSuchDay certificate) = 13
number_of (NotOutstanding certificate) = 14
number_of (TooManyMonths certificate) = 15
number_of (OutsidePlaceLimits place) = 17
number_of (LineFaulty line) = 21

-- the location of a refusal
abbrev pub location_of : Refusal → ℕ
location_of (RecordIncomplete offset) = offset
location_of (RecordMisshapen offset) = offset
location_of (CellUnlisted offset) = offset
location_of (Repeated offset) = offset
location_of (PathBesideFlat offset) = offset
location_of (AmendmentRepeated offset) = offset
location_of (OverLimit offset) = offset
location_of (TiersUnsound offset) = offset
location_of (SheetMissing size) = size
location_of (LiborMissing size) = size
location_of (CouponOutsideClass cell) = cell
location_of (MonthsOutsideRow cell) = cell
location_of (AboveColumnSum cell) = cell
location_of (TotalDiffers cell) = cell
location_of (ListTooShort size) = size
location_of (NoSuchDay certificate) = certificate
location_of (NotOutstanding certificate) = certificate
location_of (TooManyMonths certificate) = certificate
location_of (OutsidePlaceLimits place) = place
location_of (LineFaulty line) = line

-- the verdict that an answer stands for: acceptance, whatever it comes with, or the refusal
abbrev pub verdict_of : {A : Type 0} → Result A Refusal → Verdict
verdict_of (Ok x) = accepted
verdict_of (Err r) = refused (number_of r) (location_of r)
