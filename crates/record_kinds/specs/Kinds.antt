-- The kinds of record (01:7-9; 02:CR 1, CR 3, CR 4, CR 6, CR 8): what a sheet of each kind holds, and the length that a record is to have. Definitions only.
use Rattle.std.specs.Prelude.{ℕ, ◌+◌, ◌*◌, Bool, cond, ◌||◌, List, [], ◌∷◌, get_or, eqb}
use Rattle.form.specs.Limits.{rate_limit, sheet_months, rate_count, yields_start, rates_start, libor_start}
use Rattle.record_kinds.specs.declared.SheetKind.{SheetKind}
use Rattle.record_fields.specs.Records.{record_kind, tier_count}

-- the kinds are below this number
abbrev pub kind_count : ℕ
kind_count = 9

-- a sheet of so many numbers, 2 bytes each, up to a limit, which stand from `start` on in the list of the numbers of all sheets
unfoldable pub sheet_of : ℕ → ℕ → ℕ → SheetKind
sheet_of numbers limit start = record { numbers = numbers; limit = limit; start = start }

-- The sheets by kind (01:8-9, 01:24; 02:CR 3, CR 8): 2, the CD yields of months 1 to 120; 3, the flat retail rates of columns 1 to 3; 5, the retail rates of
-- months 1 to 120, column by column, where a flat one stands in each month of its column; 8, the LIBOR yields of months 1 to 120. A kind that is no sheet
-- holds no number
unfoldable pub sheet_kinds : List SheetKind
sheet_kinds =
    sheet_of 0 0 0
    ∷ sheet_of 0 0 0
    ∷ sheet_of sheet_months rate_limit yields_start
    ∷ sheet_of 3 rate_limit rates_start
    ∷ sheet_of 0 0 0
    ∷ sheet_of rate_count rate_limit rates_start
    ∷ sheet_of 0 0 0
    ∷ sheet_of 0 0 0
    ∷ sheet_of sheet_months rate_limit libor_start
    ∷ []

unfoldable pub sheet_kind : ℕ → SheetKind
sheet_kind kind = get_or sheet_kinds kind (sheet_of 0 0 0)

-- the length of a sheet, bytes: its kind and its numbers; 0, which no complete record has, where the kind is no sheet
unfoldable pub sheet_length : ℕ → ℕ
sheet_length numbers = cond (eqb numbers 0) 0 (2 + 2 * numbers)

-- the kinds that give a cell its value: any cell (01:7), and a coupon in thousandths (02:CR 4)
abbrev pub cell_kind : ℕ
cell_kind = 1

abbrev pub fine_coupon_kind : ℕ
fine_coupon_kind = 6

unfoldable pub gives_cell : ℕ → Bool
gives_cell kind = eqb kind cell_kind || eqb kind fine_coupon_kind

-- the kind of the amendments (02:CR 6)
abbrev pub amendment_kind : ℕ
amendment_kind = 7

-- a kind whose body begins with a cell
unfoldable pub names_cell : ℕ → Bool
names_cell kind = gives_cell kind || eqb kind amendment_kind

-- the kind of the CD yields (01:8)
abbrev pub yields_kind : ℕ
yields_kind = 2

-- the kinds of the retail rates, flat (01:9) and by month (02:CR 3)
abbrev pub flat_rates_kind : ℕ
flat_rates_kind = 3

abbrev pub rate_path_kind : ℕ
rate_path_kind = 5

-- the kind of the LIBOR yields (02:CR 8)
abbrev pub libor_kind : ℕ
libor_kind = 8

-- the kind of the tiers (02:CR 1)
abbrev pub tiers_kind : ℕ
tiers_kind = 4

-- the length that a record is to have, by its kind: the tiers' goes by their count
unfoldable pub due_length : List ℕ → ℕ → ℕ
due_length s at =
    cond (gives_cell (record_kind s at)) 12
    (cond (eqb (record_kind s at) amendment_kind) 16
    (cond (eqb (record_kind s at) tiers_kind) (4 + 4 * tier_count s at)
    (sheet_length (sheet_kind (record_kind s at)).numbers)))
