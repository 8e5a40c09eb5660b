-- The row of yields that a kind of position is discounted on (02:CR 8, the paper's "sheet row used"). Definitions only.
use Rattle.std.specs.Prelude.{ℕ, List}
use Rattle.filing_contents.specs.declared.sheet_rows.PositionKind.{PositionKind}
use Rattle.filing_contents.specs.declared.sheet_rows.PositionKind.TheVariants.{Certificate, Borrowing}

-- of the CD yields and the LIBOR yields: the CD ones for certificates, the LIBOR ones for borrowings
abbrev pub sheet_row : PositionKind → List ℕ → List ℕ → List ℕ
sheet_row Certificate cd libor = cd
sheet_row Borrowing cd libor = libor
