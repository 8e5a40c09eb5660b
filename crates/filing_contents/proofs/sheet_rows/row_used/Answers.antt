-- `row_used` meets its contract: the parts that are handed on are those where the yields of each sheet stand. Assumes nothing.
use native.Mathlib.Omega.{arith}
use Prim.Native.Nat.{ℕ}
use mathlib.Core.List.{List}
use mathlib.Core.Path.{◌≡◌, ap, ◌∙◌}
use lib.ListN.{length}
use Rattle.form.specs.Limits.{sheet_months}
use Rattle.filing_contents.specs.declared.sheet_rows.PositionKind.{PositionKind}
use Rattle.filing_contents.specs.declared.sheet_rows.PositionKind.TheVariants.{Certificate, Borrowing}
use Rattle.filing_contents.specs.SheetRows.{sheet_row}
use Rattle.filing_contents.specs.Contents.{yields_in, libor_in}
use Rattle.filing_contents.proofs.sheet_rows.row_used.Goals as goal

-- both rows are as long as a sheet
row-length : (kind : PositionKind) (cd libor : List ℕ) → length cd ≡ sheet_months → length libor ≡ sheet_months → length (sheet_row kind cd libor) ≡ sheet_months
row-length Certificate cd libor a b = a
row-length Borrowing cd libor a b = b

pub returns : goal.returns
unfolding yields_in libor_in
returns c =
    (c.sheet_row.ensures, ap length c.sheet_row.ensures ∙ row-length c.args.kind _ _ (omega arith) (omega arith))
