-- The lines of cells one by one, and how long they are. Assumes nothing.
use Prim.Native.Nat.{ℕ, zero, suc, ◌+◌, ◌^◌, ◌≤◌, ◌<◌}
use native.Mathlib.Numerals.{add-one}
use native.Mathlib.Omega.{arith}
use mathlib.Core.Path.{◌≡◌}
use mathlib.Core.List.{List, [], ◌∷◌, ◌++◌}
use lib.ListN.{length, get_or, drop, drop_of_length-le}
use lib.Seq.{drop-cons}
use Rattle.lists.specs.Tables.{joined}
use Rattle.certificate_cells.specs.declared.filled_cells.CellValue.{CellValue}
use Rattle.text.specs.Lines.{rest_of_line}
use Rattle.text.proofs.LineLaws.{rest-length}
use Rattle.text_certificates.specs.CellLines.{cell_line, cell_lines}

-- a number with 20 digits at most, behind a space, and the line feed
pub rest_short : (n : ℕ) → n < 2 ^ 64 → length (rest_of_line (n ∷ [])) ≤ 22
rest_short n h = rest-length (n ∷ []) (each h)
  where
    each : n < 2 ^ 64 → (i : ℕ) → i < 1 → get_or (n ∷ []) i 0 < 2 ^ 64
    each h zero l = h
    each h (suc i) l = absurd (omega arith)

-- the lines of cells from cell i on
module _ (cells : List CellValue) (i : ℕ) where
  pub lines_next : (d : CellValue) → i < length cells → cell_lines (drop i cells) ≡ cell_line (get_or cells i d) ++ cell_lines (drop (i + 1) cells)
  unfolding cell_lines joined
  lines_next d h = rw (add-one i, drop-cons cells i d h)

  pub lines_end : length cells ≤ i → cell_lines (drop i cells) ≡ []
  unfolding cell_lines joined
  lines_end h = rw (drop_of_length-le cells h)
