-- A filing made of cells and two sheets, byte by byte (01:6-9): a record of kind 1 for each cell, then the yields (kind 2) and the retail rates (kind 3).
-- Definitions only.
use Rattle.std.specs.Prelude.{ℕ, zero, suc, ◌/◌, ◌%◌, List, [], ◌∷◌, ◌++◌, map, length}
use Rattle.lists.specs.Tables.{table_from, joined}
use Rattle.certificate_cells.specs.declared.filled_cells.CellValue.{CellValue}

-- n bytes of a number, the least first
unfoldable pub bytes : ℕ → ℕ → List ℕ
bytes zero x = []
bytes (suc n) x = x % 256 ∷ bytes n (x / 256)

-- a record: the length of its body, kind included, and the body
unfoldable pub framed : List ℕ → List ℕ
framed body = bytes 2 (length body) ++ body

-- records one after the other
unfoldable pub run : List (List ℕ) → List ℕ
run bodies = joined (map framed bodies)

-- kind 1: a cell and its value
unfoldable pub cell_body : CellValue → List ℕ
cell_body c = bytes 2 1 ++ (bytes 2 c.cell ++ bytes 8 c.value)

-- a sheet of a kind: n numbers, the first for 1
unfoldable pub sheet_body : ℕ → ℕ → (ℕ → ℕ) → List ℕ
sheet_body kind n number = bytes 2 kind ++ joined (table_from 1 n (λ (i : ℕ). bytes 2 (number i)))

unfoldable pub filed_bodies : List CellValue → (ℕ → ℕ) → (ℕ → ℕ) → List (List ℕ)
filed_bodies cells yields rates = map cell_body cells ++ (sheet_body 2 120 yields ∷ sheet_body 3 3 rates ∷ [])

-- the filing: the yields by month, the rates by column, hundredths of a percent a year
unfoldable pub filing_of : List CellValue → (ℕ → ℕ) → (ℕ → ℕ) → List ℕ
filing_of cells yields rates = run (filed_bodies cells yields rates)
