-- The cells of Schedule CMR for certificate deposits (01:13-22), and how far the cells of the form go. Definitions only.
use Rattle.std.specs.Prelude.{ℕ, suc, ◌+◌, ◌-◌, Bool, ◌&&◌, List, [], ◌∷◌, get_or, leb, eqb}
use Rattle.lists.specs.Tables.{those}
use Rattle.form.specs.declared.Position.{Position}

-- the listed cells (01:13-22; 02:CR 8) lie from the first to the last, which are so many numbers
abbrev pub first_cell : ℕ
first_cell = 601

abbrev pub last_cell : ℕ
last_cell = 715

abbrev pub cell_count : ℕ
cell_count = suc last_cell - first_cell

-- One of the nine balances is a `Position`: its row (remaining months, 1 to 4), its column (original maturity, 1 to 3), and the numbers of its
-- cells: balance (thousands of dollars), WAC (hundredths of a percent a year as filed) and WARM (months). This one from those five, in that order
unfoldable pub position : ℕ → ℕ → ℕ → ℕ → ℕ → Position
position r j b c m = record { row = r; column = j; balance = b; coupon = c; months = m }

-- the table of 01:15-20, by ascending balance cell, which is by ascending WARM cell too
unfoldable pub positions : List Position
unfolding position
positions =
    position 1 1 601 605 608
    ∷ position 1 2 602 606 609
    ∷ position 1 3 603 607 610
    ∷ position 2 1 615 619 622
    ∷ position 2 2 616 620 623
    ∷ position 2 3 617 621 624
    ∷ position 3 2 631 634 636
    ∷ position 3 3 632 635 637
    ∷ position 4 3 641 643 644
    ∷ []

-- the position at an index of the table, 0 to 8
unfoldable pub position_at : ℕ → Position
unfolding position
position_at i = get_or positions i (position 0 0 0 0 0)

-- a column's positions, row 1 first
unfoldable pub in_column : ℕ → List Position
in_column column = those (λ (p : Position). eqb p.column column) positions

-- the least and the most remaining months of a row, 1 to 4 (01:17-20)
abbrev pub least_months : ℕ → ℕ
least_months row = get_or (0 ∷ 1 ∷ 4 ∷ 13 ∷ 37 ∷ []) row 0

abbrev pub most_months : ℕ → ℕ
most_months row = get_or (0 ∷ 3 ∷ 12 ∷ 36 ∷ 120 ∷ []) row 0

-- m months lie within the row
unfoldable pub within_row : ℕ → ℕ → Bool
within_row row m = leb (least_months row) m && leb m (most_months row)

-- the cells of a column, 1 to 3 (01:22): brokered balance and balance subject to penalty in thousands of dollars, penalty in hundredths of a month
unfoldable pub brokered_cell : ℕ → ℕ
brokered_cell column = 649 + column

unfoldable pub penalty_balance_cell : ℕ → ℕ
penalty_balance_cell column = 652 + column

unfoldable pub penalty_months_cell : ℕ → ℕ
penalty_months_cell column = 655 + column

-- the first of the six balances of columns
abbrev pub first_column_cell : ℕ
first_column_cell = 650

-- the total of the nine balances (01:22), thousands of dollars
abbrev pub total_cell : ℕ
total_cell = 645

-- accepted with any value and not used (01:22)
unfoldable pub unused_cells : List ℕ
unused_cells = 604 ∷ 618 ∷ 633 ∷ 642 ∷ 659 ∷ 660 ∷ 661 ∷ []
