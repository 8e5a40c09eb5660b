-- The thirty-six places in their order (01:45): nine positions ascending, four places each; which of them a total sums (01:61). Definitions only.
use Rattle.std.specs.Prelude.{ℕ, ◌/◌, ◌%◌, Bool, not, leb, eqb}
use Rattle.form.specs.declared.Position.{Position}
use Rattle.form.specs.Cells.{position_at}

abbrev pub sub_balance_count : ℕ
sub_balance_count = 36

-- the position of a place, 0 to 35
unfoldable pub position_of : ℕ → Position
position_of place = position_at (place / 4)

-- the places of each four: retail with and without penalty, then brokered with and without (01:45)
unfoldable pub is_brokered : ℕ → Bool
is_brokered place = leb 2 (place % 4)

unfoldable pub with_penalty : ℕ → Bool
with_penalty place = eqb (place % 2) 0

-- the short totals sum rows 1 and 2
unfoldable pub is_short : ℕ → Bool
is_short place = leb (position_of place).row 2

-- the long totals sum rows 3 and 4
unfoldable pub is_long : ℕ → Bool
is_long place = not (is_short place)
