-- Closed cases of what a place of the book takes (02:CR 7), so that a wrong clause of a definition breaks a case: each limit and the number past it. Each is
-- computed. Assumes nothing.
use Prim.Native.Nat.{◌^◌}
use mathlib.Core.Path.{◌≡◌, refl}
use mathlib.Core.Bool.{true, false}
use mathlib.Core.List.{[], ◌∷◌}
use lib.ListN.{replicate}
use Rattle.lists.specs.Ranges.{within}
use Rattle.form.specs.Cells.{position, positions, position_at, within_row}
use Rattle.form.specs.PlaceOrder.{position_of, with_penalty}
use Rattle.book_limits.specs.PlaceLimits.{penalty_within, fits_place}

-- the last place, each end of a balance and of a coupon, the ends of the four rows, and the largest penalty of a place with and of a place without
taken : fits_place 35 1 0 37 0
    ∷ fits_place 0 999999999 15000 1 3600
    ∷ fits_place 1 1 0 3 0
    ∷ fits_place 12 1 0 4 0
    ∷ fits_place 15 1 0 12 0
    ∷ fits_place 24 1 0 13 3600
    ∷ fits_place 31 1 0 36 0
    ∷ fits_place 34 1 0 120 3600
    ∷ []
    ≡ replicate 8 true
unfolding fits_place penalty_within with_penalty position_of position_at positions position within_row within
taken = refl

-- one past each of them
refused : fits_place 36 1 0 37 0
    ∷ fits_place 0 0 0 1 0
    ∷ fits_place 0 1000000000 0 1 0
    ∷ fits_place 0 1 15001 1 0
    ∷ fits_place 0 1 0 0 0
    ∷ fits_place 1 1 0 4 0
    ∷ fits_place 12 1 0 3 0
    ∷ fits_place 15 1 0 13 0
    ∷ fits_place 24 1 0 12 0
    ∷ fits_place 31 1 0 37 0
    ∷ fits_place 34 1 0 36 0
    ∷ fits_place 35 1 0 121 0
    ∷ fits_place 0 1 0 1 3601
    ∷ fits_place 2 1 0 1 3601
    ∷ fits_place 1 1 0 1 1
    ∷ fits_place 3 1 0 1 1
    ∷ fits_place (2 ^ 64) 1 0 1 0
    ∷ []
    ≡ replicate 17 false
unfolding fits_place penalty_within with_penalty position_of position_at positions position within_row within
refused = refl
