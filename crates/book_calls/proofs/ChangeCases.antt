-- Closed cases of the changes that a list means, so that a wrong clause of a definition breaks a case. Each is computed. Assumes nothing.
use mathlib.Core.Path.{◌≡◌, refl}
use mathlib.Core.List.{[], ◌∷◌, ◌++◌, map}
use Rattle.lists.specs.Ranges.{first_from}
use Rattle.lists.specs.Tables.{table_from}
use Rattle.form.specs.Cells.{positions, position_at, position, within_row}
use Rattle.form.specs.PlaceOrder.{position_of, with_penalty}
use Rattle.answers.specs.Verdict.{accepted, refused, refused_if, first_refusal, first_of}
use Rattle.book_limits.specs.PlaceLimits.{penalty_within, fits_place}
use Rattle.book_promise.specs.Changes.{set_place, clear_place, neither_at, changed_place, fits_change, change_verdict}
use Rattle.book_calls.specs.Changing.{leaves_nothing, clears, change_of, change_at, changes_of, changes_verdict, refused_change, changes_made}

-- place 2 is set to a balance of 3, a coupon of 4, 5 months and a penalty of 6, and to a balance of 0; then it is cleared, cleared with each other number
-- besides, and asked what is neither; a part of a change does not count
changes-hold : changes_of
    ((0 ∷ 2 ∷ 3 ∷ 4 ∷ 5 ∷ 6 ∷ [])
    ++ (0 ∷ 2 ∷ 0 ∷ 0 ∷ 0 ∷ 0 ∷ [])
    ++ (1 ∷ 2 ∷ 0 ∷ 0 ∷ 0 ∷ 0 ∷ [])
    ++ (1 ∷ 2 ∷ 3 ∷ 0 ∷ 0 ∷ 0 ∷ [])
    ++ (1 ∷ 2 ∷ 0 ∷ 4 ∷ 0 ∷ 0 ∷ [])
    ++ (1 ∷ 2 ∷ 0 ∷ 0 ∷ 5 ∷ 0 ∷ [])
    ++ (1 ∷ 2 ∷ 0 ∷ 0 ∷ 0 ∷ 6 ∷ [])
    ++ (2 ∷ 2 ∷ 3 ∷ 4 ∷ 5 ∷ 6 ∷ [])
    ++ (2 ∷ 2 ∷ 0 ∷ 0 ∷ 0 ∷ 0 ∷ [])
    ++ (0 ∷ 2 ∷ 3 ∷ 4 ∷ 5 ∷ []))
    ≡ set_place 2 3 4 5 6
    ∷ set_place 2 0 0 0 0
    ∷ clear_place 2
    ∷ neither_at 2
    ∷ neither_at 2
    ∷ neither_at 2
    ∷ neither_at 2
    ∷ neither_at 2
    ∷ neither_at 2
    ∷ []
unfolding changes_of change_at change_of clears leaves_nothing table_from
changes-hold = refl

-- place 16 is one of row 2 with penalty: what it takes, each number at its limit and one beyond, also the months of its row, which no coupon is held to;
-- place 17 is without; place 36 is none
verdicts-hold : map change_verdict
    (set_place 16 1 0 4 0
    ∷ set_place 16 999999999 15000 12 3600
    ∷ set_place 16 0 0 4 0
    ∷ set_place 16 1000000000 0 4 0
    ∷ set_place 16 1 15001 4 0
    ∷ set_place 16 1 4 0 0
    ∷ set_place 16 1 0 13 0
    ∷ set_place 16 1 0 4 3601
    ∷ set_place 17 1 0 4 0
    ∷ set_place 17 1 0 4 1
    ∷ set_place 36 1 0 4 0
    ∷ clear_place 35
    ∷ clear_place 36
    ∷ neither_at 16
    ∷ [])
    ≡ accepted
    ∷ accepted
    ∷ refused 17 16
    ∷ refused 17 16
    ∷ refused 17 16
    ∷ refused 17 16
    ∷ refused 17 16
    ∷ refused 17 16
    ∷ accepted
    ∷ refused 17 17
    ∷ refused 17 36
    ∷ accepted
    ∷ refused 17 36
    ∷ refused 17 16
    ∷ []
unfolding change_verdict changed_place fits_change fits_place penalty_within with_penalty position_of position_at positions position within_row refused_if refused accepted
verdicts-hold = refl

-- the changes made: both, one of two, none of two, and none of none
made-hold : changes_made ((1 ∷ 2 ∷ 0 ∷ 0 ∷ 0 ∷ 0 ∷ []) ++ (0 ∷ 16 ∷ 1 ∷ 0 ∷ 4 ∷ 0 ∷ []))
    ∷ changes_made ((0 ∷ 16 ∷ 1 ∷ 0 ∷ 4 ∷ 0 ∷ []) ++ (0 ∷ 3 ∷ 0 ∷ 0 ∷ 0 ∷ 0 ∷ []))
    ∷ changes_made ((1 ∷ 2 ∷ 0 ∷ 0 ∷ 0 ∷ 6 ∷ []) ++ (1 ∷ 2 ∷ 0 ∷ 0 ∷ 0 ∷ 0 ∷ []))
    ∷ changes_made []
    ∷ []
    ≡ 2 ∷ 1 ∷ 0 ∷ 0 ∷ []
unfolding changes_made refused_change first_from change_at change_of clears leaves_nothing change_verdict changed_place fits_change fits_place penalty_within with_penalty position_of position_at positions position within_row refused_if refused accepted
made-hold = refl

-- the first refusal of two
first-hold : changes_verdict ((0 ∷ 3 ∷ 0 ∷ 0 ∷ 0 ∷ 0 ∷ []) ++ (1 ∷ 36 ∷ 0 ∷ 0 ∷ 0 ∷ 0 ∷ [])) ≡ refused 17 3
unfolding changes_verdict first_of first_refusal table_from change_at change_of clears leaves_nothing change_verdict changed_place fits_change fits_place penalty_within with_penalty position_of position_at positions position within_row refused_if refused accepted
first-hold = refl
