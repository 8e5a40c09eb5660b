-- `value_places::place_row::row_of` meets its contract. Assumes nothing.
use mathlib.Core.Path.{refl}
use native.Mathlib.Nat.{ne_of_gt}
use Rattle.value_places.specs.Inner.PlaceRows.{row_of}
use Rattle.value_places.proofs.RowLaws.{row_written, tabled-length, no_row}
use Rattle.value_places.proofs.place_row.row_of.Goals as goal

pub returns-then-held-eq0 : goal.returns-then-held-eq0
returns-then-held-eq0 c = record { value = (λ t. no_row _ _ _ _ _ _ c.if-held-eq0.true); levels_left = ((λ e. refl), λ some. absurd (ne_of_gt some c.if-held-eq0.true)) }

pub returns : goal.returns
unfolding row_of
returns c =
    record { value = (λ t. rw (c.write.ensures, c.held_values-values.ensures.value t) (row_written _ _ (tabled-length _ _ _ _ _ _))); levels_left = c.held_values-values.ensures.levels_left }
