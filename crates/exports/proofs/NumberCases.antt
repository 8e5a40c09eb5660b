-- A closed case of cells as plain numbers, so that a wrong clause of a definition breaks it: the number of a cell, then its value; 0 past the last. It is
-- computed. Assumes nothing.
use mathlib.Core.Path.{◌≡◌, refl}
use mathlib.Core.List.{[], ◌∷◌}
use lib.ListN.{replicate}
use Rattle.lists.specs.Tables.{table_from, joined}
use Rattle.exports.specs.CellNumbers.{pair_at, numbers_of}

numbers-hold : numbers_of (record { cell = 601; value = 10 } ∷ record { cell = 645; value = 20 } ∷ [])
    ≡ 601 ∷ 10 ∷ 645 ∷ 20 ∷ replicate 52 0
unfolding numbers_of pair_at joined table_from
numbers-hold = refl
