-- The level of an incentive: the index of the first tier that it reaches, among edges in an array, highest first; the count of the tiers where it reaches
-- none. Definitions only.
use Rattle.std.specs.Prelude.{ℕ, ◌≤◌, ◌<◌, ◌≡◌, true, false, List, ℤ, get_or}
use Rattle.withdrawal.specs.Tiers.{reached}

-- no edge before a level is reached
abbrev pub Unreached : List ℕ → ℤ → ℕ → ℕ → Type 0
Unreached edges gain cost level = (i : ℕ) → i < level → reached gain cost (get_or edges i 0) ≡ false

-- the first level whose edge is reached, counted from 0, or the count where none is
pub record FirstLevel (count : ℕ) (edges : List ℕ) (gain : ℤ) (cost level : ℕ) : Type 0 where
  pub within : level ≤ count
  pub before : Unreached edges gain cost level
  pub here : level < count → reached gain cost (get_or edges level 0) ≡ true
