-- The two roundings of the run (01:60). Definitions only.
use Rattle.std.specs.Prelude.{ℕ, ◌+◌, ◌-◌, ◌/◌, Bool, true, false}

pub data Rounding : Type 0 where
  down : Rounding
  up : Rounding

-- n / d as a whole number: floor, or ceiling as (n + (d - 1)) / d
unfoldable pub quotient : Rounding → ℕ → ℕ → ℕ
quotient down n d = n / d
quotient up n d = (n + (d - 1)) / d

-- the rounding of a flag: up or down
unfoldable pub rounding_of : Bool → Rounding
rounding_of true = up
rounding_of false = down
