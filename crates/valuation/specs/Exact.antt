-- The exact values of a filing's sub-balances (01:58-59), dollars as fractions. Definitions only.
use Rattle.std.specs.Prelude.{ℕ}
use Rattle.fraction.specs.Fraction.{Fraction}
use Rattle.filing_contents.specs.Contents.{Contents}
use Rattle.shares.specs.Places.{place_at}
use Rattle.value_places.specs.HeldValues.{exact_held}

-- the exact value of the sub-balance at a place, 0 to 35, in a scenario, 0 to 6
unfoldable pub exact_value_at : Contents → ℕ → ℕ → Fraction
exact_value_at k scenario place = exact_held k scenario place (place_at k.cells place)
