-- What holds of the price between two lines against the prices of the lines (02:CR 12). Definitions only.
use Rattle.std.specs.Prelude.{◌≡◌, true, false, Float}
use Rattle.std.specs.Float.Ieee.{le}
use Rattle.quote_prices.specs.PriceLines.{faulty_price}

-- a number above 0 and at most 1,000 that is not outside the two prices, whichever of them is the higher; rounding may bring it to either of them
pub record BetweenPrices (first second price : Float) : Type 0 where
  pub sound : faulty_price price ≡ false
  pub rising : le first second ≡ true → (le first price ≡ true) × (le price second ≡ true)
  pub falling : le second first ≡ true → (le second price ≡ true) × (le price first ≡ true)
