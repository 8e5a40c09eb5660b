-- The price between two lines (02:CR 12): p1 + (p2 - p1) × w, where w is m - m1 over m2 - m1, each operation rounded once in this order. Definitions only.
use Rattle.std.specs.Prelude.{ℕ, ◌-◌, Float}
use Rattle.std.specs.Float.{binary64}
use Rattle.std.specs.Float.Ieee.{add, sub, mul, div}
use Rattle.quote_prices.specs.declared.PriceLine.{PriceLine}
use Rattle.quote_prices.specs.PriceLines.{price_in, whole}

-- w: the months from the line before to the month, over those from the line before to the line after
unfoldable pub weight : PriceLine → PriceLine → ℕ → Float
weight before after month = div binary64 (whole (month - before.months)) (whole (after.months - before.months))

-- p1 + (p2 - p1) × w
unfoldable pub along : Float → Float → Float → Float
along first second w = add binary64 first (mul binary64 (sub binary64 second first) w)

-- the price of a month between the months of two lines, in a scenario
unfoldable pub price_between : PriceLine → PriceLine → ℕ → ℕ → Float
price_between before after month scenario = along (price_in before scenario) (price_in after scenario) (weight before after month)
