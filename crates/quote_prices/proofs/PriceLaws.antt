-- The two limits of a price, as the code has them: 0 and 1,000 by their bit patterns. Assumes nothing.
use mathlib.Core.Path.{◌≡◌, refl}
use lib.Ieee.{binary64, of_int, of_bits}
use Rattle.quote_prices.specs.PriceLines.{whole}

pub zero_is : of_bits binary64 0 ≡ whole 0
unfolding of_bits of_int
zero_is = refl

pub limit_is : of_bits binary64 0x408f_4000_0000_0000 ≡ whole 1000
unfolding of_bits of_int
limit_is = refl
