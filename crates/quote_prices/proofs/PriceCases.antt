-- Closed cases of the definitions (02:CR 12), so that a wrong clause breaks one: which prices are faulty, by their bit patterns, and prices between two lines
-- worked out beforehand with 64-bit floats elsewhere. Assumes nothing.
use Prim.Native.Nat.{ℕ}
use mathlib.Core.Path.{◌≡◌, refl}
use mathlib.Core.Bool.{Bool, true, false}
use mathlib.Core.List.{[], ◌∷◌, map}
use lib.Ieee.{binary64, add, sub, mul, div, lt, le, of_int, of_bits, to_bits}
use Rattle.lists.specs.Tables.{any_below}
use Rattle.quote_prices.specs.declared.PriceLine.{PriceLine}
use Rattle.quote_prices.specs.PriceLines.{faulty_price, faulty_prices}
use Rattle.quote_prices.specs.Interpolation.{weight, along, price_between}

abbrev faulty : ℕ → Bool
faulty bits = faulty_price (of_bits binary64 bits)

-- the smallest float above 0, 1 and 1,000 are prices
sound-prices : map faulty (0x0000_0000_0000_0001 ∷ 0x3ff0_0000_0000_0000 ∷ 0x408f_4000_0000_0000 ∷ []) ≡ false ∷ false ∷ false ∷ []
unfolding faulty_price lt le of_int of_bits
sound-prices = refl

-- 0.0, -0.0, -1, the next float above 1,000, the infinities, and two patterns that are not a number
faulty-prices : map faulty
    (0x0000_0000_0000_0000 ∷ 0x8000_0000_0000_0000 ∷ 0xbff0_0000_0000_0000 ∷ 0x408f_4000_0000_0001
    ∷ 0x7ff0_0000_0000_0000 ∷ 0xfff0_0000_0000_0000 ∷ 0x7ff8_0000_0000_0000 ∷ 0x7ff0_0000_0000_0001 ∷ [])
    ≡ true ∷ true ∷ true ∷ true ∷ true ∷ true ∷ true ∷ true ∷ []
unfolding faulty_price lt le of_int of_bits
faulty-prices = refl

-- a line whose prices are all one price, but for the last
abbrev line : ℕ → ℕ → ℕ → PriceLine
line months price last = record { months = months; prices = map (of_bits binary64) (price ∷ price ∷ price ∷ price ∷ price ∷ price ∷ last ∷ []) }

last-price-counts : (faulty_prices (line 6 0x4059_0000_0000_0000 0x4059_0000_0000_0000) ≡ false)
    × (faulty_prices (line 6 0x4059_0000_0000_0000 0x408f_4000_0000_0001) ≡ true)
unfolding faulty_prices faulty_price any_below lt le of_int of_bits
last-price-counts = (refl, refl)

abbrev between : ℕ → ℕ → ℕ → ℕ → ℕ → ℕ
between months price month later last = to_bits binary64 (price_between (line months price price) (line later last last) month 6)

-- 4.42 at 36 months and 122.81 at 115, in month 51; 58.89 at 19 and 5.13 at 92, in month 80. One rounding fewer, as in a fused operation, and either of
-- p1 × (1 - w) + p2 × w and p1 + (p2 × w - p1 × w) end in other bits at both
rising-price : between 36 0x4011_ae14_7ae1_47ae 51 115 0x405e_b3d7_0a3d_70a4 ≡ 0x403a_e62c_5483_2cfa
unfolding price_between along weight add sub mul div of_int of_bits to_bits
rising-price = refl

falling-price : between 19 0x404d_71eb_851e_b852 80 92 0x4014_851e_b851_eb85 ≡ 0x402b_ef3c_bd16_dd5c
unfolding price_between along weight add sub mul div of_int of_bits to_bits
falling-price = refl

-- equal prices, and neighbours one unit apart: the bits of a neighbour
level-price : between 0 0x4059_0000_0000_0000 65534 65535 0x4059_0000_0000_0000 ≡ 0x4059_0000_0000_0000
unfolding price_between along weight add sub mul div of_int of_bits to_bits
level-price = refl

smallest-step : between 0 0x0000_0000_0000_0001 3 4 0x0000_0000_0000_0002 ≡ 0x0000_0000_0000_0002
unfolding price_between along weight add sub mul div of_int of_bits to_bits
smallest-step = refl
