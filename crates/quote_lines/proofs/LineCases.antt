-- Closed cases of the definitions (02:CR 12), so that a wrong clause breaks one: the lines of two lists, 21 in its order, and the replies. Assumes nothing.
use Prim.Native.Nat.{ℕ}
use mathlib.Core.Path.{◌≡◌, refl}
use mathlib.Core.List.{List, [], ◌∷◌, ◌++◌, map}
use lib.Ieee.{nan, binary64, add, sub, mul, div, lt, le, of_int, of_bits}
use lib.ListN.{length, replicate}
use Rattle.lists.specs.Ranges.{first_from}
use Rattle.lists.specs.Tables.{table, table_from, any_below}
use Rattle.answers.specs.Verdict.{accepted, refused, refused_if, first_refusal, first_of}
use Rattle.quote_prices.specs.declared.PriceLine.{PriceLine}
use Rattle.quote_prices.specs.PriceLines.{whole, faulty_price, faulty_prices}
use Rattle.quote_prices.specs.Interpolation.{weight, along, price_between}
use Rattle.quote_lines.specs.declared.Reply.TheVariants.{Listed, Between, Outside}
use Rattle.quote_lines.specs.Lines.{line_at, line_count, line_in, lines_of}
use Rattle.quote_lines.specs.Faults.{not_rising, faulty_line, line_verdict, lines_verdict}
use Rattle.quote_lines.specs.Replies.{reached_line, reply_short, reply_at, reply_of, reply_number, reply_price}

-- a line of so many months, with one price in all seven scenarios
abbrev line : ℕ → ℕ → PriceLine
line months price = record { months = months; prices = replicate 7 (whole price) }

abbrev faulty : ℕ → PriceLine
faulty months = record { months = months; prices = replicate 7 nan }

-- lines of 6, 12 and 36 months
abbrev three : List PriceLine
three = line 6 100 ∷ line 12 101 ∷ line 36 98 ∷ []

-- n lines of 0, 1, 2, .. months
abbrev many : ℕ → List PriceLine
many n = table n (λ (i : ℕ). line i 100)

-- ---- 21
taken : (lines_verdict three ≡ accepted) × (lines_verdict [] ≡ accepted) × (lines_verdict (many 64) ≡ accepted)
unfolding lines_verdict line_verdict faulty_line not_rising line_at faulty_prices faulty_price any_below table_from first_of first_refusal refused_if refused accepted lt le of_int
taken = (refl, refl, refl)

-- equal and falling months, a faulty price, a 65th line; the first of them, in the order of the lines
turned-back : (lines_verdict (line 6 100 ∷ line 6 100 ∷ []) ≡ refused 21 1)
    × (lines_verdict (line 6 100 ∷ line 12 100 ∷ line 11 100 ∷ []) ≡ refused 21 2)
    × (lines_verdict (faulty 6 ∷ line 6 100 ∷ []) ≡ refused 21 0)
    × (lines_verdict (many 65) ≡ refused 21 64)
    × (lines_verdict (many 64 ++ faulty 0 ∷ []) ≡ refused 21 64)
    × (lines_verdict (many 30 ++ line 3 100 ∷ many 40) ≡ refused 21 30)
unfolding lines_verdict line_verdict faulty_line not_rising line_at faulty_prices faulty_price any_below table_from first_of first_refusal refused_if refused accepted lt le of_int
turned-back = (refl, refl, refl, refl, refl, refl)

-- ---- replies
listed-months : (reply_of three 6 0 ≡ Listed (whole 100)) × (reply_of three 12 6 ≡ Listed (whole 101)) × (reply_of three 36 3 ≡ Listed (whole 98))
unfolding reply_of reply_at reply_short reached_line first_from line_at
listed-months = (refl, refl, refl)

-- months 9 and 30: 100 + 1 × 0.5 and 101 + -3 × 0.75
months-between : (reply_of three 9 2 ≡ Between (of_bits binary64 0x4059_2000_0000_0000)) × (reply_of three 30 2 ≡ Between (of_bits binary64 0x4058_b000_0000_0000))
unfolding reply_of reply_at reply_short reached_line first_from line_at price_between along weight add sub mul div of_int of_bits
months-between = (refl, refl)

outside : (reply_of three 5 0 ≡ Outside) × (reply_of three 37 0 ≡ Outside) × (reply_of three 6 7 ≡ Outside) × (reply_of [] 6 0 ≡ Outside)
    × (reply_of three 70000 0 ≡ Outside)
unfolding reply_of reply_at reply_short reached_line first_from line_at
outside = (refl, refl, refl, refl, refl)

-- their numbers and prices
numbers : map reply_number (Listed (whole 7) ∷ Between (whole 7) ∷ Outside ∷ []) ≡ 0 ∷ 1 ∷ 2 ∷ []
unfolding reply_number
numbers = refl

prices : (reply_price (Listed (whole 7)) nan ≡ whole 7) × (reply_price (Between (whole 7)) nan ≡ whole 7) × (reply_price Outside (whole 9) ≡ whole 9)
unfolding reply_price
prices = (refl, refl, refl)

-- ---- as many lines as both lists have
both-lists : (length (lines_of (6 ∷ 12 ∷ []) (replicate 13 (whole 100))) ≡ 1)
    × (length (lines_of (6 ∷ 12 ∷ []) (replicate 14 (whole 100))) ≡ 2)
    × (length (lines_of (6 ∷ 12 ∷ []) (replicate 30 (whole 100))) ≡ 2)
    × (length (lines_of [] (replicate 7 (whole 100))) ≡ 0)
unfolding lines_of line_count line_in table_from
both-lists = (refl, refl, refl, refl)

second-line : line_at (lines_of (6 ∷ 12 ∷ []) (map whole (1 ∷ 2 ∷ 3 ∷ 4 ∷ 5 ∷ 6 ∷ 7 ∷ 8 ∷ 9 ∷ 10 ∷ 11 ∷ 12 ∷ 13 ∷ 14 ∷ []))) 1
    ≡ record { months = 12; prices = map whole (8 ∷ 9 ∷ 10 ∷ 11 ∷ 12 ∷ 13 ∷ 14 ∷ []) }
unfolding lines_of line_count line_in line_at table_from
second-line = refl
