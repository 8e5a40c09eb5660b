-- Closed cases of the printed text (02:CR 12), so that a wrong clause of a definition breaks one: two lines of 6 and 12 months, with 100, 101, .., 106 and
-- 101, 102, .., 107 as their prices. Assumes nothing.
use Prim.Native.Nat.{ℕ}
use mathlib.Core.Path.{◌≡◌, refl}
use mathlib.Core.List.{List, [], ◌∷◌, ◌++◌}
use lib.Ieee.{add, sub, mul, div, lt, le, of_int, of_bits, to_bits}
use lib.ListN.{length, take}
use Rattle.lists.specs.Ranges.{first_from}
use Rattle.lists.specs.Tables.{table_from, any_below}
use Rattle.record_fields.specs.Bytes.{number_at}
use Rattle.answers.specs.Verdict.{accepted, refused, refused_if, first_refusal, first_of}
use Rattle.quote_prices.specs.PriceLines.{faulty_price, faulty_prices}
use Rattle.quote_prices.specs.Interpolation.{weight, along, price_between}
use Rattle.quote_lines.specs.Lines.{line_at}
use Rattle.quote_lines.specs.Faults.{not_rising, faulty_line, line_verdict, lines_verdict}
use Rattle.quote_lines.specs.Replies.{reached_line, reply_short, reply_at, reply_of}
use Rattle.text.specs.Decimal.{digit, digits_within, decimal}
use Rattle.text.specs.Lines.{spaced, rest_of_line, refused_word, refusal_line, unreadable_word, unreadable_line, too_long}
use Rattle.text_numerals.specs.Numerals as numerals
use Rattle.std.specs.Prelude.{None, Some}
use Rattle.text_quote.specs.LineBytes.{months_in, bits_in, price_in, line_in, lines_in}
use Rattle.text_quote.specs.Arguments.{argument_of}
use Rattle.text_quote.specs.ReplyLines.{hex_digit, hexadecimal, listed_word, between_word, outside_word, price_line, reply_line, quoted_line}
use Rattle.text_quote.specs.Printed.{answer_text, asked_text, printed_text}

-- the bytes of a price of 100 and more by quarters of 256: its last two bytes
abbrev price : ℕ → ℕ → List ℕ
price low high = 0 ∷ 0 ∷ 0 ∷ 0 ∷ 0 ∷ low ∷ high ∷ 64 ∷ []

abbrev first : List ℕ
first = 6 ∷ 0 ∷ price 0 89 ++ price 64 89 ++ price 128 89 ++ price 192 89 ++ price 0 90 ++ price 64 90 ++ price 128 90

abbrev second : List ℕ
second = 12 ∷ 0 ∷ price 64 89 ++ price 128 89 ++ price 192 89 ++ price 0 90 ++ price 64 90 ++ price 128 90 ++ price 192 90

-- `listed 4059000000000000`: month 6, scenario 0; `listed 405ac00000000000`: month 12, scenario 6
listed-texts : (answer_text (first ++ second) 6 0
    ≡ 108 ∷ 105 ∷ 115 ∷ 116 ∷ 101 ∷ 100 ∷ 32 ∷ 52 ∷ 48 ∷ 53 ∷ 57 ∷ 48 ∷ 48 ∷ 48 ∷ 48 ∷ 48 ∷ 48 ∷ 48 ∷ 48 ∷ 48 ∷ 48 ∷ 48 ∷ 48 ∷ 10 ∷ [])
    × (answer_text (first ++ second) 12 6
    ≡ 108 ∷ 105 ∷ 115 ∷ 116 ∷ 101 ∷ 100 ∷ 32 ∷ 52 ∷ 48 ∷ 53 ∷ 97 ∷ 99 ∷ 48 ∷ 48 ∷ 48 ∷ 48 ∷ 48 ∷ 48 ∷ 48 ∷ 48 ∷ 48 ∷ 48 ∷ 48 ∷ 10 ∷ [])
unfolding answer_text quoted_line reply_line price_line listed_word hexadecimal hex_digit lines_in line_in months_in price_in bits_in number_at table_from lines_verdict line_verdict faulty_line not_rising line_at faulty_prices faulty_price any_below first_of first_refusal refused_if refused accepted reply_of reply_at reply_short reached_line first_from lt le of_int of_bits to_bits
listed-texts = (refl, refl)

-- `between 4059200000000000`: month 9, scenario 0, 100 + 1 × 0.5
between-text : answer_text (first ++ second) 9 0
    ≡ 98 ∷ 101 ∷ 116 ∷ 119 ∷ 101 ∷ 101 ∷ 110 ∷ 32 ∷ 52 ∷ 48 ∷ 53 ∷ 57 ∷ 50 ∷ 48 ∷ 48 ∷ 48 ∷ 48 ∷ 48 ∷ 48 ∷ 48 ∷ 48 ∷ 48 ∷ 48 ∷ 48 ∷ 10 ∷ []
unfolding answer_text quoted_line reply_line price_line between_word hexadecimal hex_digit lines_in line_in months_in price_in bits_in number_at table_from lines_verdict line_verdict faulty_line not_rising line_at faulty_prices faulty_price any_below first_of first_refusal refused_if refused accepted reply_of reply_at reply_short reached_line first_from price_between along weight add sub mul div lt le of_int of_bits to_bits
between-text = refl

-- `outside`: month 13; and `refused 21 1`: the lines exchanged
outside-text : answer_text (first ++ second) 13 0 ≡ 111 ∷ 117 ∷ 116 ∷ 115 ∷ 105 ∷ 100 ∷ 101 ∷ 10 ∷ []
unfolding answer_text quoted_line reply_line outside_word lines_in line_in months_in price_in bits_in number_at table_from lines_verdict line_verdict faulty_line not_rising line_at faulty_prices faulty_price any_below first_of first_refusal refused_if refused accepted reply_of reply_at reply_short reached_line first_from lt le of_int of_bits
outside-text = refl

refused-text : answer_text (second ++ first) 6 0 ≡ 114 ∷ 101 ∷ 102 ∷ 117 ∷ 115 ∷ 101 ∷ 100 ∷ 32 ∷ 50 ∷ 49 ∷ 32 ∷ 49 ∷ 10 ∷ []
unfolding answer_text quoted_line refusal_line refused_word rest_of_line spaced decimal digits_within digit lines_in line_in months_in price_in bits_in number_at table_from lines_verdict line_verdict faulty_line not_rising line_at faulty_prices faulty_price any_below first_of first_refusal refused_if refused accepted lt le of_int of_bits
refused-text = refl

-- ---- arguments: `60`, `060`, nothing, `6 `, `-6`, `6` and a line feed, 2^64
arguments : (argument_of (54 ∷ 48 ∷ []) ≡ Some 60) × (argument_of (48 ∷ 54 ∷ 48 ∷ []) ≡ Some 60) × (argument_of [] ≡ None)
    × (argument_of (54 ∷ 32 ∷ []) ≡ None) × (argument_of (45 ∷ 54 ∷ []) ≡ None) × (argument_of (54 ∷ 10 ∷ []) ≡ None)
    × (argument_of (49 ∷ 56 ∷ 52 ∷ 52 ∷ 54 ∷ 55 ∷ 52 ∷ 52 ∷ 48 ∷ 55 ∷ 51 ∷ 55 ∷ 48 ∷ 57 ∷ 53 ∷ 53 ∷ 49 ∷ 54 ∷ 49 ∷ 54 ∷ []) ≡ None)
unfolding argument_of numerals.is_number numerals.number_at numerals.number_end numerals.decimal numerals.is_digit numerals.byte_at first_from
arguments = (refl, refl, refl, refl, refl, refl, refl)

-- ---- the input: 65,537 bytes are too long; otherwise a part of a line is unreadable, and so is an argument that is none
too-long-is : (s month scenario : List ℕ) → length s ≡ 65537 → printed_text s month scenario ≡ 116 ∷ 111 ∷ 111 ∷ 32 ∷ 108 ∷ 111 ∷ 110 ∷ 103 ∷ 10 ∷ []
unfolding printed_text too_long
too-long-is s month scenario h = simp h

longest-is : (s month scenario : List ℕ) → length s ≡ 65536
    → printed_text s month scenario ≡ 117 ∷ 110 ∷ 114 ∷ 101 ∷ 97 ∷ 100 ∷ 97 ∷ 98 ∷ 108 ∷ 101 ∷ 10 ∷ []
unfolding printed_text unreadable_line unreadable_word
longest-is s month scenario h = simp h

part-of-a-line : (printed_text (take 57 first) (54 ∷ []) (48 ∷ []) ≡ unreadable_line) × (printed_text (0 ∷ first) (54 ∷ []) (48 ∷ []) ≡ unreadable_line)
unfolding printed_text
part-of-a-line = (refl, refl)

no-numbers : (printed_text [] [] (48 ∷ []) ≡ unreadable_line) × (printed_text [] (54 ∷ []) [] ≡ unreadable_line)
unfolding printed_text asked_text argument_of numerals.is_number numerals.number_at numerals.number_end numerals.decimal numerals.is_digit numerals.byte_at first_from
no-numbers = (refl, refl)
