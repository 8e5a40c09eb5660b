-- Closed cases of the text of certificates, so that a wrong clause of a definition breaks a case: an empty text, lines that are not of their form, the
-- last line with and without its line feed, and the largest number. Each is computed. Assumes nothing.
use Prim.Native.Nat.{ℕ, ◌^◌}
use mathlib.Core.Path.{◌≡◌, refl}
use mathlib.Core.List.{List, [], ◌∷◌, ◌++◌}
use Rattle.lists.specs.Ranges.{first_from}
use Rattle.lists.specs.Tables.{table_from, joined}
use Rattle.text.specs.Decimal.{digit, digits_within, decimal}
use Rattle.text.specs.Lines.{spaced, rest_of_line, unreadable_word}
use Rattle.text_numerals.specs.Numerals as numerals
use Rattle.text_numerals.specs.Forms.{has_form, form_numbers}
use Rattle.text_certificates.specs.Lines.{date_form, certificate_form}
use Rattle.text_certificates.specs.Texts.{line_end, line_start, line_count, line_form, is_readable, first_unreadable, unreadable_line, line_numbers, valuation_of, certificates_of}
use Rattle.text_certificates.specs.CellLines.{cell_line, cell_lines, unreadable_text}

-- numbers, each with the byte behind it
abbrev written : List (ℕ × ℕ) → List ℕ
written [] = []
written (x ∷ xs) = decimal x.0 ++ (x.1 ∷ written xs)

-- 2024-6-15 and a line feed
abbrev day : List ℕ
day = written ((2024, 45) ∷ (6, 45) ∷ (15, 10) ∷ [])

-- 2024-1-1 2024-9-15 and a balance; the rest of the line
abbrev from : ℕ → List ℕ
from balance = written ((2024, 45) ∷ (1, 45) ∷ (1, 32) ∷ (2024, 45) ∷ (9, 45) ∷ (15, 32) ∷ (balance, 32) ∷ [])

-- the first line that is not of its form: none at all, an empty one, a date that ends early, a missing coupon, a coupon of 2^64, two spaces, an empty
-- last line; 0 for the date alone, for certificates with and without the last line feed, with zeros in front and with the largest number
lines-hold : unreadable_line []
    ∷ unreadable_line (10 ∷ [])
    ∷ unreadable_line (written ((2024, 45) ∷ (6, 10) ∷ []))
    ∷ unreadable_line (day ++ from 7)
    ∷ unreadable_line (day ++ from 7 ++ written ((5, 10) ∷ []) ++ from 7 ++ decimal (2 ^ 64))
    ∷ unreadable_line (day ++ from 7 ++ (32 ∷ 53 ∷ 10 ∷ []))
    ∷ unreadable_line (day ++ from 7 ++ written ((5, 10) ∷ []) ++ (10 ∷ []))
    ∷ unreadable_line day
    ∷ unreadable_line (day ++ from 7 ++ written ((5, 10) ∷ []))
    ∷ unreadable_line (day ++ from 7 ++ (53 ∷ []))
    ∷ unreadable_line (day ++ from 7 ++ (48 ∷ 48 ∷ 53 ∷ []))
    ∷ unreadable_line (day ++ from 7 ++ decimal 18446744073709551615)
    ∷ []
    ≡ 1 ∷ 1 ∷ 1 ∷ 2 ∷ 3 ∷ 2 ∷ 3 ∷ 0 ∷ 0 ∷ 0 ∷ 0 ∷ 0 ∷ []
unfolding unreadable_line first_unreadable is_readable line_form line_count line_start line_end has_form date_form certificate_form numerals.byte_at numerals.is_digit numerals.number_end numerals.decimal numerals.number_at numerals.is_number first_from decimal digits_within digit
lines-hold = refl

-- what a text says
valuation-holds : valuation_of (day ++ from 7 ++ (53 ∷ [])) ≡ record { year = 2024; month = 6; day = 15 }
unfolding valuation_of line_numbers line_form line_start line_end form_numbers date_form numerals.byte_at numerals.is_digit numerals.number_end numerals.decimal numerals.number_at numerals.is_number first_from decimal digits_within digit
valuation-holds = refl

certificates-hold : certificates_of (day ++ from 7 ++ written ((5, 10) ∷ []) ++ from 0 ++ (48 ∷ 48 ∷ 53 ∷ []))
    ≡ 2024 ∷ 1 ∷ 1 ∷ 2024 ∷ 9 ∷ 15 ∷ 7 ∷ 5 ∷ 2024 ∷ 1 ∷ 1 ∷ 2024 ∷ 9 ∷ 15 ∷ 0 ∷ 5 ∷ []
unfolding certificates_of line_numbers line_form line_count line_start line_end form_numbers certificate_form numerals.byte_at numerals.is_digit numerals.number_end numerals.decimal numerals.number_at numerals.is_number first_from table_from joined decimal digits_within digit
certificates-hold = refl

-- 645 10, and unreadable 2
printed-hold : cell_lines (record { cell = 645; value = 10 } ∷ []) ∷ unreadable_text 2 ∷ []
    ≡ (54 ∷ 52 ∷ 53 ∷ 32 ∷ 49 ∷ 48 ∷ 10 ∷ [])
    ∷ (117 ∷ 110 ∷ 114 ∷ 101 ∷ 97 ∷ 100 ∷ 97 ∷ 98 ∷ 108 ∷ 101 ∷ 32 ∷ 50 ∷ 10 ∷ [])
    ∷ []
unfolding cell_lines cell_line unreadable_text unreadable_word joined rest_of_line spaced decimal digits_within digit
printed-hold = refl
