-- Closed cases of the lines that a book obeys, each computed, and cases of its opening at the longest filing, so that a wrong clause of a definition breaks a
-- case. Assumes nothing.
use Prim.Native.Nat.{ℕ}
use mathlib.Core.Path.{◌≡◌, refl}
use mathlib.Core.Bool.{false}
use mathlib.Core.List.{List, [], ◌∷◌, ◌++◌}
use lib.Dec.{eqb}
use lib.ListN.{length, replicate}
use Rattle.lists.specs.Ranges.{first_from}
use Rattle.filing.specs.Verdict.{filing_verdict}
use Rattle.text.specs.Decimal.{digit, digits_within, decimal}
use Rattle.text.specs.Lines.{spaced, too_long}
use Rattle.text_book.specs.BookLines.{opened_line, answer_line}
use Rattle.text_numerals.specs.Numerals as numerals
use Rattle.text_numerals.specs.Forms.{has_form, form_numbers, form_end}
use Rattle.text_book.specs.declared.book_commands.Command.TheVariants.{Set, Clear, Place, Totals}
use Rattle.std.specs.Prelude.{Option, None, Some}
use Rattle.text_book.specs.declared.book_commands.Command.{Command}
use Rattle.text_book.specs.Commands.{set_word, clear_word, place_word, totals_word, five_numbers, one_number, begins_with, says, number_of, is_totals, short_command, command_of}
use Rattle.text_book.specs.Replies.{opening_text, opens}

-- a filing of 65,536 bytes is read, whatever they are, and one of 65,537 is too long and opens no book
longest-read : (s : List ℕ) → length s ≡ 65536 → (opening_text s ≡ answer_line opened_line (filing_verdict s)) × (opens s ≡ eqb (filing_verdict s).number 0)
unfolding opening_text opens
longest-read s h = (simp h, simp h)

too-long-is : (s : List ℕ) → length s ≡ 65537 → (opening_text s ≡ 116 ∷ 111 ∷ 111 ∷ 32 ∷ 108 ∷ 111 ∷ 110 ∷ 103 ∷ 10 ∷ []) × (opens s ≡ false)
unfolding opening_text opens too_long
too-long-is s h = (simp h, simp h)

-- `set`, `clear`, `place` and `totals`
abbrev set_bytes : List ℕ
set_bytes = 115 ∷ 101 ∷ 116 ∷ []

abbrev clear-word : List ℕ
clear-word = 99 ∷ 108 ∷ 101 ∷ 97 ∷ 114 ∷ []

abbrev place-word : List ℕ
place-word = 112 ∷ 108 ∷ 97 ∷ 99 ∷ 101 ∷ []

abbrev totals-word : List ℕ
totals-word = 116 ∷ 111 ∷ 116 ∷ 97 ∷ 108 ∷ 115 ∷ []

-- each command; zeros in front, and the largest number
commands-hold : command_of (set_bytes ++ spaced (3 ∷ 1000 ∷ 0 ∷ 1 ∷ 2 ∷ []))
    ∷ command_of (clear-word ++ spaced (35 ∷ []))
    ∷ command_of (place-word ++ spaced (0 ∷ []))
    ∷ command_of totals-word
    ∷ command_of (clear-word ++ (32 ∷ 48 ∷ 48 ∷ 55 ∷ []))
    ∷ command_of (clear-word ++ spaced (18446744073709551615 ∷ []))
    ∷ []
    ≡ Some (Set 3 1000 0 1 2) ∷ Some (Clear 35) ∷ Some (Place 0) ∷ Some Totals ∷ Some (Clear 7) ∷ Some (Clear 18446744073709551615) ∷ []
unfolding command_of short_command says begins_with number_of is_totals set_word clear_word place_word totals_word five_numbers one_number has_form form_numbers form_end numerals.byte_at numerals.is_digit numerals.number_end numerals.decimal numerals.number_at numerals.is_number first_from spaced decimal digits_within digit
commands-hold = refl

-- an empty line, no number, 2^64, two spaces, a space behind, a number too few, one too many, a word more, another word, and 1,025 bytes
unreadable-hold : command_of []
    ∷ command_of clear-word
    ∷ command_of (clear-word ++ spaced (18446744073709551616 ∷ []))
    ∷ command_of (clear-word ++ (32 ∷ spaced (3 ∷ [])))
    ∷ command_of (clear-word ++ spaced (3 ∷ []) ++ (32 ∷ []))
    ∷ command_of (set_bytes ++ spaced (3 ∷ 1000 ∷ 0 ∷ 1 ∷ []))
    ∷ command_of (set_bytes ++ spaced (3 ∷ 1000 ∷ 0 ∷ 1 ∷ 2 ∷ 4 ∷ []))
    ∷ command_of (totals-word ++ (32 ∷ []))
    ∷ command_of (84 ∷ 111 ∷ 116 ∷ 97 ∷ 108 ∷ 115 ∷ [])
    ∷ command_of (replicate 1025 48)
    ∷ []
    ≡ replicate {A = Option Command} 10 None
unfolding command_of short_command says begins_with number_of is_totals set_word clear_word place_word totals_word five_numbers one_number has_form form_numbers form_end numerals.byte_at numerals.is_digit numerals.number_end numerals.decimal numerals.number_at numerals.is_number first_from spaced decimal digits_within digit
unreadable-hold = refl
