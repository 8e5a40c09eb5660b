-- What a line asks of a book (02:CR 7): `set PLACE BALANCE COUPON MONTHS PENALTY`, `clear PLACE`, `place PLACE`, `totals`, in ASCII bytes; any other
-- line is unreadable. Numbers are whole, decimal and below 2^64, with single spaces. Definitions only.
use Rattle.std.specs.Prelude.{ℕ, ◌+◌, Bool, true, cond, ◌&&◌, List, [], ◌∷◌, Option, None, Some, eqb, ltb, length, get_or}
use Rattle.text_numerals.specs.Numerals.{byte_at}
use Rattle.text_numerals.specs.Forms.{has_form, form_numbers, form_end}
use Rattle.text_book.specs.declared.book_commands.Command.{Command}
use Rattle.text_book.specs.declared.book_commands.Command.TheVariants.{Set, Clear, Place, Totals}

-- the most bytes that a line may have
abbrev pub line_limit : ℕ
line_limit = 1024

-- `set `, `clear `, `place ` and `totals`
unfoldable pub set_word : List ℕ
set_word = 115 ∷ 101 ∷ 116 ∷ 32 ∷ []

unfoldable pub clear_word : List ℕ
clear_word = 99 ∷ 108 ∷ 101 ∷ 97 ∷ 114 ∷ 32 ∷ []

unfoldable pub place_word : List ℕ
place_word = 112 ∷ 108 ∷ 97 ∷ 99 ∷ 101 ∷ 32 ∷ []

unfoldable pub totals_word : List ℕ
totals_word = 116 ∷ 111 ∷ 116 ∷ 97 ∷ 108 ∷ 115 ∷ []

-- what stands behind each number: a space, and behind the last the line's end, where a line feed is read
unfoldable pub five_numbers : List ℕ
five_numbers = 32 ∷ 32 ∷ 32 ∷ 32 ∷ 10 ∷ []

unfoldable pub one_number : List ℕ
one_number = 10 ∷ []

-- from `at` on stands the word
unfoldable pub begins_with : List ℕ → ℕ → List ℕ → Bool
begins_with s at [] = true
begins_with s at (x ∷ xs) = eqb (byte_at s at) x && begins_with s (at + 1) xs

-- the line is a word and numbers, and nothing behind them
unfoldable pub says : List ℕ → List ℕ → List ℕ → Bool
says s word form = begins_with s 0 word && (has_form s (length word) form && ltb (length s) (form_end s (length word) form))

-- number i behind the word
unfoldable pub number_of : List ℕ → List ℕ → List ℕ → ℕ → ℕ
number_of s word form i = get_or (form_numbers s (length word) form) i 0

unfoldable pub is_totals : List ℕ → Bool
is_totals s = eqb (length s) 6 && begins_with s 0 totals_word

-- the command of a line without its line feed, where it says one
unfoldable pub short_command : List ℕ → Option Command
short_command s =
    cond (says s set_word five_numbers) (Some (Set (set_number 0) (set_number 1) (set_number 2) (set_number 3) (set_number 4)))
    (cond (says s clear_word one_number) (Some (Clear (number_of s clear_word one_number 0)))
    (cond (says s place_word one_number) (Some (Place (number_of s place_word one_number 0)))
    (cond (is_totals s) (Some Totals) None)))
  where
    set_number : ℕ → ℕ
    set_number i = number_of s set_word five_numbers i

unfoldable pub command_of : List ℕ → Option Command
command_of s = cond (ltb line_limit (length s)) None (short_command s)
