-- The numbers behind a word of a line, as the code reads them. Definitions only.
use Rattle.std.specs.Prelude.{ℕ, ◌-◌, cond, List, ◌++◌, Option, None, Some, length, replicate}
use Rattle.text_numerals.specs.Forms.{form_numbers}
use Rattle.text_book.specs.Commands.{says}

-- the numbers of the form in eight places, where the line is the word and these
unfoldable pub numbers_said : List ℕ → List ℕ → List ℕ → Option (List ℕ)
numbers_said s word form = cond (says s word form) (Some (form_numbers s (length word) form ++ replicate (8 - length form) 0)) None
