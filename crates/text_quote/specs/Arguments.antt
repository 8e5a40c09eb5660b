-- The arguments of the program (02:CR 12): a month and a scenario, each a whole decimal number below 2^64 and nothing behind it. Definitions only.
use Rattle.std.specs.Prelude.{ℕ, cond, ◌&&◌, List, Option, None, Some, eqb, length}
use Rattle.text_numerals.specs.Numerals.{number_end, number_at, is_number}

-- the number that an argument is, where it is one
unfoldable pub argument_of : List ℕ → Option ℕ
argument_of s = cond (is_number s 0 && eqb (number_end s 0) (length s)) (Some (number_at s 0)) None
