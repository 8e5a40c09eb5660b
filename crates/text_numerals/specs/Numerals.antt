-- Whole decimal numbers in a text. Definitions only.
use Rattle.std.specs.Prelude.{ℕ, zero, suc, ◌+◌, ◌*◌, ◌-◌, ◌^◌, Bool, not, ◌&&◌, List, length, get_or, leb, ltb}
use Rattle.lists.specs.Ranges.{first_from}

-- the byte at an index; past the end a line feed, which the last line may lack
unfoldable pub byte_at : List ℕ → ℕ → ℕ
byte_at s i = get_or s i 10

-- 0 to 9
unfoldable pub is_digit : ℕ → Bool
is_digit b = leb 48 b && leb b 57

-- the first index from `at` on where no digit stands
unfoldable pub number_end : List ℕ → ℕ → ℕ
number_end s at = first_from at (length s - at) (λ (i : ℕ). not (is_digit (byte_at s i)))

-- the value of n digits from `at` on
unfoldable pub decimal : List ℕ → ℕ → ℕ → ℕ
decimal s at zero = 0
decimal s at (suc n) = 10 * decimal s at n + (byte_at s (at + n) - 48)

-- the number at an index, and whether one below 2^64 stands there
unfoldable pub number_at : List ℕ → ℕ → ℕ
number_at s at = decimal s at (number_end s at - at)

unfoldable pub is_number : List ℕ → ℕ → Bool
is_number s at = ltb at (number_end s at) && ltb (number_at s at) (2 ^ 64)
