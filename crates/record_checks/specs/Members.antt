-- A set of numbers as words of 64 bits. Definitions only.
use Rattle.std.specs.Prelude.{ℕ, ◌/◌, ◌%◌, ◌^◌, Bool, List, eqb, get_or, set}
use Rattle.std.specs.Int.Bits.{bit_or}

-- the k-th bit of a word, from the least
unfoldable pub bit : ℕ → ℕ → Bool
bit word k = eqb (word / 2 ^ k % 2) 1

-- the number is in the set
unfoldable pub member : List ℕ → ℕ → Bool
member words n = bit (get_or words (n / 64) 0) (n % 64)

-- the set with a number put into it
unfoldable pub with_member : List ℕ → ℕ → List ℕ
with_member words n = set words (n / 64) (bit_or (get_or words (n / 64) 0) (2 ^ (n % 64)))
