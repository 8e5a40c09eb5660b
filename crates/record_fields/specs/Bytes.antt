-- Numbers in bytes: unsigned, little-endian (01:6). A read past the end gives 0. Definitions only.
use Rattle.std.specs.Prelude.{ℕ, zero, suc, ◌+◌, ◌*◌, List, get_or}

-- the number that the n bytes from index i on spell
unfoldable pub number_at : List ℕ → ℕ → ℕ → ℕ
number_at s i zero = 0
number_at s i (suc n) = get_or s i 0 + 256 * number_at s (i + 1) n
