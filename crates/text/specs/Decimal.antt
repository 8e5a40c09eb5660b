-- Numbers as text: the ASCII bytes of their decimal digits, the most significant first (01:73). Definitions only.
use Rattle.std.specs.Prelude.{ℕ, zero, suc, ◌+◌, ◌/◌, ◌%◌, List, [], ◌∷◌, ◌++◌, ℤ, pos, negsuc}

-- the digit d, 0 to 9
unfoldable pub digit : ℕ → ℕ
digit d = 48 + d

-- the digits of n, none of 0, where there are at most `most`
unfoldable pub digits_within : ℕ → ℕ → List ℕ
digits_within zero n = []
digits_within (suc most) zero = []
digits_within (suc most) (suc n) = digits_within most (suc n / 10) ++ (digit (suc n % 10) ∷ [])

-- the digits of n: one of 0, and at most n of any other
unfoldable pub decimal : ℕ → List ℕ
decimal zero = digit 0 ∷ []
decimal (suc n) = digits_within (suc n) (suc n)

-- a whole number with its sign, where that is a minus
unfoldable pub signed : ℤ → List ℕ
signed (pos n) = decimal n
signed (negsuc n) = 45 ∷ decimal (suc n)
