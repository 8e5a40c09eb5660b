-- Closed cases of the lines, so that a wrong clause of a definition breaks a case. Each is computed. Assumes nothing.
use mathlib.Core.Path.{◌≡◌, refl}
use mathlib.Core.List.{[], ◌∷◌}
use Rattle.text.specs.Decimal.{digit, digits_within, decimal, signed}
use Rattle.text.specs.Lines.{spaced, rest_of_line, refused_word, refusal_line}
use Rattle.text_listing.specs.TotalLines.{shift}

-- 0
zero_is : decimal 0 ≡ 48 ∷ []
unfolding decimal digits_within digit
zero_is = refl

-- 10
ten-is : decimal 10 ≡ 49 ∷ 48 ∷ []
unfolding decimal digits_within digit
ten-is = refl

-- 18446744073709551615
largest-is : decimal 18446744073709551615
    ≡ 49 ∷ 56 ∷ 52 ∷ 52 ∷ 54 ∷ 55 ∷ 52 ∷ 52 ∷ 48 ∷ 55 ∷ 51 ∷ 55 ∷ 48 ∷ 57 ∷ 53 ∷ 53 ∷ 49 ∷ 54 ∷ 49 ∷ 53 ∷ []
unfolding decimal digits_within digit
largest-is = refl

-- -300
lowest-shift : signed (shift 0) ≡ 45 ∷ 51 ∷ 48 ∷ 48 ∷ []
unfolding shift signed decimal digits_within digit
lowest-shift = refl

-- 0
middle-shift : signed (shift 3) ≡ 48 ∷ []
unfolding shift signed decimal digits_within digit
middle-shift = refl

-- 300
highest-shift : signed (shift 6) ≡ 51 ∷ 48 ∷ 48 ∷ []
unfolding shift signed decimal digits_within digit
highest-shift = refl

-- the rest of a line: 7, 10
numbers-are : rest_of_line (7 ∷ 10 ∷ []) ≡ 32 ∷ 55 ∷ 32 ∷ 49 ∷ 48 ∷ 10 ∷ []
unfolding rest_of_line spaced decimal digits_within digit
numbers-are = refl

-- refused 9 645
refusal_is : refusal_line 9 645 ≡ 114 ∷ 101 ∷ 102 ∷ 117 ∷ 115 ∷ 101 ∷ 100 ∷ 32 ∷ 57 ∷ 32 ∷ 54 ∷ 52 ∷ 53 ∷ 10 ∷ []
unfolding refusal_line refused_word rest_of_line spaced decimal digits_within digit
refusal_is = refl
