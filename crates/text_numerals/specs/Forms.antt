-- The form of a line: numbers, each followed by its separator. Definitions only.
use Rattle.std.specs.Prelude.{ℕ, ◌+◌, Bool, true, ◌&&◌, List, [], ◌∷◌, eqb}
use Rattle.text_numerals.specs.Numerals.{byte_at, number_end, number_at, is_number}

-- from `at` on stand numbers, each followed by its separator
unfoldable pub has_form : List ℕ → ℕ → List ℕ → Bool
has_form s at [] = true
has_form s at (x ∷ xs) = (is_number s at && eqb (byte_at s (number_end s at)) x) && has_form s (number_end s at + 1) xs

-- these numbers, and the index behind the last separator
unfoldable pub form_numbers : List ℕ → ℕ → List ℕ → List ℕ
form_numbers s at [] = []
form_numbers s at (x ∷ xs) = number_at s at ∷ form_numbers s (number_end s at + 1) xs

unfoldable pub form_end : List ℕ → ℕ → List ℕ → ℕ
form_end s at [] = at
form_end s at (x ∷ xs) = form_end s (number_end s at + 1) xs
