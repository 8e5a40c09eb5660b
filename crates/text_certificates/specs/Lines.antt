-- The lines of a text by their separators. Definitions only.
use Rattle.std.specs.Prelude.{ℕ, List, [], ◌∷◌}

-- YEAR-MONTH-DAY and the line feed
unfoldable pub date_form : List ℕ
date_form = 45 ∷ 45 ∷ 10 ∷ []

-- YEAR-MONTH-DAY YEAR-MONTH-DAY BALANCE COUPON and the line feed
unfoldable pub certificate_form : List ℕ
certificate_form = 45 ∷ 45 ∷ 32 ∷ 45 ∷ 45 ∷ 32 ∷ 32 ∷ 10 ∷ []
