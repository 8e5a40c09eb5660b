-- Lines of numbers as ASCII bytes, each ended by one line feed (01:73-84). Definitions only.
use Rattle.std.specs.Prelude.{ℕ, List, [], ◌∷◌, ◌++◌}
use Rattle.text.specs.Decimal.{decimal}

-- the numbers, each behind a space
unfoldable pub spaced : List ℕ → List ℕ
spaced [] = []
spaced (n ∷ ns) = (32 ∷ decimal n) ++ spaced ns

-- the rest of a line: numbers, each behind a space, and the line feed
unfoldable pub rest_of_line : List ℕ → List ℕ
rest_of_line ns = spaced ns ++ (10 ∷ [])

-- the word `refused`
unfoldable pub refused_word : List ℕ
refused_word = 114 ∷ 101 ∷ 102 ∷ 117 ∷ 115 ∷ 101 ∷ 100 ∷ []

-- the line of a refusal: `refused`, number and location
unfoldable pub refusal_line : ℕ → ℕ → List ℕ
refusal_line number location = refused_word ++ rest_of_line (number ∷ location ∷ [])

-- the word `unreadable`
unfoldable pub unreadable_word : List ℕ
unreadable_word = 117 ∷ 110 ∷ 114 ∷ 101 ∷ 97 ∷ 100 ∷ 97 ∷ 98 ∷ 108 ∷ 101 ∷ []

-- the line `unreadable`
unfoldable pub unreadable_line : List ℕ
unreadable_line = unreadable_word ++ (10 ∷ [])

-- the most bytes that a filing may have
abbrev pub filing_limit : ℕ
filing_limit = 65536

-- the line `too long`
unfoldable pub too_long : List ℕ
too_long = 116 ∷ 111 ∷ 111 ∷ 32 ∷ 108 ∷ 111 ∷ 110 ∷ 103 ∷ 10 ∷ []
