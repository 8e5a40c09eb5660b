-- The lines that the program prints (02:CR 12), as ASCII bytes. Definitions only.
use Rattle.std.specs.Prelude.{ℕ, zero, suc, ◌+◌, ◌*◌, ◌/◌, ◌%◌, ◌^◌, cond, List, [], ◌∷◌, ◌++◌, eqb, ltb, Float}
use Rattle.std.specs.Float.{binary64}
use Rattle.std.specs.Float.Ieee.{to_bits}
use Rattle.answers.specs.Verdict.{Verdict}
use Rattle.text.specs.Lines.{refusal_line}
use Rattle.quote_lines.specs.declared.Reply.{Reply}
use Rattle.quote_lines.specs.declared.Reply.TheVariants.{Listed, Between, Outside}

-- 0 to 9, a to f
unfoldable pub hex_digit : ℕ → ℕ
hex_digit d = cond (ltb d 10) (48 + d) (87 + d)

-- the last `places` hexadecimal digits of n, the most significant first
unfoldable pub hexadecimal : ℕ → ℕ → List ℕ
hexadecimal zero n = []
hexadecimal (suc places) n = hex_digit (n / 2 ^ (4 * places) % 16) ∷ hexadecimal places n

-- `listed `, `between ` and `outside`
unfoldable pub listed_word : List ℕ
listed_word = 108 ∷ 105 ∷ 115 ∷ 116 ∷ 101 ∷ 100 ∷ 32 ∷ []

unfoldable pub between_word : List ℕ
between_word = 98 ∷ 101 ∷ 116 ∷ 119 ∷ 101 ∷ 101 ∷ 110 ∷ 32 ∷ []

unfoldable pub outside_word : List ℕ
outside_word = 111 ∷ 117 ∷ 116 ∷ 115 ∷ 105 ∷ 100 ∷ 101 ∷ []

-- a word and the bits of a price, as sixteen digits
unfoldable pub price_line : List ℕ → Float → List ℕ
price_line word price = word ++ (hexadecimal 16 (to_bits binary64 price) ++ (10 ∷ []))

unfoldable pub reply_line : Reply → List ℕ
reply_line (Listed price) = price_line listed_word price
reply_line (Between price) = price_line between_word price
reply_line Outside = outside_word ++ (10 ∷ [])

-- the line of the refusal, or of the reply
unfoldable pub quoted_line : Verdict → Reply → List ℕ
quoted_line v reply = cond (eqb v.number 0) (reply_line reply) (refusal_line v.number v.location)
