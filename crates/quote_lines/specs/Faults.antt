-- 21 (02:CR 12), at the first faulty line's index from 0: months that do not rise, a faulty price, or a 65th line. Definitions only.
use Rattle.std.specs.Prelude.{ℕ, zero, suc, Bool, false, ◌||◌, List, leb, length}
use Rattle.lists.specs.Tables.{table}
use Rattle.answers.specs.Verdict.{Verdict, refused_if, first_of}
use Rattle.quote_prices.specs.declared.PriceLine.{PriceLine}
use Rattle.quote_prices.specs.PriceLines.{faulty_prices}
use Rattle.quote_lines.specs.Lines.{line_at, months_at}

-- the most lines that a list may have
abbrev pub line_limit : ℕ
line_limit = 64

-- line i has no more months than the line before it
unfoldable pub not_rising : List PriceLine → ℕ → Bool
not_rising lines zero = false
not_rising lines (suc i) = leb (months_at lines (suc i)) (months_at lines i)

-- line i is faulty
unfoldable pub faulty_line : List PriceLine → ℕ → Bool
faulty_line lines i = leb line_limit i || (not_rising lines i || faulty_prices (line_at lines i))

unfoldable pub line_verdict : List PriceLine → ℕ → Verdict
line_verdict lines i = refused_if (faulty_line lines i) 21 i

-- the lines in turn
unfoldable pub lines_verdict : List PriceLine → Verdict
lines_verdict lines = first_of (table (length lines) (line_verdict lines))
