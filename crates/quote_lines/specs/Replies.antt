-- What a list of lines replies to a month and a scenario (02:CR 12): a listed price, a price between, or outside. Definitions only.
use Rattle.std.specs.Prelude.{ℕ, zero, suc, cond, List, leb, eqb, Float, length}
use Rattle.lists.specs.Ranges.{first_from}
use Rattle.form.specs.Shift.{scenario_count}
use Rattle.quote_prices.specs.declared.PriceLine.{PriceLine}
use Rattle.quote_prices.specs.PriceLines.{price_in}
use Rattle.quote_prices.specs.Interpolation.{price_between}
use Rattle.quote_lines.specs.declared.Reply.{Reply}
use Rattle.quote_lines.specs.declared.Reply.TheVariants.{Listed, Between, Outside}
use Rattle.quote_lines.specs.Lines.{line_at, months_at}

-- the first line whose months are at least the month; the count of lines where there is none
unfoldable pub reached_line : List PriceLine → ℕ → ℕ
reached_line lines month = first_from 0 (length lines) (λ (i : ℕ). leb month (months_at lines i))

-- a month short of line i and past the line before it: the price between the two. Short of the first line it is outside
unfoldable pub reply_short : List PriceLine → ℕ → ℕ → ℕ → Reply
reply_short lines month scenario zero = Outside
reply_short lines month scenario (suc i) = Between (price_between (line_at lines i) (line_at lines (suc i)) month scenario)

-- the reply by that line: its own price where it lists the month; outside where all lines are short of the month
unfoldable pub reply_at : List PriceLine → ℕ → ℕ → ℕ → Reply
reply_at lines month scenario i =
    cond (leb (length lines) i) Outside
    (cond (eqb (months_at lines i) month) (Listed (price_in (line_at lines i) scenario)) (reply_short lines month scenario i))

-- the reply of the lines: outside for a scenario above 6
unfoldable pub reply_of : List PriceLine → ℕ → ℕ → Reply
reply_of lines month scenario = cond (leb scenario_count scenario) Outside (reply_at lines month scenario (reached_line lines month))

-- each case of a reply as a number, 0 listed, 1 between, 2 outside; and its price, or what stands there without one
unfoldable pub reply_number : Reply → ℕ
reply_number (Listed price) = 0
reply_number (Between price) = 1
reply_number Outside = 2

unfoldable pub reply_price : Reply → Float → Float
reply_price (Listed price) without = price
reply_price (Between price) without = price
reply_price Outside without = without
