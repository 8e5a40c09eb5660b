-- What accepted lines reply (02:CR 12), case by case: each listed month, each month between two lines, and every other month. Definitions only.
use Rattle.std.specs.Prelude.{ℕ, suc, ◌≤◌, ◌<◌, ◌≡◌, List, T, length}
use Rattle.std.specs.Float.{binary64}
use Rattle.std.specs.Float.Ieee.{fits}
use Rattle.form.specs.Shift.{scenario_count}
use Rattle.quote_prices.specs.declared.PriceLine.{PriceLine}
use Rattle.quote_prices.specs.PriceLines.{price_in}
use Rattle.quote_prices.specs.Interpolation.{price_between}
use Rattle.quote_prices.specs.Neighbours.{BetweenPrices}
use Rattle.quote_lines.specs.declared.Reply.TheVariants.{Listed, Between, Outside}
use Rattle.quote_lines.specs.Lines.{line_at, months_at}
use Rattle.quote_lines.specs.Replies.{reply_of}

-- months in 2 bytes, and prices in 64-bit floats
pub record InFormat (lines : List PriceLine) : Type 0 where
  pub months-fit : (i : ℕ) → i < length lines → months_at lines i ≤ 65535
  pub prices-fit : (i scenario : ℕ) → i < length lines → scenario < scenario_count → T (fits binary64 (price_in (line_at lines i) scenario))

pub record AcceptedReplies (lines : List PriceLine) : Type 0 where
  -- a listed month: that line's price, bit for bit
  pub listed : (i scenario : ℕ) → i < length lines → scenario < scenario_count
      → reply_of lines (months_at lines i) scenario ≡ Listed (price_in (line_at lines i) scenario)
  -- a month between a line and the next: the price between them, which is not outside their prices
  pub between : (i month scenario : ℕ) → suc i < length lines → months_at lines i < month → month < months_at lines (suc i) → scenario < scenario_count
      → reply_of lines month scenario ≡ Between (price_between (line_at lines i) (line_at lines (suc i)) month scenario)
  pub neighbours : (i month scenario : ℕ) → suc i < length lines → months_at lines i < month → month < months_at lines (suc i) → scenario < scenario_count
      → BetweenPrices (price_in (line_at lines i) scenario) (price_in (line_at lines (suc i)) scenario)
      (price_between (line_at lines i) (line_at lines (suc i)) month scenario)
  -- a month before the first line or behind the last one, and a scenario above 6: outside
  pub before : (month scenario : ℕ) → month < months_at lines 0 → reply_of lines month scenario ≡ Outside
  pub behind : (month scenario : ℕ) → ((i : ℕ) → i < length lines → months_at lines i < month) → reply_of lines month scenario ≡ Outside
  pub no-scenario : (month scenario : ℕ) → scenario_count ≤ scenario → reply_of lines month scenario ≡ Outside
