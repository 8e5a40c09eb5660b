-- What a query promises (02:CR 12), for any list of lines, any month and any scenario. Definitions only.
use Rattle.std.specs.Prelude.{ℕ, ◌≡◌, Bool, true, not, List, Result, IfOk}
use Rattle.answers.specs.declared.Refusal.{Refusal}
use Rattle.answers.specs.Answers.{verdict_of}
use Rattle.quote_prices.specs.declared.PriceLine.{PriceLine}
use Rattle.quote_prices.specs.PriceLines.{faulty_price}
use Rattle.quote_lines.specs.declared.Reply.{Reply}
use Rattle.quote_lines.specs.declared.Reply.TheVariants.{Listed, Between, Outside}
use Rattle.quote_lines.specs.Faults.{lines_verdict}
use Rattle.quote_lines.specs.Replies.{reply_of}

-- a price of the reply is a number above 0 and at most 1,000
unfoldable pub sound_reply : Reply → Bool
sound_reply (Listed price) = not (faulty_price price)
sound_reply (Between price) = not (faulty_price price)
sound_reply Outside = true

pub record QuotedAs (lines : List PriceLine) (month scenario : ℕ) (r : Result Reply Refusal) : Type 0 where
  -- 21 at the first faulty line, or acceptance
  pub answer-is : verdict_of r ≡ lines_verdict lines
  -- what the lines reply; nothing where they are refused
  pub reply-is : IfOk r (λ reply. reply ≡ reply_of lines month scenario)
  pub price-is : IfOk r (λ reply. sound_reply reply ≡ true)
