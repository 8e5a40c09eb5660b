-- What the call on price lines promises from C: that of `quote`, with the reply as plain numbers (02:CR 12). Definitions only.
use Rattle.std.specs.Prelude.{ℕ, ◌≡◌, cond, List, eqb, Float}
use Rattle.answers.specs.Verdict.{Verdict}
use Rattle.quote_lines.specs.declared.Reply.{Reply}
use Rattle.quote_lines.specs.Lines.{lines_of}
use Rattle.quote_lines.specs.Faults.{lines_verdict}
use Rattle.quote_lines.specs.Replies.{reply_of, reply_number, reply_price}

abbrev pub verdict_on : List ℕ → List Float → Verdict
verdict_on months prices = lines_verdict (lines_of months prices)

abbrev pub reply_to : List ℕ → List Float → ℕ → ℕ → Reply
reply_to months prices month scenario = reply_of (lines_of months prices) month scenario

-- before and after are the lent price at the call and at the return
pub record PricedForC (months : List ℕ) (prices : List Float) (month scenario : ℕ) (before : Float) (number location : ℕ) (after : Float) : Type 0 where
  -- the refusal's number, 21, or that of the reply
  pub number_is : number
      ≡ cond (eqb (verdict_on months prices).number 0) (reply_number (reply_to months prices month scenario)) (verdict_on months prices).number
  -- the faulty line's index, 0 where none is
  pub location-is : location ≡ (verdict_on months prices).location
  -- a refusal leaves the price
  pub price-is : after ≡ cond (eqb (verdict_on months prices).number 0) (reply_price (reply_to months prices month scenario) before) before
