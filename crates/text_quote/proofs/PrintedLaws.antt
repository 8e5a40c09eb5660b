-- The text of an input in each of its cases. Assumes nothing.
use Prim.Native.Nat.{ℕ, ◌%◌, ◌≤◌, ◌<◌}
use mathlib.Core.Path.{◌≡◌, sym, ap, ◌∙◌}
use mathlib.Core.List.{List}
use borrow.Author.Tests.{lt-ltb, le-ltb, eq-eqb, ne_eqb}
use lib.ListN.{length}
use Rattle.answers.specs.declared.Refusal.{Refusal}
use Rattle.answers.specs.Answers.{number_of, location_of}
use Rattle.quote_prices.specs.declared.PriceLine.{PriceLine}
use Rattle.quote_lines.specs.declared.Reply.{Reply}
use Rattle.quote_lines.specs.Faults.{lines_verdict}
use Rattle.quote_lines.specs.Replies.{reply_of}
use Rattle.quote_lines.specs.Promise.{QuotedAs}
use Rattle.text.specs.Lines.{refusal_line, filing_limit, unreadable_line, too_long}
use Rattle.text.proofs.AnswerLaws.{printed-refused, printed-accepted}
use Rattle.std.specs.Prelude.{None, Some, Ok, Err}
use Rattle.text_quote.specs.LineBytes.{line_bytes}
use Rattle.text_quote.specs.Arguments.{argument_of}
use Rattle.text_quote.specs.ReplyLines.{reply_line, quoted_line}
use Rattle.text_quote.specs.Printed.{answer_text, asked_text, printed_text}

-- what lines reply, or their refusal
module _ (lines : List PriceLine) (month scenario : ℕ) where
  pub line-refused : (r : Refusal) → QuotedAs lines month scenario (Err r)
      → refusal_line (number_of r) (location_of r) ≡ quoted_line (lines_verdict lines) (reply_of lines month scenario)
  unfolding quoted_line
  line-refused r p = printed-refused r (lines_verdict lines) (reply_line (reply_of lines month scenario)) p.answer-is

  pub line-replied : (reply : Reply) → QuotedAs lines month scenario (Ok reply)
      → reply_line reply ≡ quoted_line (lines_verdict lines) (reply_of lines month scenario)
  unfolding quoted_line
  line-replied reply p =
      ap reply_line p.reply-is ∙ printed-accepted (lines_verdict lines) (reply_line (reply_of lines month scenario)) p.answer-is

module _ (s month scenario : List ℕ) where
  pub text-too-long : filing_limit < length s → too_long ≡ printed_text s month scenario
  unfolding printed_text
  text-too-long h = rw (lt-ltb filing_limit (length s) h)

  module _ (short : length s ≤ filing_limit) where
    -- no whole number of lines
    pub text-broken : (length s % line_bytes ≡ 0 → ⊥) → unreadable_line ≡ printed_text s month scenario
    unfolding printed_text
    text-broken n = rw (le-ltb filing_limit (length s) short, ne_eqb (length s % line_bytes) 0 n)

    module _ (full : length s % line_bytes ≡ 0) where
      asked_is : asked_text s (argument_of month) (argument_of scenario) ≡ printed_text s month scenario
      unfolding printed_text
      asked_is = rw (le-ltb filing_limit (length s) short, eq-eqb (length s % line_bytes) 0 full)

      -- an argument that is no number, and two numbers
      pub text-no-month : argument_of month ≡ None → unreadable_line ≡ printed_text s month scenario
      unfolding asked_text
      text-no-month e = sym (rw e) ∙ asked_is

      pub text-no-scenario : (m : ℕ) → argument_of month ≡ Some m → argument_of scenario ≡ None → unreadable_line ≡ printed_text s month scenario
      unfolding asked_text
      text-no-scenario m e f = sym (rw (e, f)) ∙ asked_is

      pub text-asked : (m k : ℕ) → argument_of month ≡ Some m → argument_of scenario ≡ Some k → answer_text s m k ≡ printed_text s month scenario
      unfolding asked_text
      text-asked m k e f = sym (rw (e, f)) ∙ asked_is
