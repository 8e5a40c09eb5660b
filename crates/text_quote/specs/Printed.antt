-- The text that the program prints (02:CR 12) of its input and its two arguments. Definitions only.
use Rattle.std.specs.Prelude.{ℕ, ◌%◌, cond, List, Option, None, Some, ltb, eqb, length}
use Rattle.quote_lines.specs.Faults.{lines_verdict}
use Rattle.quote_lines.specs.Replies.{reply_of}
use Rattle.text.specs.Lines.{filing_limit, unreadable_line, too_long}
use Rattle.text_quote.specs.LineBytes.{line_bytes, lines_in}
use Rattle.text_quote.specs.Arguments.{argument_of}
use Rattle.text_quote.specs.ReplyLines.{quoted_line}

-- what the lines in the bytes reply to a month and a scenario, or 21
unfoldable pub answer_text : List ℕ → ℕ → ℕ → List ℕ
answer_text s month scenario = quoted_line (lines_verdict (lines_in s)) (reply_of (lines_in s) month scenario)

-- the same for two arguments, where both are numbers
unfoldable pub asked_text : List ℕ → Option ℕ → Option ℕ → List ℕ
asked_text s (Some month) (Some scenario) = answer_text s month scenario
asked_text s (Some month) None = unreadable_line
asked_text s None scenario = unreadable_line

-- too long an input; an input that is no whole number of lines; the answer
unfoldable pub printed_text : List ℕ → List ℕ → List ℕ → List ℕ
printed_text s month scenario =
    cond (ltb filing_limit (length s)) too_long
    (cond (eqb (length s % line_bytes) 0) (asked_text s (argument_of month) (argument_of scenario)) unreadable_line)
