-- The text that the listing prints of a filing, as ASCII bytes (01:73-84): a line for each scenario, or the line of the refusal, or `too long`.
-- Totals in dollars, shifts in hundredths of a percent a year. Definitions only.
use Rattle.std.specs.Prelude.{ℕ, cond, List, ◌++◌, ltb, eqb, length}
use Rattle.lists.specs.Tables.{table, joined}
use Rattle.form.specs.Shift.{scenario_count}
use Rattle.answers.specs.Verdict.{Verdict}
use Rattle.filing_contents.specs.Contents.{Contents}
use Rattle.filing_decode.specs.Contents.{contents_of}
use Rattle.filing.specs.Verdict.{filing_verdict}
use Rattle.value_numbers.specs.Numbers.{scenario_totals}
use Rattle.text.specs.Decimal.{signed}
use Rattle.text.specs.Lines.{filing_limit, rest_of_line, refusal_line, too_long}
use Rattle.text_listing.specs.TotalLines.{shift}

-- the line of a scenario: shift, short lower, short upper, long lower, long upper
unfoldable pub scenario_line : Contents → ℕ → List ℕ
scenario_line k scenario = signed (shift scenario) ++ rest_of_line (scenario_totals k scenario)

-- the lines of the seven scenarios
unfoldable pub scenario_lines : Contents → List ℕ
scenario_lines k = joined (table scenario_count (scenario_line k))

-- the text of a verdict: the lines of an accepted filing, else the line of the refusal
unfoldable pub verdict_text : List ℕ → Verdict → List ℕ
verdict_text lines v = cond (eqb v.number 0) lines (refusal_line v.number v.location)

-- the text of any input, by the lines of what an accepted filing says
unfoldable pub filing_text : (Contents → List ℕ) → List ℕ → List ℕ
filing_text lines s = cond (ltb filing_limit (length s)) too_long (verdict_text (lines (contents_of s)) (filing_verdict s))

-- the text that the listing prints of any input
unfoldable pub listing_text : List ℕ → List ℕ
listing_text s = filing_text scenario_lines s
