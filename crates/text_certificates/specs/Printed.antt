-- The text that the program prints (02:CR 5), as ASCII bytes: a line for each cell, the line of a refusal, of an unreadable line, or `too long`.
-- Definitions only.
use Rattle.std.specs.Prelude.{ℕ, cond, List, length, ltb, eqb}
use Rattle.certificate_calendar.specs.declared.Date.{Date}
use Rattle.certificates.specs.Verdict.{certificates_verdict}
use Rattle.certificates.specs.Filled.{filled_cells}
use Rattle.text.specs.Lines.{refusal_line, too_long}
use Rattle.text_certificates.specs.CellLines.{cell_lines, unreadable_text}
use Rattle.text_certificates.specs.Texts.{unreadable_line, valuation_of, certificates_of}

-- the most bytes that an input may have
abbrev pub input_limit : ℕ
input_limit = 131072

-- the cells that the certificates fill, or the refusal
unfoldable pub answer_text : Date → List ℕ → List ℕ
answer_text valuation s =
    cond (eqb (certificates_verdict valuation s).number 0) (cell_lines (filled_cells valuation s))
    (refusal_line (certificates_verdict valuation s).number (certificates_verdict valuation s).location)

-- the text of any input
unfoldable pub printed_text : List ℕ → List ℕ
printed_text s =
    cond (ltb input_limit (length s)) too_long
    (cond (eqb (unreadable_line s) 0) (answer_text (valuation_of s) (certificates_of s)) (unreadable_text (unreadable_line s)))
