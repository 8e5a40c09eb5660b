-- The text of an input in each of its cases. Assumes nothing.
use Prim.Native.Nat.{ℕ, ◌≤◌, ◌<◌}
use mathlib.Core.Path.{◌≡◌, ap, ◌∙◌}
use mathlib.Core.List.{List}
use borrow.Author.Tests.{lt-ltb, le-ltb, eq-eqb, ne_eqb}
use lib.ListN.{length}
use Rattle.std.specs.Prelude.{Ok, Err}
use Rattle.answers.specs.declared.Refusal.{Refusal}
use Rattle.answers.specs.Answers.{number_of, location_of}
use Rattle.certificate_calendar.specs.declared.Date.{Date}
use Rattle.certificate_cells.specs.declared.filled_cells.Cells.{Cells}
use Rattle.certificate_cells.specs.Cells.{items_of}
use Rattle.certificates.specs.Verdict.{certificates_verdict}
use Rattle.certificates.specs.Filled.{filled_cells}
use Rattle.certificates.specs.Promise.{Converted}
use Rattle.text.specs.Lines.{refusal_line, too_long}
use Rattle.text.proofs.AnswerLaws.{printed-refused, printed-accepted}
use Rattle.text_certificates.specs.CellLines.{cell_lines, unreadable_text}
use Rattle.text_certificates.specs.Texts.{unreadable_line, valuation_of, certificates_of}
use Rattle.text_certificates.specs.Printed.{input_limit, answer_text, printed_text}

-- too long, or an unreadable line
pub text-too-long : (s : List ℕ) → input_limit < length s → too_long ≡ printed_text s
unfolding printed_text
text-too-long s h = rw (lt-ltb input_limit (length s) h)

pub text-unreadable : (s : List ℕ) (line : ℕ) → length s ≤ input_limit → line ≡ unreadable_line s → (line ≡ 0 → ⊥) → unreadable_text line ≡ printed_text s
unfolding printed_text
text-unreadable s line h e n = rw (le-ltb input_limit (length s) h, ne_eqb (unreadable_line s) 0 (λ z. n (e ∙ z)), e)

-- a text whose lines all have their form
pub text-readable : (s : List ℕ) (v : Date) (c : List ℕ) → length s ≤ input_limit → unreadable_line s ≡ 0 → v ≡ valuation_of s → c ≡ certificates_of s
    → answer_text v c ≡ printed_text s
unfolding printed_text
text-readable s v c short readable date list = rw (le-ltb input_limit (length s) short, eq-eqb (unreadable_line s) 0 readable, date, list)

-- what the certificates answer
module _ (v : Date) (c : List ℕ) where
  pub answer-refused : (r : Refusal) → Converted v c (Err r) → refusal_line (number_of r) (location_of r) ≡ answer_text v c
  unfolding answer_text
  answer-refused r converted = printed-refused r (certificates_verdict v c) (cell_lines (filled_cells v c)) converted.answer-is

  pub answer-accepted : (cells : Cells) → Converted v c (Ok cells) → cell_lines (items_of cells) ≡ answer_text v c
  unfolding answer_text
  answer-accepted cells converted =
      ap cell_lines converted.cells_are ∙ printed-accepted (certificates_verdict v c) (cell_lines (filled_cells v c)) converted.answer-is
