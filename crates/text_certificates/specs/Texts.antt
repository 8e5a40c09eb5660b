-- A text of lines: the valuation date, then a certificate a line. Definitions only.
use Rattle.std.specs.Prelude.{ℕ, zero, suc, ◌+◌, ◌-◌, ◌≡◌, Bool, cond, not, List, ◌++◌, Result, Ok, Err, length, get_or, leb, ltb, eqb}
use Rattle.lists.specs.Tables.{table, joined}
use Rattle.certificate_calendar.specs.declared.Date.{Date}
use Rattle.lists.specs.Ranges.{first_from}
use Rattle.text_certificates.specs.declared.certificates_input.Unreadable.{Unreadable}
use Rattle.text_numerals.specs.Numerals.{byte_at}
use Rattle.text_numerals.specs.Forms.{has_form, form_numbers}
use Rattle.text_certificates.specs.Lines.{date_form, certificate_form}

-- the end of the line from `at` on: its line feed, or the text's end
unfoldable pub line_end : List ℕ → ℕ → ℕ
line_end s at = first_from at (length s - at) (λ (i : ℕ). eqb (byte_at s i) 10)

-- where line l begins, counted from 0
unfoldable pub line_start : List ℕ → ℕ → ℕ
line_start s zero = 0
line_start s (suc l) = line_end s (line_start s l) + 1

-- how many lines there are: the first, and each that begins before the text's end
unfoldable pub line_count : List ℕ → ℕ
line_count s = first_from 1 (length s) (λ (l : ℕ). leb (length s) (line_start s l))

-- the form of line l: the first a date, each other one a certificate
unfoldable pub line_form : ℕ → List ℕ
line_form zero = date_form
line_form (suc l) = certificate_form

unfoldable pub is_readable : List ℕ → ℕ → Bool
is_readable s l = has_form s (line_start s l) (line_form l)

-- the first line that is not of its form, counted from 0; the count of lines where there is none
unfoldable pub first_unreadable : List ℕ → ℕ
first_unreadable s = first_from 0 (line_count s) (λ (l : ℕ). not (is_readable s l))

-- the first line that is not of its form, counted from 1; 0 where there is none
unfoldable pub unreadable_line : List ℕ → ℕ
unreadable_line s = cond (ltb (first_unreadable s) (line_count s)) (suc (first_unreadable s)) 0

-- the numbers of line l
unfoldable pub line_numbers : List ℕ → ℕ → List ℕ
line_numbers s l = form_numbers s (line_start s l) (line_form l)

-- the valuation date, and the certificates' numbers, eight of each, of a text whose lines all have their form
unfoldable pub valuation_of : List ℕ → Date
valuation_of s = record { year = get_or (line_numbers s 0) 0 0; month = get_or (line_numbers s 0) 1 0; day = get_or (line_numbers s 0) 2 0 }

unfoldable pub certificates_of : List ℕ → List ℕ
certificates_of s = joined (table (line_count s - 1) (λ (k : ℕ). line_numbers s (suc k)))

-- how many certificates are read of any text: those before the first line that is not of its form
unfoldable pub read_count : List ℕ → ℕ
read_count s = first_unreadable s - 1

-- what the call promises: before and after are the numbers given at the call and at the return, and r is its answer. It is the valuation date, or the first
-- line that is not of its form; the numbers of the certificates that are read stand behind those given
pub record TextRead (s before after : List ℕ) (r : Result Date Unreadable) : Type 0 where
  pub result-is : r ≡ cond (eqb (unreadable_line s) 0) (Ok (valuation_of s)) (Err (record { line = unreadable_line s }))
  pub numbers-are : after ≡ before ++ joined (table (read_count s) (λ (k : ℕ). line_numbers s (suc k)))
