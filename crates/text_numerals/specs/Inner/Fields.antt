-- Numbers and lines as the code reads them. Definitions only.
use Rattle.std.specs.Prelude.{ℕ, ◌+◌, ◌-◌, ◌^◌, cond, ◌&&◌, List, ◌++◌, Option, None, Some, length, replicate, ltb, eqb}
use Rattle.text_numerals.specs.declared.fields.Field.{Field}
use Rattle.text_numerals.specs.declared.Line.{Line}
use Rattle.text_numerals.specs.Numerals.{byte_at, number_end, decimal, number_at, is_number}
use Rattle.text_numerals.specs.Forms.{has_form, form_numbers, form_end}

-- the value of the digits from `at` to `end`, where it is below 2^64
unfoldable pub whole_of : List ℕ → ℕ → ℕ → Option ℕ
whole_of s at end = cond (ltb (decimal s at (end - at)) (2 ^ 64)) (Some (decimal s at (end - at))) None

-- the number at an index with its separator
unfoldable pub field_at : List ℕ → ℕ → ℕ → Option Field
field_at s at separator =
    cond (is_number s at && eqb (byte_at s (number_end s at)) separator)
    (Some (record { value = number_at s at; next = number_end s at + 1 }))
    None

-- the line from an index on, by its separators, with its numbers in eight entries
unfoldable pub line_at : List ℕ → ℕ → List ℕ → Option Line
line_at s at form =
    cond (has_form s at form)
    (Some (record { next = form_end s at form; numbers = form_numbers s at form ++ replicate (8 - length form) 0 }))
    None
