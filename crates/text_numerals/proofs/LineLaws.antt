-- Numbers with their separators, and lines of them, step by step. Assumes nothing.
use Prim.Native.Nat.{ℕ, suc, ◌+◌, ◌-◌, ◌^◌, ◌≤◌, ◌<◌}
use native.Mathlib.Numerals.{add-one}
use native.Mathlib.Omega.{arith}
use mathlib.Core.Path.{◌≡◌, refl, sym, ap, ◌∙◌}
use mathlib.Core.Bool.{Bool, true, false, cond, ◌&&◌, and-false}
use mathlib.Core.List.{List, [], ◌∷◌, ◌++◌, append-nil}
use borrow.Author.Tests.{lt-ltb, le-ltb, eq-eqb, ne_eqb}
use lib.Dec.{ltb, eqb}
use lib.ListN.{length, get_or, drop, set, replicate, length-append, drop_of_length-le}
use lib.Seq.{drop-cons, set_at, append_snoc}
use Rattle.std.specs.Prelude.{Option, None, Some}
use Rattle.text_numerals.specs.declared.fields.Field.{Field}
use Rattle.text_numerals.specs.declared.Line.{Line}
use Rattle.text_numerals.specs.Numerals.{byte_at, number_end, decimal, number_at, is_number}
use Rattle.text_numerals.specs.Forms.{has_form, form_numbers, form_end}
use Rattle.text_numerals.specs.Inner.Fields.{whole_of, field_at, line_at}

-- what an optional value tells of its test
module _ {A : Type 0} where
  some-cases : (v w : A) (b : Bool) → cond b (Some v) None ≡ Some w → (b ≡ true) × (v ≡ w)
  some-cases v w true h = (refl, cc)
  some-cases v w false h = let z : ◌≡◌ {A = Option A} None (Some w) = h in absurd (cc)

  none-cases : (v : A) (b : Bool) → cond b (Some v) None ≡ None → b ≡ false
  none-cases v false h = refl
  none-cases v true h = let z : ◌≡◌ {A = Option A} (Some v) None = h in absurd (cc)

-- a number with its separator, by the tests of the code
module _ (s : List ℕ) (at separator : ℕ) where
  pub field_none : number_end s at ≤ at → None ≡ field_at s at separator
  unfolding field_at is_number
  field_none h = rw (le-ltb at (number_end s at) h)

  pub field_large : at < number_end s at → whole_of s at (number_end s at) ≡ None → None ≡ field_at s at separator
  unfolding field_at is_number whole_of number_at
  field_large h e = rw (lt-ltb at (number_end s at) h, none-cases (decimal s at (number_end s at - at)) (ltb (decimal s at (number_end s at - at)) (2 ^ 64)) e)

  pub field_other : (byte_at s (number_end s at) ≡ separator → ⊥) → None ≡ field_at s at separator
  unfolding field_at
  field_other h = rw (ne_eqb (byte_at s (number_end s at)) separator h, and-false)

  pub field_read : (v : ℕ) → at < number_end s at → whole_of s at (number_end s at) ≡ Some v → byte_at s (number_end s at) ≡ separator
      → Some (record { value = v; next = number_end s at + 1 }) ≡ field_at s at separator
  unfolding field_at is_number whole_of number_at
  field_read v h e b =
      let whole = some-cases (decimal s at (number_end s at - at)) v (ltb (decimal s at (number_end s at - at)) (2 ^ 64)) e in
      rw (lt-ltb at (number_end s at) h, whole.0, eq-eqb (byte_at s (number_end s at)) separator b, whole.1)

-- what is read tells of the test
abbrev is_field : List ℕ → ℕ → ℕ → Bool
is_field s at x = is_number s at && eqb (byte_at s (number_end s at)) x

abbrev field_there : List ℕ → ℕ → Field
field_there s at = record { value = number_at s at; next = number_end s at + 1 }

-- a line is read up to its number j
module _ (s : List ℕ) (from : ℕ) (form : List ℕ) where
  pub record Reading (numbers : List ℕ) (at j : ℕ) : Type 0 where
    pub within : j ≤ length form
    pub sofar : List ℕ
    pub long : length sofar ≡ j
    pub stored : numbers ≡ sofar ++ replicate (8 - j) 0
    pub form-rest : has_form s from form ≡ has_form s at (drop j form)
    pub numbers-rest : form_numbers s from form ≡ sofar ++ form_numbers s at (drop j form)
    pub end_rest : form_end s from form ≡ form_end s at (drop j form)

  -- before the first
  pub reading_start : Reading (replicate 8 0) from 0
  reading_start =
      record { within = omega arith; sofar = []; long = refl; stored = refl; form-rest = refl; numbers-rest = refl; end_rest = refl }

  module _ (numbers : List ℕ) (at j : ℕ) (now : Reading numbers at j) (h : j < length form) (most : length form ≤ 8) where
    rest-is : drop j form ≡ get_or form j 0 ∷ drop (j + 1) form
    rest-is = rw add-one (drop-cons form j 0 h)

    -- a number that is not followed by its separator
    pub reading_fails : field_at s at (get_or form j 0) ≡ None → None ≡ line_at s from form
    unfolding line_at field_at has_form
    reading_fails e =
        let fails : has_form s from form ≡ false = now.form-rest ∙ rw (rest-is, none-cases (field_there s at) (is_field s at (get_or form j 0)) e) in
        rw fails

    -- a number more: it joins those so far at their end, before the zeros, and form, numbers and end of the line are told by what stands behind it
    pub reading_next : (field : Field) → field_at s at (get_or form j 0) ≡ Some field → Reading (set numbers j field.value) field.next (j + 1)
    unfolding field_at has_form form_numbers form_end
    reading_next field e =
        let read = some-cases (field_there s at) field (is_field s at (get_or form j 0)) e in
        let v : ℕ = field.value in
        let next : ℕ = field.next in
        let value-is : number_at s at ≡ v = ap (λ (f : Field). f.value) read.1 in
        let next-is : number_end s at + 1 ≡ next = ap (λ (f : Field). f.next) read.1 in
        let more : 8 - j ≡ suc (8 - (j + 1)) = omega arith in
        let zeros : List ℕ = replicate (8 - (j + 1)) 0 in
        record {
          within = omega arith;
          sofar = now.sofar ++ (v ∷ []);
          long = length-append now.sofar (v ∷ []) ∙ ap (λ (n : ℕ). n + 1) now.long;
          stored = rw (now.stored, more) (set_at now.sofar 0 zeros v j now.long ∙ sym (append_snoc now.sofar v zeros));
          form-rest = now.form-rest ∙ rw (rest-is, read.0, next-is);
          numbers-rest =
              now.numbers-rest
              ∙ rw (rest-is, value-is, next-is) (sym (append_snoc now.sofar v (form_numbers s next (drop (j + 1) form))));
          end_rest = now.end_rest ∙ rw (rest-is, ← next-is);
        }

  -- all numbers
  pub reading_done : (numbers : List ℕ) (at j : ℕ) → Reading numbers at j → length form ≤ j
      → Some (record { next = at; numbers = numbers }) ≡ line_at s from form
  unfolding line_at has_form form_numbers form_end
  reading_done numbers at j now h =
      let none = drop_of_length-le form h in
      let all : has_form s from form ≡ true = now.form-rest ∙ rw none in
      let end : form_end s from form ≡ at = now.end_rest ∙ rw none in
      let read : form_numbers s from form ≡ now.sofar = now.numbers-rest ∙ rw none (append-nil now.sofar) in
      let last : j ≡ length form = omega (arith, now.within) in
      rw (all, end, read, sym last, now.stored)

-- a line that is read, and what it tells of the form
module _ (s : List ℕ) (at : ℕ) (form : List ℕ) where
  abbrev line_there : Line
  line_there = record { next = form_end s at form; numbers = form_numbers s at form ++ replicate (8 - length form) 0 }

  module _ (line : Line) (e : line_at s at form ≡ Some line) where
    pub read_form : has_form s at form ≡ true
    unfolding line_at
    read_form = (some-cases line_there line (has_form s at form) e).0

    pub line_is : line ≡ record { next = form_end s at form; numbers = form_numbers s at form ++ replicate (8 - length form) 0 }
    unfolding line_at
    line_is = sym (some-cases line_there line (has_form s at form) e).1

  pub none_form : line_at s at form ≡ None → has_form s at form ≡ false
  unfolding line_at
  none_form e = none-cases line_there (has_form s at form) e
