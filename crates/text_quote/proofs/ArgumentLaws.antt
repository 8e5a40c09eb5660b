-- An argument as the code reads it: a line of one number, whose end is the argument's own. Assumes nothing.
use Prim.Native.Nat.{ℕ, ◌+◌, ◌-◌, ◌≤◌, ◌<◌}
use native.Mathlib.Omega.{arith}
use mathlib.Core.Path.{◌≡◌, refl, sym, ap, ◌∙◌}
use mathlib.Core.Bool.{Bool, true, false, not, cond, ◌&&◌}
use mathlib.Core.List.{List, [], ◌∷◌}
use borrow.Author.Tests.{eq-eqb, eqb-true}
use lib.Dec.{eqb}
use lib.ListN.{length, get_or, get_or-eq_default, replicate}
use Rattle.lists.proofs.RangeLaws.{least-le}
use Rattle.lists.proofs.TestLaws.{and-true}
use Rattle.text_numerals.specs.declared.Line.{Line}
use Rattle.text_numerals.specs.Numerals.{byte_at, is_digit, number_end, number_at, is_number}
use Rattle.text_numerals.specs.Forms.{has_form, form_numbers, form_end}
use Rattle.text_numerals.specs.Inner.Fields.{line_at}
use Rattle.text_numerals.proofs.LineLaws.{line_is, read_form, none_form}
use Rattle.std.specs.Prelude.{None, Some}
use Rattle.text_quote.specs.Arguments.{argument_of}

module _ (s : List ℕ) where
  -- where the line has its form, a number stands there, and the line's end is behind it
  form-number : has_form s 0 (10 ∷ []) ≡ true → is_number s 0 ≡ true
  unfolding has_form
  form-number f = (and-true (is_number s 0) _ (and-true (is_number s 0 && eqb (byte_at s (number_end s 0)) 10) true f).0).0

  -- a number that ends the argument: past the end a line feed is read
  ends-form : is_number s 0 ≡ true → number_end s 0 ≡ length s → has_form s 0 (10 ∷ []) ≡ true
  unfolding has_form byte_at
  ends-form n l = rw (n, l, get_or-eq_default s 10 {n = length s} (omega arith))

  end-within : number_end s 0 ≤ length s
  unfolding number_end
  end-within = omega (arith, least-le (λ (i : ℕ). not (is_digit (byte_at s i))) 0 (length s - 0))

  -- the argument, by whether a number stands there and whether it ends there
  argument-number : is_number s 0 ≡ true → number_end s 0 ≡ length s → argument_of s ≡ Some (number_at s 0)
  unfolding argument_of
  argument-number n l = rw (n, eq-eqb (number_end s 0) (length s) l)

  argument-other : (is_number s 0 ≡ true → number_end s 0 ≡ length s → ⊥) → None ≡ argument_of s
  unfolding argument_of
  argument-other other = by (is_number s 0) (eqb (number_end s 0) (length s)) refl refl
    where
      by : (a b : Bool) → is_number s 0 ≡ a → eqb (number_end s 0) (length s) ≡ b → None ≡ cond (a && b) (Some (number_at s 0)) None
      by true true n l = absurd (other n (eqb-true (number_end s 0) (length s) l))
      by true false n l = refl
      by false b n l = refl

  -- no line of one number
  pub argument_none : line_at s 0 (10 ∷ []) ≡ None → None ≡ argument_of s
  argument_none e = argument-other (λ n l. let z : true ≡ false = sym (ends-form n l) ∙ none_form s 0 (10 ∷ []) e in absurd (cc))

  module _ (line : Line) (e : line_at s 0 (10 ∷ []) ≡ Some line) where
    form : has_form s 0 (10 ∷ []) ≡ true
    form = read_form s 0 (10 ∷ []) line e

    line-is : line ≡ record { next = number_end s 0 + 1; numbers = number_at s 0 ∷ replicate 7 0 }
    unfolding form_end form_numbers
    line-is = line_is s 0 (10 ∷ []) line e

    -- a line that ends within the argument, and one that ends behind it
    pub argument_longer : line.next ≤ length s → None ≡ argument_of s
    argument_longer h = argument-other (λ n l. absurd (omega (arith, l, ap (λ (x : Line). x.next) line-is)))

    pub argument_read : length s < line.next → Some (get_or line.numbers 0 0) ≡ argument_of s
    argument_read h =
        rw line-is (sym (argument-number (form-number form) (omega (arith, end-within, ap (λ (x : Line). x.next) line-is))))
