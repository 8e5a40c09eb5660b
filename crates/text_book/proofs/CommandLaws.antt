-- A line byte by byte, the numbers behind its word, and the command that it says. Assumes nothing.
use Prim.Native.Nat.{ℕ, ◌+◌, ◌-◌, ◌≤◌, ◌<◌}
use native.Mathlib.Numerals.{add-one}
use mathlib.Core.Path.{◌≡◌, refl, sym, ap}
use mathlib.Core.Bool.{Bool, true, false, cond}
use mathlib.Core.List.{List, ◌∷◌, ◌++◌}
use borrow.Author.Tests.{lt-ltb, le-ltb, eq-eqb, ne_eqb}
use lib.ListN.{length, get_or, drop, replicate, drop_of_length-le}
use lib.Seq.{drop-cons}
use Rattle.std.specs.Prelude.{Option, None, Some}
use Rattle.std.specs.Bool.{then_some}
use Rattle.text_numerals.specs.declared.Line.{Line}
use Rattle.text_numerals.specs.Numerals.{byte_at}
use Rattle.text_numerals.specs.Forms.{form_numbers, form_end}
use Rattle.text_numerals.specs.Inner.Fields.{line_at}
use Rattle.text_numerals.proofs.LineLaws.{line_is, read_form, none_form}
use Rattle.text_book.specs.declared.book_commands.Command.TheVariants.{Set, Clear, Place, Totals}
use Rattle.text_book.specs.Commands.{line_limit, set_word, clear_word, place_word, totals_word, five_numbers, one_number, begins_with, says, number_of, is_totals, short_command, command_of}
use Rattle.text_book.specs.Inner.Said.{numbers_said}

-- the word from byte i on
module _ (s word : List ℕ) (i : ℕ) where
  rest-is : i < length word → drop i word ≡ get_or word i 0 ∷ drop (i + 1) word
  rest-is h = rw add-one (drop-cons word i 0 h)

  pub begins_next : i < length word → byte_at s i ≡ get_or word i 0 → begins_with s i (drop i word) ≡ begins_with s (i + 1) (drop (i + 1) word)
  unfolding begins_with
  begins_next h e = rw (rest-is h, eq-eqb (byte_at s i) (get_or word i 0) e)

  pub begins_fails : i < length word → (byte_at s i ≡ get_or word i 0 → ⊥) → begins_with s i (drop i word) ≡ false
  unfolding begins_with
  begins_fails h e = rw (rest-is h, ne_eqb (byte_at s i) (get_or word i 0) e)

  pub begins_done : length word ≤ i → begins_with s i (drop i word) ≡ true
  unfolding begins_with
  begins_done h = rw (drop_of_length-le word h)

-- the numbers behind a word
module _ (s word form : List ℕ) where
  pub said_other : begins_with s 0 word ≡ false → None ≡ numbers_said s word form
  unfolding numbers_said says
  said_other h = rw h

  module _ (begins : begins_with s 0 word ≡ true) where
    -- they have not the form
    pub said_none : line_at s (length word) form ≡ None → None ≡ numbers_said s word form
    unfolding numbers_said says
    said_none e = rw (begins, none_form s (length word) form e)

    module _ (line : Line) (e : line_at s (length word) form ≡ Some line) where
      end-is : line.next ≡ form_end s (length word) form
      end-is = ap (λ (l : Line). l.next) (line_is s (length word) form line e)

      -- they do not end the line, and they do
      pub said_short : line.next ≤ length s → None ≡ numbers_said s word form
      unfolding numbers_said says
      said_short h = rw (begins, read_form s (length word) form line e, le-ltb (length s) (form_end s (length word) form) (rw (sym end-is) h))

      pub said : length s < line.next → Some line.numbers ≡ numbers_said s word form
      unfolding numbers_said says
      said h =
          rw (begins, read_form s (length word) form line e, lt-ltb (length s) (form_end s (length word) form) (rw (sym end-is) h))
          (ap (λ (l : Line). Some l.numbers) (line_is s (length word) form line e))

  -- what numbers that are said, or not, tell of the line
  module _ where
    some-cases : (v w : List ℕ) (b : Bool) → cond b (Some v) None ≡ Some w → (b ≡ true) × (w ≡ v)
    some-cases v w true h = (refl, cc)
    some-cases v w false h = let z : ◌≡◌ {A = Option (List ℕ)} None (Some w) = h in absurd (cc)

    none-cases : (v : List ℕ) (b : Bool) → cond b (Some v) None ≡ None → b ≡ false
    none-cases v false h = refl
    none-cases v true h = let z : ◌≡◌ {A = Option (List ℕ)} (Some v) None = h in absurd (cc)

  numbers-said : (ns : List ℕ) → numbers_said s word form ≡ Some ns
      → (says s word form ≡ true) × (ns ≡ form_numbers s (length word) form ++ replicate (8 - length form) 0)
  unfolding numbers_said
  numbers-said ns e = some-cases _ ns (says s word form) e

  none-said : numbers_said s word form ≡ None → says s word form ≡ false
  unfolding numbers_said
  none-said e = none-cases (form_numbers s (length word) form ++ replicate (8 - length form) 0) (says s word form) e

-- the one word
module _ (s : List ℕ) where
  pub totals_other : (length s ≡ 6 → ⊥) → false ≡ is_totals s
  unfolding is_totals
  totals_other h = rw (ne_eqb (length s) 6 h)

  pub totals_alone : length s ≡ 6 → begins_with s 0 totals_word ≡ is_totals s
  unfolding is_totals
  totals_alone h = rw (eq-eqb (length s) 6 h)

-- a line over the limit, and the commands in turn
pub command_long : (s : List ℕ) → line_limit < length s → None ≡ command_of s
unfolding command_of
command_long s h = rw (lt-ltb line_limit (length s) h)

module _ (s : List ℕ) (short : length s ≤ line_limit) where
  command-short : short_command s ≡ command_of s
  unfolding command_of
  command-short = rw (le-ltb line_limit (length s) short)

  pub command_set : (ns : List ℕ) → numbers_said s set_word five_numbers ≡ Some ns
      → Some (Set (get_or ns 0 0) (get_or ns 1 0) (get_or ns 2 0) (get_or ns 3 0) (get_or ns 4 0)) ≡ command_of s
  unfolding short_command number_of five_numbers form_numbers
  command_set ns e =
      let said = numbers-said s set_word five_numbers ns e in
      rw (said.1, sym command-short, said.0)

  module _ (no-set : numbers_said s set_word five_numbers ≡ None) where
    pub command_clear : (ns : List ℕ) → numbers_said s clear_word one_number ≡ Some ns → Some (Clear (get_or ns 0 0)) ≡ command_of s
    unfolding short_command number_of one_number form_numbers
    command_clear ns e =
        let said = numbers-said s clear_word one_number ns e in
        rw (said.1, sym command-short, none-said s set_word five_numbers no-set, said.0)

    module _ (no-clear : numbers_said s clear_word one_number ≡ None) where
      pub command_place : (ns : List ℕ) → numbers_said s place_word one_number ≡ Some ns → Some (Place (get_or ns 0 0)) ≡ command_of s
      unfolding short_command number_of one_number form_numbers
      command_place ns e =
          let said = numbers-said s place_word one_number ns e in
          rw (said.1, sym command-short, none-said s set_word five_numbers no-set, none-said s clear_word one_number no-clear, said.0)

      pub command_totals : numbers_said s place_word one_number ≡ None → then_some (is_totals s) Totals ≡ command_of s
      unfolding short_command
      command_totals no-place =
          rw (
            sym command-short,
            none-said s set_word five_numbers no-set,
            none-said s clear_word one_number no-clear,
            none-said s place_word one_number no-place,
          )
          (by (is_totals s))
        where
          by : (b : Bool) → then_some b Totals ≡ cond b (Some Totals) None
          by true = refl
          by false = refl
