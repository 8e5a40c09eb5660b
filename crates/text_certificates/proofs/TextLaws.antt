-- A text line by line: what is known before a line, and what the first unreadable line or the text's end makes of it. Assumes nothing.
use Prim.Native.Nat.{ℕ, zero, suc, ◌+◌, ◌*◌, ◌-◌, ◌≤◌, ◌<◌}
use native.Mathlib.Nat.{not-suc-le-zero, zero-add, add-suc, suc-add, add-zero}
use native.Mathlib.Numerals.{add-one}
use native.Mathlib.Omega.{arith}
use mathlib.Core.Path.{◌≡◌, refl, sym, ap, ◌∙◌}
use mathlib.Core.Logic.{⊎_elim}
use mathlib.Core.Bool.{Bool, true, false, not, cond}
use mathlib.Core.List.{List, [], ◌∷◌, ◌++◌, append-nil, append_assoc}
use borrow.Author.Count.{below_more}
use borrow.Author.Tests.{lt-ltb, le-ltb, le-leb, lt-leb, ne_eqb}
use lib.Dec.{leb, eqb}
use lib.ListN.{length, get_or, length-append}
use Rattle.lists.specs.Tables.{table, joined}
use Rattle.lists.specs.Ranges.{first_from}
use Rattle.lists.proofs.OrderLaws.{lt-or-le}
use Rattle.lists.proofs.TableLaws.{joined_length, joined-suc}
use Rattle.lists.proofs.RangeLaws.{least-is, least-passes, least-ge}
use Rattle.certificate_calendar.specs.declared.Date.{Date}
use Rattle.text_numerals.specs.declared.Line.{Line}
use Rattle.text_numerals.specs.Forms.{has_form, form_numbers, form_end}
use Rattle.text_certificates.specs.Lines.{date_form, certificate_form}
use Rattle.text_certificates.specs.Texts.{line_end, line_start, line_count, line_form, is_readable, first_unreadable, unreadable_line, line_numbers, valuation_of}
use Rattle.text_numerals.specs.Inner.Fields.{line_at}
use Rattle.std.specs.Prelude.{Some, Result, Ok, Err}
use Rattle.text_certificates.specs.declared.certificates_input.Unreadable.{Unreadable}
use Rattle.text_numerals.proofs.LineLaws.{line_is}
use Rattle.text_certificates.proofs.FormLaws.{form-line, form-room, form-end-le, form-length}

-- a search in which nothing passes
none_passes : (test : ℕ → Bool) (from n : ℕ) → ((k : ℕ) → from ≤ k → k < from + n → test k ≡ false) → first_from from n test ≡ from + n
unfolding first_from
none_passes test from zero f = sym (add-zero from)
none_passes test from (suc n) f =
    rw (f from (omega arith) (omega arith)) (none_passes test (suc from) n (λ k l u. f k (omega arith) (omega arith)) ∙ suc-add from n ∙ sym (add-suc from n))

module _ (s : List ℕ) where
  -- the lines before line l have their form and begin before the text's end, which line l need not
  pub record LinesRead (l at : ℕ) : Type 0 where
    pub begins : at ≡ line_start s l
    pub readable : (k : ℕ) → k < l → is_readable s k ≡ true
    pub within : (k : ℕ) → 1 ≤ k → k < l → line_start s k < length s
    pub some : 1 ≤ l
    pub room : 16 * l ≤ at + 10
    pub bound : at ≤ length s + 1

  -- after the first line: it is a date, so that line 1 begins behind it, and there is no line between of which anything is asked
  pub first_read : has_form s 0 date_form ≡ true → LinesRead 1 (form_end s 0 date_form)
  unfolding line_start date_form is_readable line_form
  first_read h =
      record {
        begins = form-line s 0 date_form refl h;
        readable = below_more _ _ (λ k l. absurd (not-suc-le-zero l)) h;
        within = λ k l u. absurd (omega arith);
        some = omega arith;
        room = omega (arith, form-room s 0 date_form h);
        bound = form-end-le s 0 45 (45 ∷ 10 ∷ []) h;
      }

  module _ (l at : ℕ) (read : LinesRead l at) (more : at < length s) where
    form-is : line_form l ≡ certificate_form
    unfolding line_form
    form-is = by l read.some
      where
        by : (k : ℕ) → 1 ≤ k → line_form k ≡ certificate_form
        by zero h = absurd (not-suc-le-zero h)
        by (suc k) h = refl

    -- a certificate's line: its end, its bytes and its index
    module _ (h : has_form s at certificate_form ≡ true) where
      form-ends : form_end s at certificate_form ≡ line_end s at + 1
      unfolding certificate_form
      form-ends = form-line s at certificate_form refl h

      pub form-takes : at + 16 ≤ form_end s at certificate_form
      unfolding certificate_form
      form-takes = form-room s at certificate_form h

      form-stays : form_end s at certificate_form ≤ length s + 1
      unfolding certificate_form
      form-stays = form-end-le s at 45 (45 ∷ 32 ∷ 45 ∷ 45 ∷ 32 ∷ 32 ∷ 10 ∷ []) h

      -- after another line: it is a certificate, as lines behind the first are to be, and takes 16 bytes at least; the next line begins behind its
      -- end, and each line so far begins within the text
      pub next-read : LinesRead (l + 1) (form_end s at certificate_form)
      unfolding line_start is_readable
      next-read =
          let form : has_form s (line_start s l) (line_form l) ≡ true = rw (form-is, sym read.begins) h in
          record {
            begins = rw add-one (form-ends ∙ ap (λ (n : ℕ). line_end s n + 1) read.begins);
            readable = below_more _ _ read.readable form;
            within = λ k a u. all-within k a u;
            some = omega arith;
            room = omega (arith, read.room, form-takes);
            bound = form-stays;
          }
        where
          all-within : (k : ℕ) → 1 ≤ k → k < l + 1 → line_start s k < length s
          all-within k a u =
              ⊎_elim (λ b. read.within k a b)
              (λ b. let e : k ≡ l = omega arith in rw (e, sym read.begins) more) (lt-or-le k l)

    -- each line up to this one begins before the text's end
    none_last : (k : ℕ) → 1 ≤ k → k < l + 1 → leb (length s) (line_start s k) ≡ false
    none_last k a u =
        ⊎_elim (λ b. lt-leb (length s) (line_start s k) (read.within k a b))
        (λ b. let e : k ≡ l = omega arith in rw (e, sym read.begins) (lt-leb (length s) at more)) (lt-or-le k l)

    -- so there are more lines than l: were there not, the first line that begins past the text would be one of those up to l, and none of them does
    count-lt : l < line_count s
    unfolding line_count
    count-lt = ⊎_elim (λ h. h) (λ h. absurd (never h)) (lt-or-le l (line_count s))
      where
        never : line_count s ≤ l → ⊥
        never h =
            let test : ℕ → Bool = λ k. leb (length s) (line_start s k) in
            let least : 1 ≤ first_from 1 (length s) test = least-ge test 1 (length s) in
            let passes = least-passes test 1 (length s) (omega (arith, h, read.room, read.bound)) in
            let z : true ≡ false = sym passes ∙ none_last (first_from 1 (length s) test) least (omega (arith, h)) in
            let y : ◌≡◌ {A = ℕ} 0 1 = cc in
            omega arith

    -- line l is the first that is not of its form
    pub line_first : has_form s at certificate_form ≡ false → first_unreadable s ≡ l
    unfolding first_unreadable is_readable
    line_first h =
        let form : has_form s (line_start s l) (line_form l) ≡ false = rw (form-is, sym read.begins) h in
        least-is _ 0 (line_count s) l (omega arith) (omega (arith, count-lt)) (ap not form) (λ k a u. ap not (read.readable k u))

    pub line-fails : has_form s at certificate_form ≡ false → unreadable_line s ≡ l + 1
    unfolding unreadable_line
    line-fails h = rw (line_first h, lt-ltb l (line_count s) count-lt) (sym (add-one l))

  -- the first line is not of its form
  pub count-some : 0 < line_count s
  unfolding line_count
  count-some = least-ge _ 1 (length s)

  pub first-none : has_form s 0 date_form ≡ false → first_unreadable s ≡ 0
  unfolding first_unreadable is_readable line_start line_form
  first-none h = least-is _ 0 (line_count s) 0 (omega arith) (omega (arith, count-some)) (ap not h) (λ k a u. absurd (not-suc-le-zero u))

  pub first-fails : has_form s 0 date_form ≡ false → unreadable_line s ≡ 1
  unfolding unreadable_line
  first-fails h = rw (first-none h, lt-ltb 0 (line_count s) count-some)

  module _ (l at : ℕ) (read : LinesRead l at) (done : length s ≤ at) where
    -- the text's end
    pub count-is : line_count s ≡ l
    unfolding line_count
    count-is =
        least-is _ 1 (length s) l read.some (omega (arith, read.room, read.bound)) (rw (sym read.begins) (le-leb (length s) at done))
        (λ k a u. lt-leb (length s) (line_start s k) (read.within k a u))

    pub none_first : first_unreadable s ≡ l
    unfolding first_unreadable
    none_first = rw count-is (none_passes _ 0 l (λ k a u. ap not (read.readable k (omega (arith, u)))) ∙ zero-add l)

    pub none-fails : unreadable_line s ≡ 0
    unfolding unreadable_line
    none-fails = rw (none_first, count-is, le-ltb l l (omega arith))

-- the valuation date of the first line
pub valuation-read : (s : List ℕ) (line : Line) → line_at s 0 date_form ≡ Some line
    → record { year = get_or line.numbers 0 0; month = get_or line.numbers 1 0; day = get_or line.numbers 2 0 } ≡ valuation_of s
unfolding valuation_of line_numbers line_start line_form date_form form_numbers
valuation-read s line e = rw (line_is s 0 date_form line e)

-- the numbers of a certificate's line
pub certificate-read : (s : List ℕ) (at : ℕ) (line : Line) → line_at s at certificate_form ≡ Some line
    → (line.numbers ≡ form_numbers s at certificate_form) × (line.next ≡ form_end s at certificate_form)
unfolding certificate_form
certificate-read s at line e = rw (line_is s at certificate_form line e) (append-nil (form_numbers s at certificate_form), refl)

pub numbers-are : (s : List ℕ) (count at : ℕ) → LinesRead s (count + 1) at → form_numbers s at certificate_form ≡ line_numbers s (suc count)
unfolding line_numbers line_form
numbers-are s count at read = ap (λ (n : ℕ). form_numbers s n certificate_form) (read.begins ∙ ap (line_start s) (add-one count))

pub certificate-length : (s : List ℕ) (at : ℕ) → length (form_numbers s at certificate_form) ≡ 8
unfolding certificate_form
certificate-length s at = form-length s at certificate_form

pub certificate-eight : (s : List ℕ) (k : ℕ) → length (line_numbers s (suc k)) ≡ 8
unfolding line_numbers line_form
certificate-eight s k = certificate-length s (line_start s (suc k))

-- the numbers of the certificates so far stand behind the list `before`, and so do those of one more
module _ (s before : List ℕ) (count : ℕ) where
  abbrev pub stored : List ℕ
  stored = before ++ joined (table count (λ (k : ℕ). line_numbers s (suc k)))

  pub stored_length : length stored ≡ length before + 8 * count
  stored_length = simp length-append (omega (arith, joined_length 8 0 count (λ (k : ℕ). line_numbers s (suc k)) (certificate-eight s)))

  pub stored_next : (values : List ℕ) → values ≡ line_numbers s (suc count)
      → stored ++ values ≡ before ++ joined (table (count + 1) (λ (k : ℕ). line_numbers s (suc k)))
  stored_next values e = rw (e, joined-suc count (λ (k : ℕ). line_numbers s (suc k)), append_assoc)

-- a line more, behind l lines of which the first is the date
pub stored_line : (s before : List ℕ) (l at : ℕ) (values : List ℕ) → LinesRead s l at → values ≡ form_numbers s at certificate_form
    → stored s before (l - 1) ++ values ≡ stored s before (l + 1 - 1)
stored_line s before l at values read e =
    let some : 1 ≤ l = read.some in
    let back : l - 1 + 1 ≡ l = omega arith in
    let more : l + 1 - 1 ≡ l - 1 + 1 = omega arith in
    let here : LinesRead s (l - 1 + 1) at = rw back read in
    rw more (stored_next s before (l - 1) values (e ∙ numbers-are s (l - 1) at here))

-- what is answered of a text with an unreadable line, and of one with none
module _ (s : List ℕ) where
  pub answered-line : (line : ℕ) → 0 < line → unreadable_line s ≡ line
      → ◌≡◌ {A = Result Date Unreadable} (Err (record { line = line })) (cond (eqb (unreadable_line s) 0) (Ok (valuation_of s)) (Err (record { line = unreadable_line s })))
  answered-line line some e = rw (e, ne_eqb line 0 (λ z. omega arith))

  pub answered-date : (valuation : Date) → unreadable_line s ≡ 0 → valuation ≡ valuation_of s
      → ◌≡◌ {A = Result Date Unreadable} (Ok valuation) (cond (eqb (unreadable_line s) 0) (Ok (valuation_of s)) (Err (record { line = unreadable_line s })))
  answered-date valuation e v = rw (e, v)
