-- A line that has its form ends where the form ends, and takes two bytes for each number. Assumes nothing.
use Prim.Native.Nat.{ℕ, zero, suc, ◌+◌, ◌*◌, ◌-◌, ◌≤◌, ◌<◌}
use native.Mathlib.Nat.{add-zero, add-suc}
use native.Mathlib.Numerals.{add-one}
use native.Mathlib.Omega.{arith}
use mathlib.Core.Path.{◌≡◌, refl, sym, ap, ◌∙◌}
use mathlib.Core.Logic.{⊎_elim}
use mathlib.Core.Bool.{Bool, true, false, not, ◌&&◌}
use mathlib.Core.List.{List, [], ◌∷◌}
use borrow.Author.Tests.{ltb-true, eqb-true, eqb-false, eq-eqb, ne_eqb, leb-true, not-true, not-false}
use lib.Dec.{ltb, eqb, leb}
use lib.ListN.{length, get_or-eq_default}
use Rattle.lists.specs.Ranges.{first_from}
use Rattle.lists.proofs.OrderLaws.{lt-or-le}
use Rattle.lists.proofs.TestLaws.{and-true}
use Rattle.lists.proofs.RangeLaws.{search-here, search-next, search-end, least-fails}
use Rattle.text_numerals.specs.Numerals.{byte_at, is_digit, number_end, is_number}
use Rattle.text_numerals.specs.Forms.{has_form, form_numbers, form_end}
use Rattle.text_certificates.specs.Texts.{line_end}
use Rattle.text_numerals.proofs.NumeralLaws.{number_end_le}

-- what does not pass is skipped
skip : (test : ℕ → Bool) (at e d : ℕ) → at + d ≤ e → ((k : ℕ) → at ≤ k → k < at + d → test k ≡ false)
    → first_from at (e - at) test ≡ first_from (at + d) (e - (at + d)) test
skip test at e zero h f = rw add-zero
skip test at e (suc d) h f =
    skip test at e d (omega arith) (λ k l u. f k l (omega arith))
    ∙ search-next test (at + d) e (omega arith) (f (at + d) (omega arith) (omega arith))
    ∙ ap (λ (m : ℕ). first_from m (e - m) test) (add-one (at + d) ∙ sym (add-suc at d))

module _ (s : List ℕ) where
  -- past the end a line feed stands
  pub byte_past : (i : ℕ) → length s ≤ i → byte_at s i ≡ 10
  unfolding byte_at
  byte_past i h = get_or-eq_default s 10 h

  -- a byte that is no line feed stands before the end
  byte-before : (i : ℕ) → (byte_at s i ≡ 10 → ⊥) → i < length s
  byte-before i h = ⊎_elim (λ l. l) (λ l. absurd (h (byte_past i l))) (lt-or-le i (length s))

  -- a digit is no line feed
  digit-feed : (b : ℕ) → is_digit b ≡ true → eqb b 10 ≡ false
  unfolding is_digit
  digit-feed b h = ne_eqb b 10 (λ e. let l = leb-true 48 b (and-true (leb 48 b) (leb b 57) h).0 in omega (arith, l))

  module _ (at : ℕ) (some : at < number_end s at) where
    digits : (k : ℕ) → at ≤ k → k < number_end s at → is_digit (byte_at s k) ≡ true
    unfolding number_end
    digits k l u = not-false _ (least-fails (λ (i : ℕ). not (is_digit (byte_at s i))) at (length s - at) k l u)

    -- the line goes on to the number's end
    line-number : line_end s at ≡ line_end s (number_end s at)
    unfolding line_end
    line-number =
        let end = number_end_le s at some in
        let e : at + (number_end s at - at) ≡ number_end s at = omega arith in
        skip (λ (i : ℕ). eqb (byte_at s i) 10) at (length s) (number_end s at - at) (omega arith)
        (λ k l u. digit-feed (byte_at s k) (digits k l (omega (arith, u, e))))
        ∙ ap (λ (m : ℕ). first_from m (length s - m) (λ (i : ℕ). eqb (byte_at s i) 10)) e

  -- past a separator, and at a line feed or the end
  line-next : (e : ℕ) → (byte_at s e ≡ 10 → ⊥) → line_end s e ≡ line_end s (e + 1)
  unfolding line_end
  line-next e h = search-next (λ (i : ℕ). eqb (byte_at s i) 10) e (length s) (byte-before e h) (ne_eqb (byte_at s e) 10 h)

  line-here : (e : ℕ) → byte_at s e ≡ 10 → line_end s e ≡ e
  unfolding line_end
  line-here e h =
      ⊎_elim (λ l. search-here (λ (i : ℕ). eqb (byte_at s i) 10) e (length s) l (eq-eqb (byte_at s e) 10 h))
      (λ l. search-end (λ (i : ℕ). eqb (byte_at s i) 10) e (length s) l) (lt-or-le e (length s))

-- only the last separator of a form is a line feed
abbrev pub ends_line : List ℕ → Bool
ends_line [] = false
ends_line (x ∷ []) = eqb x 10
ends_line (x ∷ y ∷ ys) = not (eqb x 10) && ends_line (y ∷ ys)

-- a number with its separator, and the rest of the form
pub record Begins (s : List ℕ) (at x : ℕ) (xs : List ℕ) : Type 0 where
  pub some : at < number_end s at
  pub separated : byte_at s (number_end s at) ≡ x
  pub rest : has_form s (number_end s at + 1) xs ≡ true

pub form-begins : (s : List ℕ) (at x : ℕ) (xs : List ℕ) → has_form s at (x ∷ xs) ≡ true → Begins s at x xs
unfolding has_form is_number
form-begins s at x xs h =
    let a = and-true (is_number s at && eqb (byte_at s (number_end s at)) x) _ h in
    let b = and-true (is_number s at) _ a.0 in
    let c = and-true (ltb at (number_end s at)) _ b.0 in
    record { some = ltb-true _ _ c.0; separated = eqb-true _ _ b.1; rest = a.1 }

-- the form's end is behind the line's
pub form-line : (s : List ℕ) (at : ℕ) (form : List ℕ) → ends_line form ≡ true → has_form s at form ≡ true → form_end s at form ≡ line_end s at + 1
unfolding form_end
form-line s at [] e h = let z : true ≡ false = cc in cc
form-line s at (x ∷ []) e h =
    let b = form-begins s at x [] h in
    let feed : byte_at s (number_end s at) ≡ 10 = b.separated ∙ eqb-true x 10 e in
    ap (λ (n : ℕ). n + 1) (sym (line-number s at b.some ∙ line-here s (number_end s at) feed))
form-line s at (x ∷ y ∷ ys) e h =
    let b = form-begins s at x (y ∷ ys) h in
    let split = and-true (not (eqb x 10)) (ends_line (y ∷ ys)) e in
    let other = eqb-false x 10 (not-true (eqb x 10) split.0) in
    form-line s (number_end s at + 1) (y ∷ ys) split.1 b.rest
    ∙ ap (λ (n : ℕ). n + 1)
    (sym (line-number s at b.some ∙ line-next s (number_end s at) (λ q. other (sym b.separated ∙ q))))

-- two bytes for each number at least
pub form-room : (s : List ℕ) (at : ℕ) (form : List ℕ) → has_form s at form ≡ true → at + 2 * length form ≤ form_end s at form
unfolding form_end
form-room s at [] h = omega arith
form-room s at (x ∷ xs) h =
    let b = form-begins s at x xs h in
    omega (arith, form-room s (number_end s at + 1) xs b.rest, b.some)

-- a form does not end beyond the text
pub form-end-le : (s : List ℕ) (at x : ℕ) (xs : List ℕ) → has_form s at (x ∷ xs) ≡ true → form_end s at (x ∷ xs) ≤ length s + 1
unfolding form_end
form-end-le s at x [] h = omega (arith, number_end_le s at (form-begins s at x [] h).some)
form-end-le s at x (y ∷ ys) h = form-end-le s (number_end s at + 1) y ys (form-begins s at x (y ∷ ys) h).rest

-- as many numbers as separators
pub form-length : (s : List ℕ) (at : ℕ) (form : List ℕ) → length (form_numbers s at form) ≡ length form
unfolding form_numbers
form-length s at [] = refl
form-length s at (x ∷ xs) = ap suc (form-length s (number_end s at + 1) xs)
