-- Price lines in bytes: the float of a pattern, and the lines that the two lists of months and prices make. Assumes nothing.
use Prim.Native.Nat.{ℕ, zero, suc, ◌+◌, ◌*◌, ◌/◌, ◌%◌, ◌≤◌, ◌<◌}
use native.Mathlib.Nat.{le_refl, min-eq_left, zero-add, add-zero, suc-add, add-suc}
use native.Mathlib.Numerals.{add-one}
use native.Mathlib.Omega.{arith}
use mathlib.Core.Path.{◌≡◌, refl, sym, ap, ◌∙◌, subst}
use mathlib.Core.Bool.{Bool, true, not}
use mathlib.Core.List.{List, [], ◌∷◌, ◌++◌, append_assoc}
use borrow.Author.Tests.{lt-ltb, le-ltb}
use lib.Dec.{T}
use lib.Ieee.{Float, nan, inf, fin, binary64, div, is_nan, nan_bits, of_bits}
use lib.Ieee.Bits.{nan_bits_is, nan_bits_above}
use lib.ListN.{length, get_or}
use Rattle.lists.specs.Tables.{table, table_from}
use Rattle.lists.proofs.TableLaws.{table-length, table-get_or, table-ext}
use Rattle.form.specs.Shift.{scenario_count}
use Rattle.quote_lines.specs.Lines.{line_count, lines_of}
use Rattle.quote_lines.specs.Lines as lines
use Rattle.text_quote.specs.LineBytes.{line_bytes, months_in, price_in, price_at, line_in, lines_in}

-- ---- the float of a pattern
is-nan : (x : Float) → is_nan x ≡ true → nan ≡ x
unfolding is_nan
is-nan nan e = refl
is-nan (inf s) e = absurd (subst T (sym e) tt)
is-nan (fin s m k) e = absurd (subst T (sym e) tt)

quotient-of-zeros : div binary64 (of_bits binary64 0) (of_bits binary64 0) ≡ nan
unfolding div of_bits
quotient-of-zeros = refl

module _ (n : ℕ) where
  pub pattern-none : 0x7ff0_0000_0000_0000 < n % 0x8000_0000_0000_0000 → div binary64 (of_bits binary64 0) (of_bits binary64 0) ≡ of_bits binary64 n
  pattern-none h =
      quotient-of-zeros ∙ is-nan (of_bits binary64 n) (sym (nan_bits_is binary64 n) ∙ nan_bits_above binary64 n ∙ lt-ltb _ _ h)

  pub pattern-some : n % 0x8000_0000_0000_0000 ≤ 0x7ff0_0000_0000_0000 → T (not (nan_bits binary64 n))
  pattern-some h = subst (λ (b : Bool). T (not b)) (sym (nan_bits_above binary64 n ∙ le-ltb _ _ h)) tt

-- ---- the lines of the months and prices that are read
-- a table of one entry more
module _ {A : Type 0} (f : ℕ → A) where
  table_from-more : (s n : ℕ) → table_from s (suc n) f ≡ table_from s n f ++ (f (s + n) ∷ [])
  unfolding table_from
  table_from-more s zero = rw add-zero
  table_from-more s (suc n) = ap (λ (l : List A). f s ∷ l) (table_from-more (suc s) n ∙ rw (suc-add, ← add-suc))

  pub read_more : (n : ℕ) (before so_far next : List A) (x : A) → so_far ≡ before ++ table n f → next ≡ so_far ++ (x ∷ []) → x ≡ f n
      → next ≡ before ++ table (n + 1) f
  read_more n before so_far next x e last is = rw (last, e, is, add-one, table_from-more 0 n, zero-add, append_assoc)

module _ (s : List ℕ) (n : ℕ) where
  price-of : (i k : ℕ) → k < scenario_count → price_at s (scenario_count * i + k) ≡ price_in s i k
  unfolding price_at
  price-of i k h =
      let q : (scenario_count * i + k) / scenario_count ≡ i = omega arith in
      let r : (scenario_count * i + k) % scenario_count ≡ k = omega arith in
      rw (q, r)

  line_of : (i : ℕ) → i < n → lines.line_in (table n (months_in s)) (table (scenario_count * n) (price_at s)) i ≡ line_in s i
  unfolding lines.line_in line_in
  line_of i h = rw (table-get_or n (months_in s) i 0 h, prices-are)
    where
      prices-are : table scenario_count (λ (k : ℕ). get_or (table (scenario_count * n) (price_at s)) (scenario_count * i + k) nan) ≡ table scenario_count (price_in s i)
      prices-are =
          table-ext scenario_count _ _ (λ k l. table-get_or (scenario_count * n) (price_at s) (scenario_count * i + k) nan (omega arith) ∙ price-of i k l)

  count-is : line_count (table n (months_in s)) (table (scenario_count * n) (price_at s)) ≡ n
  unfolding line_count
  count-is =
      let each : scenario_count * n / scenario_count ≡ n = omega arith in
      rw (table-length 0 n (months_in s), table-length 0 (scenario_count * n) (price_at s), each) (min-eq_left (le_refl n))

  lines-of : lines_of (table n (months_in s)) (table (scenario_count * n) (price_at s)) ≡ table n (line_in s)
  unfolding lines_of
  lines-of = rw count-is (table-ext n _ _ line_of)

-- the lists that were read are the lines in the bytes
pub lines-read : (s m : List ℕ) (p : List Float) → m ≡ table (length s / line_bytes) (months_in s)
    → p ≡ table (scenario_count * (length s / line_bytes)) (price_at s)
    → lines_of m p ≡ lines_in s
unfolding lines_in
lines-read s m p e f = rw (e, f) (lines-of s (length s / line_bytes))
