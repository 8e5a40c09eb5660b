-- A listed month is printed with the eight bytes of its line's price, bit for bit. Assumes nothing.
use Prim.Native.Nat.{ℕ, ◌+◌, ◌*◌, ◌/◌, ◌<◌}
use native.Mathlib.Omega.{arith}
use mathlib.Core.Path.{◌≡◌, ap, ◌∙◌}
use mathlib.Core.Bool.{false}
use mathlib.Core.List.{List, [], ◌∷◌, ◌++◌}
use borrow.Author.Tests.{eq-eqb}
use lib.Ieee.{nan, binary64, to_bits}
use lib.Ieee.Bits.{of_bits-fits, to_bits-of_bits}
use lib.ListN.{length}
use Rattle.lists.proofs.TableLaws.{table-length, table-get_or}
use Rattle.form.specs.Shift.{scenario_count}
use Rattle.record_fields.proofs.ByteLaws.{Bytes, number_lt}
use Rattle.quote_prices.specs.declared.PriceLine.{PriceLine}
use Rattle.quote_prices.specs.PriceLines as line
use Rattle.quote_prices.specs.PriceLines.{faulty_price}
use Rattle.quote_lines.specs.Lines.{line_at, months_at}
use Rattle.quote_lines.specs.Faults.{lines_verdict}
use Rattle.quote_lines.specs.Accepted.{InFormat}
use Rattle.quote_lines.proofs.FaultLaws.{accepted-prices}
use Rattle.quote_lines.proofs.AcceptedLaws.{accepted-replies}
use Rattle.text_quote.specs.LineBytes.{line_bytes, months_in, bits_in, price_in, line_in, lines_in}
use Rattle.text_quote.specs.ReplyLines.{hexadecimal, listed_word, price_line, reply_line, quoted_line}
use Rattle.text_quote.specs.Printed.{answer_text}
use Rattle.text_quote.proofs.ReplyLaws.{sound-number}

module _ (s : List ℕ) (bytes : Bytes s) where
  lines-count : length (lines_in s) ≡ length s / line_bytes
  unfolding lines_in
  lines-count = table-length 0 (length s / line_bytes) (line_in s)

  line-is : (i : ℕ) → i < length (lines_in s) → line_at (lines_in s) i ≡ line_in s i
  unfolding lines_in line_at
  line-is i h = table-get_or (length s / line_bytes) (line_in s) i _ (rw lines-count at h)

  months-are : (i : ℕ) → i < length (lines_in s) → months_at (lines_in s) i ≡ months_in s i
  unfolding line_in
  months-are i h = ap (λ (l : PriceLine). l.months) (line-is i h)

  price-is : (i k : ℕ) → i < length (lines_in s) → k < scenario_count → line.price_in (line_at (lines_in s) i) k ≡ price_in s i k
  unfolding line_in
  price-is i k h l = ap (λ (l : PriceLine). line.price_in l k) (line-is i h) ∙ table-get_or scenario_count (price_in s i) k nan l

  -- months of two bytes and floats of eight
  format : InFormat (lines_in s)
  unfolding months_in price_in
  format =
      record {
        months-fit = λ i h. omega (arith, months-are i h, number_lt s (line_bytes * i) 2 bytes);
        prices-fit = λ i k h l. rw (price-is i k h l) (of_bits-fits binary64 (bits_in s i k));
      }

  -- the pattern of a price that is not faulty is the one that was read
  bits-kept : (i k : ℕ) → faulty_price (price_in s i k) ≡ false → to_bits binary64 (price_in s i k) ≡ bits_in s i k
  unfolding price_in bits_in
  bits-kept i k h = to_bits-of_bits binary64 _ (number_lt s (line_bytes * i + (2 + 8 * k)) 8 bytes) (sound-number _ h)

  pub listed-text : (lines_verdict (lines_in s)).number ≡ 0 → (i k : ℕ) → i < length s / line_bytes → k < scenario_count
      → answer_text s (months_in s i) k ≡ listed_word ++ (hexadecimal 16 (bits_in s i k) ++ (10 ∷ []))
  unfolding answer_text quoted_line reply_line price_line
  listed-text taken i k h l =
      let within : i < length (lines_in s) = rw lines-count h in
      let sound = rw (price-is i k within l) at (accepted-prices (lines_in s) taken i within k l) in
      let reply = rw (months-are i within, price-is i k within l) at ((accepted-replies (lines_in s) taken format).listed i k within l) in
      rw (eq-eqb (lines_verdict (lines_in s)).number 0 taken, reply, bits-kept i k sound)
