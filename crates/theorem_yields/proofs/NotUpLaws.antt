-- The lists after two valuing calls: with yields that are nowhere lower no value and no total is higher. Assumes nothing.
use Prim.Native.Nat.{ℕ, zero, suc, ◌-◌, ◌≤◌, ◌<◌}
use mathlib.Core.Path.{◌≡◌, sym, ap, ◌∙◌}
use mathlib.Core.List.{List, ◌++◌}
use native.Mathlib.Omega.{arith}
use borrow.Author.Tests.{eq-eqb}
use lib.ListN.{length, get_or, drop}
use Rattle.lists.specs.Tables.{table_from}
use Rattle.form.specs.Limits.{sheet_months}
use Rattle.form.specs.Counts.{number_count}
use Rattle.form.specs.PlaceOrder.{is_short, is_long}
use Rattle.answers.specs.Verdict.{Verdict, accepted}
use Rattle.answers.proofs.VerdictLaws.{list-long}
use Rattle.filing.specs.Verdict.{filing_verdict, Accepted}
use Rattle.filing_contents.specs.Contents.{Contents, cd_yield, libor_yield}
use Rattle.filing_decode.specs.Contents.{contents_of}
use Rattle.pricing.specs.Rounding.{down, up}
use Rattle.value_numbers.specs.Numbers.{scenario_totals, numbers}
use Rattle.borrowing_numbers.specs.Borrowed.{libor_rate}
use Rattle.borrowing_numbers.specs.Numbers.{borrowing_number_count, borrowed_numbers, totals_of}
use Rattle.borrowing_numbers.specs.Numbers as borrowed
use Rattle.borrowing_numbers.proofs.NumberLaws.{lower-read, upper-read, total-read}
use Rattle.valuation.specs.Promise.{verdict_on, list_after, borrowings_after}
use Rattle.valuation.proofs.PromiseLaws.{lower_in_lem, upper_in_lem, total-in}
use Rattle.theorem_yields.specs.YieldsUp.{CdYieldsUp, LiborYieldsUp}
use Rattle.theorem_yields.specs.ValuesNotUp.{CertificatesNotUp, BorrowingsNotUp, Call, ValuesNotUp}
use Rattle.theorem_yields.proofs.MonotoneLaws.{shifted-mono}
use Rattle.theorem_yields.proofs.ValueLaws.{value-not-up, total-not-up, borrowed-not-up, borrowed-total-not-up}

-- a table that is nowhere above another in its n entries is so at every index, as behind them stands 0
table-order : (s n : ℕ) (f g : ℕ → ℕ) → ((i : ℕ) → i < n → get_or (table_from s n f) i 0 ≤ get_or (table_from s n g) i 0)
    → (i : ℕ) → get_or (table_from s n f) i 0 ≤ get_or (table_from s n g) i 0
unfolding table_from
table-order s zero f g h i = omega arith
table-order s (suc n) f g h zero = h zero (omega arith)
table-order s (suc n) f g h (suc i) = table-order (suc s) n f g (λ j l. h (suc j) (omega arith)) i

-- yields that are nowhere lower in the months of a sheet are so in every month
cd-everywhere : (s t : List ℕ) → CdYieldsUp s t → (month : ℕ) → cd_yield (contents_of s) month ≤ cd_yield (contents_of t) month
unfolding cd_yield contents_of
cd-everywhere s t u month =
    table-order 1 sheet_months _ _ (λ i l. let e : suc i - 1 ≡ i = omega arith in rw e at (u.nowhere-lower (suc i) (omega arith) (omega arith))) (month - 1)

libor-everywhere : (s t : List ℕ) → LiborYieldsUp s t → (month : ℕ) → libor_yield (contents_of s) month ≤ libor_yield (contents_of t) month
unfolding libor_yield contents_of
libor-everywhere s t u month =
    table-order 1 sheet_months _ _ (λ i l. let e : suc i - 1 ≡ i = omega arith in rw e at (u.nowhere-lower (suc i) (omega arith) (omega arith))) (month - 1)

-- the lists after a call with an accepted filing
module _ (s : List ℕ) (a : Accepted s) (c : Call s) where
  verdict-is : verdict_on s c.list c.borrowings ≡ accepted
  unfolding verdict_on
  verdict-is =
      sym (list-long number_count (length c.list) _ c.list-fits)
      ∙ sym (list-long borrowing_number_count (length c.borrowings) (filing_verdict s) c.borrowings-fit)
      ∙ a

  taken : (verdict_on s c.list c.borrowings).number ≡ 0
  unfolding accepted
  taken = ap (λ (v : Verdict). v.number) verdict-is

  list-is : c.list-after ≡ numbers (contents_of s) ++ drop number_count c.list
  unfolding list_after
  list-is = c.promised.list-is ∙ rw (eq-eqb (verdict_on s c.list c.borrowings).number 0 taken)

  borrowings-are : c.borrowings-after ≡ borrowed.numbers (contents_of s).cells (libor_rate (contents_of s)) ++ drop borrowing_number_count c.borrowings
  unfolding borrowings_after borrowed_numbers
  borrowings-are = c.promised.borrowings-are ∙ rw (eq-eqb (verdict_on s c.list c.borrowings).number 0 taken)

-- lists that begin with the 568 numbers of k and of j, which differ only in CD yields
module _ (k j : Contents) (cells : j.cells ≡ k.cells) (rates : j.rates ≡ k.rates) (tiers : j.tiers ≡ k.tiers)
    (h : (month : ℕ) → cd_yield k month ≤ cd_yield j month) where
  -- each of the four totals
  totals-order : (scenario r : ℕ) → get_or (scenario_totals j scenario) r 0 ≤ get_or (scenario_totals k scenario) r 0
  unfolding scenario_totals
  totals-order scenario zero = total-not-up k j cells rates tiers h down is_short scenario
  totals-order scenario (suc zero) = total-not-up k j cells rates tiers h up is_short scenario
  totals-order scenario (suc (suc zero)) = total-not-up k j cells rates tiers h down is_long scenario
  totals-order scenario (suc (suc (suc zero))) = total-not-up k j cells rates tiers h up is_long scenario
  totals-order scenario (suc (suc (suc (suc r)))) = omega arith

  numbers-not-up : (rest rest' : List ℕ) → CertificatesNotUp (numbers k ++ rest) (numbers j ++ rest')
  numbers-not-up rest rest' =
      record {
        lower-not-up = λ c place hc hp.
            rw (lower_in_lem k rest c place hc hp, lower_in_lem j rest' c place hc hp) (value-not-up k j cells rates tiers h down c place);
        upper-not-up = λ c place hc hp.
            rw (upper_in_lem k rest c place hc hp, upper_in_lem j rest' c place hc hp) (value-not-up k j cells rates tiers h up c place);
        totals-not-up = λ c r hc hr. rw (total-in k rest c r hc hr, total-in j rest' c r hc hr) (totals-order c r);
      }

-- lists that begin with the 374 numbers of the same cells, under yields z and yields w that are nowhere lower
module _ (cells : List ℕ) (z w : ℕ → ℕ → ℕ) (h : (scenario month : ℕ) → z scenario month ≤ w scenario month) where
  borrowed-order : (scenario r : ℕ) → get_or (totals_of cells w scenario) r 0 ≤ get_or (totals_of cells z scenario) r 0
  unfolding totals_of
  borrowed-order scenario zero = borrowed-total-not-up cells z w h down scenario
  borrowed-order scenario (suc zero) = borrowed-total-not-up cells z w h up scenario
  borrowed-order scenario (suc (suc r)) = omega arith

  borrowings-not-up : (rest rest' : List ℕ) → BorrowingsNotUp (borrowed.numbers cells z ++ rest) (borrowed.numbers cells w ++ rest')
  borrowings-not-up rest rest' =
      record {
        lower-not-up = λ c i hc hi.
            rw (lower-read cells z rest c i hc hi, lower-read cells w rest' c i hc hi) (borrowed-not-up cells z w h down c i);
        upper-not-up = λ c i hc hi.
            rw (upper-read cells z rest c i hc hi, upper-read cells w rest' c i hc hi) (borrowed-not-up cells z w h up c i);
        totals-not-up = λ c r hc hr. rw (total-read cells z rest r c hc hr, total-read cells w rest' r c hc hr) (borrowed-order c r);
      }

-- the shift keeps the order of the LIBOR yields
libor-order : (s t : List ℕ) → LiborYieldsUp s t → (scenario month : ℕ) → libor_rate (contents_of s) scenario month ≤ libor_rate (contents_of t) scenario month
unfolding libor_rate
libor-order s t u scenario month = shifted-mono scenario (libor-everywhere s t u month)

-- each list begins with the numbers of its filing, whose terms are the same and whose yields are nowhere lower
certificates-after : (s t : List ℕ) → CdYieldsUp s t → (first : Call s) (second : Call t) → CertificatesNotUp first.list-after second.list-after
certificates-after s t u first second =
    let both = u.alike in
    rw (list-is s both.first-accepted first, list-is t both.second-accepted second)
    (numbers-not-up (contents_of s) (contents_of t) both.same-cells both.same-rates both.same-tiers (cd-everywhere s t u) _ _)

borrowings-after : (s t : List ℕ) → LiborYieldsUp s t → (first : Call s) (second : Call t) → BorrowingsNotUp first.borrowings-after second.borrowings-after
borrowings-after s t u first second =
    let both = u.alike in
    let yields = libor_rate (contents_of t) in
    let same : borrowed.numbers (contents_of t).cells yields ≡ borrowed.numbers (contents_of s).cells yields =
    ap (λ (c : List ℕ). borrowed.numbers c yields) both.same-cells in
    rw (borrowings-are s both.first-accepted first, borrowings-are t both.second-accepted second, same)
    (borrowings-not-up (contents_of s).cells (libor_rate (contents_of s)) yields (libor-order s t u) _ _)

-- the theorem of 02:CR 11
pub values-not-up : ValuesNotUp
values-not-up = record { certificates = certificates-after; borrowings = borrowings-after }
