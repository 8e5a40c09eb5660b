-- The cells that accepted certificates fill are fit: what each cell of the nine positions and the total hold, and their limits. Assumes nothing.
use Prim.Native.Nat.{ℕ, ◌≤◌, ◌<◌}
use native.Mathlib.Omega.{arith}
use mathlib.Core.Path.{◌≡◌, refl, sym, ap, ◌∙◌}
use mathlib.Core.Bool.{Bool, true, false, cond, not, ◌&&◌, ◌||◌}
use mathlib.Core.List.{List, map}
use borrow.Author.Tests.{ne_eqb, eqb-true, eqb-false}
use lib.Dec.{T, leb, eqb, leb→le, eqb→eq, ltb, ltb→lt}
use Rattle.lists.specs.Ranges.{within, first_from}
use Rattle.lists.specs.Sums.{sum}
use Rattle.lists.specs.Tables.{table_from, table, contains}
use Rattle.lists.proofs.TestLaws.{both, all_from, all-at}
use Rattle.lists.proofs.TableLaws.{table-ext, table-get_or}
use Rattle.form.specs.declared.Position.{Position}
use Rattle.form.specs.Cells.{position, positions, position_at, total_cell, brokered_cell, penalty_balance_cell, penalty_months_cell, first_cell}
use Rattle.form.specs.Limits.{filed_coupon_limit, months_limit}
use Rattle.form.specs.Classes.{cell_class}
use Rattle.certificate_calendar.specs.declared.Date.{Date}
use Rattle.certificate_terms.specs.Terms.{certificate_count}
use Rattle.certificate_cells.specs.declared.filled_cells.Totals.{Totals}
use Rattle.certificate_cells.specs.Means.{balance_at, coupon_at, months_at}
use Rattle.certificate_cells.specs.Cells.{is_filled, is_of_position, position_with, form_cell, is_present, value_of, cells_of}
use Rattle.certificates.specs.Sums.{position_sum, balance_of, totals_of}
use Rattle.certificates.specs.Verdict.{certificates_verdict}
use Rattle.certificates.specs.Filled.{filled_cells}
use Rattle.certificates.proofs.CallLaws.{filled-some}
use Rattle.theorem_certificates.specs.Fit.{value_in, Fit}
use Rattle.theorem_certificates.proofs.LookUpLaws.{value-filled}
use Rattle.theorem_certificates.proofs.FilledLaws.{filled-balance-le, filled-coupon-le, filled-months-within, filled-months-le}
use Rattle.theorem_certificates.proofs.TotalLaws.{filled-total-le}

-- cell m, below the total, is of a class and belongs to the position at index i
record Belongs (m class i : ℕ) : Type 0 where
  from_first : first_cell ≤ m
  below_total : m < total_cell
  in-class : cell_class m ≡ class
  in-position : position_with m ≡ i

abbrev belongs : ℕ → ℕ → ℕ → Bool
belongs m class i = leb first_cell m && (ltb m total_cell && (eqb (cell_class m) class && eqb (position_with m) i))

-- the test over the nine indices passes at i, and is four tests at once: each gives its clause
belonging : (cell : ℕ → ℕ) (class : ℕ) → T (all_from 0 9 (λ (i : ℕ). belongs (cell i) class i)) → (i : ℕ) → i < 9 → Belongs (cell i) class i
belonging cell class t i h =
    let a = both (leb first_cell (cell i)) _ (all-at 0 9 (λ (j : ℕ). belongs (cell j) class j) t i (omega arith) h) in
    let b = both (ltb (cell i) total_cell) _ a.1 in
    let c = both (eqb (cell_class (cell i)) class) _ b.1 in
    record {
      from_first = leb→le first_cell (cell i) a.0;
      below_total = ltb→lt (cell i) total_cell b.0;
      in-class = eqb→eq (cell_class (cell i)) class c.0;
      in-position = eqb→eq (position_with (cell i)) i c.1;
    }

balance-belongs : (i : ℕ) → i < 9 → Belongs (position_at i).balance 1 i
unfolding all_from cell_class contains first_from is_of_position position_with positions position_at position
balance-belongs i h = belonging (λ (j : ℕ). (position_at j).balance) 1 tt i h

coupon-belongs : (i : ℕ) → i < 9 → Belongs (position_at i).coupon 2 i
unfolding all_from cell_class contains first_from is_of_position position_with positions position_at position
coupon-belongs i h = belonging (λ (j : ℕ). (position_at j).coupon) 2 tt i h

months-belongs : (i : ℕ) → i < 9 → Belongs (position_at i).months 3 i
unfolding all_from cell_class contains first_from is_of_position position_with positions position_at position
months-belongs i h = belonging (λ (j : ℕ). (position_at j).months) 3 tt i h

-- a value that is handed back only where the balance is not 0
shown : (b : Bool) (x : ℕ) → cond (false || not b) x 0 ≡ cond b 0 x
shown true x = refl
shown false x = refl

own : (b x : ℕ) (t : Bool) → eqb b 0 ≡ t → cond t 0 b ≡ b
own b x true e = sym (eqb-true b 0 e)
own b x false e = refl

at_most : (b x limit : ℕ) → (0 < b → x ≤ limit) → cond (eqb b 0) 0 x ≤ limit
at_most b x limit f = by (eqb b 0) refl
  where
    by : (t : Bool) → eqb b 0 ≡ t → cond t 0 x ≤ limit
    by true e = omega arith
    by false e = let some = eqb-false b 0 e in f (omega arith)

-- the nine balances by position
pub balances-by-position : (f : ℕ → ℕ) → map (λ (p : Position). f p.balance) positions ≡ table 9 (λ (i : ℕ). f (position_at i).balance)
unfolding positions position_at position table_from
balances-by-position f = refl

module _ (t : Totals) where
  -- what a cell of a position holds
  value-at : (m class i : ℕ) → Belongs m class i → is_filled m ≡ true
      → value_in (cells_of t) m ≡ cond (eqb (balance_at t i) 0) 0 (value_of t (record { cell = m; class = class; position = i }))
  unfolding is_present form_cell
  value-at m class i b f =
      value-filled t m b.from_first (omega (arith, b.below_total)) f
      ∙ rw (b.in-class, b.in-position, ne_eqb m total_cell (λ e. omega (arith, b.below_total)))
      (shown (eqb (balance_at t i) 0) (value_of t (record { cell = m; class = class; position = i })))

  pub balance-value : (i : ℕ) → i < 9 → value_in (cells_of t) (position_at i).balance ≡ balance_at t i
  unfolding value_of is_filled within
  balance-value i h =
      let b = balance-belongs i h in
      value-at (position_at i).balance 1 i b (rw b.in-class) ∙ own (balance_at t i) 0 (eqb (balance_at t i) 0) refl

  pub coupon-value : (i : ℕ) → i < 9 → value_in (cells_of t) (position_at i).coupon ≡ cond (eqb (balance_at t i) 0) 0 (coupon_at t i)
  unfolding value_of is_filled within
  coupon-value i h = let b = coupon-belongs i h in value-at (position_at i).coupon 2 i b (rw b.in-class)

  pub months-value : (i : ℕ) → i < 9 → value_in (cells_of t) (position_at i).months ≡ cond (eqb (balance_at t i) 0) 0 (months_at t i)
  unfolding value_of is_filled within
  months-value i h = let b = months-belongs i h in value-at (position_at i).months 3 i b (rw b.in-class)

  pub total-value : value_in (cells_of t) total_cell ≡ sum t.balance
  unfolding value_of is_present form_cell is_filled within cell_class contains positions position brokered_cell penalty_balance_cell penalty_months_cell
  total-value = value-filled t total_cell (omega arith) (omega arith) refl

  pub balances-are : map (λ (p : Position). value_in (cells_of t) p.balance) positions ≡ table 9 (balance_at t)
  balances-are =
      balances-by-position (value_in (cells_of t))
      ∙ table-ext 9 (λ (i : ℕ). value_in (cells_of t) (position_at i).balance) (balance_at t) balance-value

module _ (v : Date) (s : List ℕ) (accepted : (certificates_verdict v s).number ≡ 0) where
  sums-table : table 9 (balance_at (totals_of v s (certificate_count s))) ≡ (totals_of v s (certificate_count s)).balance
  unfolding balance_at totals_of
  sums-table =
      table-ext 9 _ (λ (i : ℕ). position_sum v s balance_of i (certificate_count s))
      (λ i h. table-get_or 9 (λ (j : ℕ). position_sum v s balance_of j (certificate_count s)) i 0 h)

  -- each cell holds the sum or mean of its position, or 0 where the balance is 0: the sums and means of accepted certificates are within the
  -- limits and the rows, and the total is the sum of the nine balances
  fit : Fit (cells_of (totals_of v s (certificate_count s)))
  fit =
      let t : Totals = totals_of v s (certificate_count s) in
      record {
        balance-limit = λ i h. rw (balance-value t i h) (filled-balance-le v s accepted i h);
        coupon-limit = λ i h. rw (coupon-value t i h) (at_most (balance_at t i) (coupon_at t i) filed_coupon_limit (filled-coupon-le v s accepted i h));
        months-limit = λ i h. rw (months-value t i h) (at_most (balance_at t i) (months_at t i) months_limit (filled-months-le v s accepted i h));
        months-in-row =
            λ i h some. let b : 0 < balance_at t i = rw (balance-value t i h) at some in
            rw (months-value t i h, ne_eqb (balance_at t i) 0 (λ e. omega arith)) (filled-months-within v s accepted i h b);
        total-limit = rw (total-value t) (filled-total-le v s accepted);
        total-is-sum = total-value t ∙ ap sum (sym (balances-are t ∙ sums-table));
      }

  -- the cells that the call hands back
  pub certificates-fit : Fit (filled_cells v s)
  certificates-fit = rw (filled-some v s accepted) fit
