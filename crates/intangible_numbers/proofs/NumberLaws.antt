-- The numbers by tables of discount factors are those of the definitions. Assumes nothing.
use Prim.Native.Nat.{ℕ, zero, suc, ◌≤◌, ◌<◌}
use mathlib.Core.Path.{◌≡◌, refl, sym, ap}
use mathlib.Core.List.{List, [], ◌∷◌}
use mathlib.Core.Logic.{⊎_elim}
use native.Mathlib.Nat.{eq-zero-or-pos, lt_of_lt_of_le, le_refl}
use native.Mathlib.Omega.{arith}
use borrow.Author.Tests.{eq-eqb, ne_eqb}
use lib.Dec.{eqb}
use lib.IntN.{ℤ, pos}
use lib.ListN.{length, replicate}
use Rattle.lists.specs.Tables.{table_from, table, joined}
use Rattle.lists.proofs.TableLaws.{table-ext, joined_length}
use Rattle.lists.proofs.TestLaws.{either}
use Rattle.form.specs.Cells.{position_at}
use Rattle.form.specs.Counts.{place_value_count}
use Rattle.form.specs.Shift.{scenario_count}
use Rattle.withdrawal.specs.Tiers.{TierTable}
use Rattle.withdrawal.specs.declared.WithdrawalTiers.{WithdrawalTiers}
use Rattle.withdrawal.specs.Inner.TierArrays.{tier_table}
use Rattle.pricing.specs.Rounding.{Rounding, down, up}
use Rattle.pricing.specs.Run.{discount_factor_by}
use Rattle.pricing.proofs.FlowWidthLaws.{discounted-ext}
use Rattle.price_factors.specs.Inner.Factors.{factor_in}
use Rattle.price_deposits.specs.Inner.Levels.{TiersLent, lent_tiers}
use Rattle.intangible.specs.RollingTerms.{RollingTerms, last_month}
use Rattle.intangible.specs.Run.{later_flow_by, first_by, sum_by, lower_intangible, upper_intangible}
use Rattle.intangible_months.specs.Inner.Lent.{lent_terms}
use Rattle.intangible_cells.specs.Inner.Filed.{intangible_by}
use Rattle.intangible_numbers.specs.Sheets.{RollingSheets, long_yield, cell_terms}
use Rattle.intangible_numbers.specs.Numbers.{position_count, balance_of, lower_at, upper_at, bounds_of, cell_numbers, numbers}
use Rattle.intangible_numbers.specs.Inner.Limits.{RollingCells, sheets_of, long_factors, retail_cell, lent_numbers, cell_numbers_by}
use Rattle.intangible_numbers.proofs.FactorLaws.{long-factor-is}
use Rattle.intangible_numbers.proofs.CellLaws.{terms-are}

-- terms of at most 360 months in a scenario, by the factors of two sheets of yields
module _ (yields long rates shares : List ℕ) (tiers : TierTable) (scenario : ℕ) (hs : scenario < scenario_count) where
  abbrev x : RollingSheets
  x = sheets_of yields long rates shares tiers

  -- the factor of a month from 1 on
  factor-at : (ρ : Rounding) (month : ℕ) → 0 < month → month ≤ last_month
      → factor_in (long_factors ρ yields long) scenario month ≡ discount_factor_by ρ (long_yield x scenario) month
  factor-at ρ zero h l = absurd (omega arith)
  factor-at ρ (suc t) h l = long-factor-is ρ yields long rates shares tiers scenario t hs l

  module _ (ρ : Rounding) (k : RollingTerms) where
    first-is : 0 < k.months → k.months ≤ last_month
        → first_by ρ k (factor_in (long_factors ρ yields long) scenario) ≡ first_by ρ k (discount_factor_by ρ (long_yield x scenario))
    unfolding first_by
    first-is h l = rw (factor-at ρ k.months h l)

    sum_is : k.horizon ≤ last_month
        → sum_by ρ k (factor_in (long_factors ρ yields long) scenario) k.horizon ≡ sum_by ρ k (discount_factor_by ρ (long_yield x scenario)) k.horizon
    unfolding sum_by
    sum_is l =
        discounted-ext ρ (later_flow_by ρ k) (factor_in (long_factors ρ yields long) scenario) (discount_factor_by ρ (long_yield x scenario)) k.horizon
        (λ t h. long-factor-is ρ yields long rates shares tiers scenario t hs (lt_of_lt_of_le h l))

  -- lower and upper result
  results-are : (k : RollingTerms) → 0 < k.months → k.months ≤ last_month → k.horizon ≤ last_month
      → intangible_by k scenario (long_factors down yields long) (long_factors up yields long)
      ≡ lower_intangible k (long_yield x scenario) ∷ upper_intangible k (long_yield x scenario) ∷ []
  unfolding intangible_by lower_intangible upper_intangible
  results-are k h l g = rw (first-is down k h l, first-is up k h l, sum_is down k g, sum_is up k g)

-- a cell has fourteen numbers
pub row-length : (cells : List ℕ) (x : RollingSheets) (i : ℕ) → length (cell_numbers cells x i) ≡ place_value_count
unfolding cell_numbers bounds_of
row-length cells x i = joined_length 2 0 scenario_count _ (λ s. refl)

-- the cells of a filing by tiers that are lent
module _ (cells yields long rates shares : List ℕ) (t : WithdrawalTiers) (l : TiersLent t.count t.edges t.survivals t.retained)
    (f : RollingCells cells) (i : ℕ) (h : i < position_count) where
  abbrev y : RollingSheets
  y = sheets_of yields long rates shares (tier_table (lent_tiers l))

  -- one with a balance in a scenario
  bounds-are : 0 < balance_of cells i → (s : ℕ) → s < scenario_count
      → intangible_by (lent_terms (retail_cell cells shares (position_at i)) s rates t) s (long_factors down yields long) (long_factors up yields long)
      ≡ bounds_of cells y i s
  unfolding bounds_of lower_at upper_at cell_terms
  bounds-are p s hs =
      rw (terms-are cells yields long rates shares t l s i, ne_eqb (balance_of cells i) 0 (λ e. omega (arith, e)))
      (results-are yields long rates shares (tier_table (lent_tiers l)) s hs (cell_terms cells y s i) (f.months-pos i h p) (omega (arith, f.months-le i h)) (le_refl last_month))

  lent-are : 0 < balance_of cells i
      → lent_numbers (retail_cell cells shares (position_at i)) rates t (long_factors down yields long) (long_factors up yields long)
      ≡ cell_numbers cells y i
  unfolding lent_numbers cell_numbers
  lent-are p = ap joined (table-ext scenario_count _ (bounds_of cells y i) (bounds-are p))

  zeros-are : balance_of cells i ≡ 0 → cell_numbers cells y i ≡ replicate place_value_count (pos 0)
  unfolding cell_numbers bounds_of lower_at upper_at table_from joined
  zeros-are e = rw (eq-eqb (balance_of cells i) 0 e)

  -- and the fourteen numbers, 0s where it has none
  pub cell_row : cell_numbers_by cells i rates shares t (long_factors down yields long) (long_factors up yields long) ≡ cell_numbers cells y i
  unfolding cell_numbers_by
  cell_row = ⊎_elim none some (eq-zero-or-pos (balance_of cells i))
    where
      none : balance_of cells i ≡ 0 → cell_numbers_by cells i rates shares t (long_factors down yields long) (long_factors up yields long) ≡ cell_numbers cells y i
      none e = rw (eq-eqb (balance_of cells i) 0 e) (sym (zeros-are e))

      some : 0 < balance_of cells i → cell_numbers_by cells i rates shares t (long_factors down yields long) (long_factors up yields long) ≡ cell_numbers cells y i
      some p = rw (ne_eqb (balance_of cells i) 0 (λ e. omega (arith, e))) (lent-are p)

-- a cell's numbers by tables are fourteen too
pub tabled-length : (cells rates shares : List ℕ) (t : WithdrawalTiers) (lower upper : List ℕ) (i : ℕ)
    → length (cell_numbers_by cells i rates shares t lower upper) ≡ place_value_count
unfolding cell_numbers_by lent_numbers intangible_by
tabled-length cells rates shares t lower upper i =
    either (λ (l : List ℤ). length l ≡ place_value_count) (eqb (balance_of cells i) 0) refl (joined_length 2 0 scenario_count _ (λ s. refl))

-- all nine
pub rows_are : (cells yields long rates shares : List ℕ) (t : WithdrawalTiers) (l : TiersLent t.count t.edges t.survivals t.retained)
    → RollingCells cells → {lower upper : List ℕ} → lower ≡ long_factors down yields long → upper ≡ long_factors up yields long
    → joined (table position_count (λ (i : ℕ). cell_numbers_by cells i rates shares t lower upper))
    ≡ numbers cells (sheets_of yields long rates shares (tier_table (lent_tiers l)))
unfolding numbers
rows_are cells yields long rates shares t l f el eu = rw (el, eu) (ap joined (table-ext position_count _ _ (λ i h. cell_row cells yields long rates shares t l f i h)))
