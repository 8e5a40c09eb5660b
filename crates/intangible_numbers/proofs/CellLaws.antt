-- A cell with a balance can be walked in every scenario, and its terms are those of the definitions. Assumes nothing.
use Prim.Native.Nat.{ℕ, ◌*◌, ◌≤◌, ◌<◌}
use mathlib.Core.Path.{◌≡◌, refl, ap, fun_ext, ◌∙◌}
use mathlib.Core.List.{List}
use native.Mathlib.Nat.{le_trans, mul-le-mul_left}
use native.Mathlib.Omega.{arith}
use lib.Dec.{lit<, lit≤, leb}
use lib.ListN.{get_or}
use Rattle.lists.proofs.TestLaws.{either}
use Rattle.form.specs.Limits.{months_limit, rate_limit}
use Rattle.form.specs.Shift.{scenario_count, shifted_limit, path_rate}
use Rattle.form.proofs.ShiftLaws.{shifted-rate-le}
use Rattle.form.specs.Cells.{position_at}
use Rattle.filing_cells.proofs.SumLaws.{by-column, column-range}
use Rattle.withdrawal.specs.MonthSurvival.{retail, early_survival}
use Rattle.withdrawal.specs.declared.WithdrawalTiers.{WithdrawalTiers}
use Rattle.withdrawal.specs.Inner.TierArrays.{tier_table}
use Rattle.withdrawal.proofs.SurvivalLaws.{survival-le}
use Rattle.pricing.specs.Scales.{par}
use Rattle.price_factors.specs.Inner.Factors.{AtMostPar}
use Rattle.price_deposits.specs.Inner.Levels.{TiersLent, lent_tiers}
use Rattle.price_deposits.proofs.TermsLaws.{servicing-le}
use Rattle.intangible.specs.RollingTerms.{RollingTerms}
use Rattle.intangible.specs.RolledMonths.{term_coupon}
use Rattle.intangible.specs.Bounded.{RollingBounded, rolled_coupon_limit}
use Rattle.intangible_months.specs.declared.RetailCell.{RetailCell}
use Rattle.intangible_months.specs.Rates.{rolling_rate}
use Rattle.intangible_months.specs.Inner.Lent.{lent_survival, lent_terms}
use Rattle.intangible_months.proofs.LentLaws.{lent-survival}
use Rattle.intangible_walk.specs.Inner.Walks.{Walkable}
use Rattle.intangible_numbers.specs.Sheets.{rollover_months, cell_terms}
use Rattle.intangible_numbers.specs.Numbers.{balance_of}
use Rattle.intangible_numbers.specs.Inner.Limits.{RollingCells, RollingCell, RatesFit, WithinShares, position_count, sheets_of, retail_cell}

-- the terms of a column after a rollover
pub rollover-within : (column : ℕ) → 1 ≤ column → column ≤ 3 → (0 < rollover_months column) × (rollover_months column ≤ months_limit)
unfolding rollover_months
rollover-within =
    by-column (λ (column : ℕ). (0 < rollover_months column) × (rollover_months column ≤ months_limit)) (lit< tt, lit≤ tt) (lit< tt, lit≤ tt) (lit< tt, lit≤ tt)

-- coupons of at most `limit` are those of every term where the filed one and ten times every rate are
pub coupons-within : (k : RollingTerms) (limit : ℕ) → k.coupon ≤ limit → ((t : ℕ) → 10 * k.rate t ≤ limit) → (t : ℕ) → term_coupon k t ≤ limit
unfolding term_coupon
coupons-within k limit hc hr t = either (λ (n : ℕ). n ≤ limit) (leb t k.months) hc (hr _)

pub rate-within : (rates : List ℕ) (column scenario month : ℕ) → ((n : ℕ) → get_or rates n 0 ≤ rate_limit) → scenario < scenario_count → rolling_rate rates column scenario month ≤ shifted_limit
unfolding rolling_rate path_rate
rate-within rates column scenario month f h = shifted-rate-le scenario _ (omega arith) (f _)

-- what survives is what survives under the tiers that the edges and survivals are lent of
survival-lent : (t : WithdrawalTiers) (l : TiersLent t.count t.edges t.survivals t.retained) (c r n : ℕ)
    → lent_survival t c r n ≡ lent_survival (lent_tiers l) c r n
unfolding lent_survival
survival-lent t l c r n = refl

-- no more survives than all
survival-within : (t : WithdrawalTiers) → TiersLent t.count t.edges t.survivals t.retained → (c r n : ℕ) → lent_survival t c r n ≤ par
unfolding early_survival
survival-within t l c r n = rw (survival-lent t l c r n, lent-survival (lent_tiers l) l.usable c r n) (survival-le _)

module _ (cell : RetailCell) (scenario : ℕ) (rates : List ℕ) (t : WithdrawalTiers) (fit : RollingCell cell) (rates-fit : RatesFit rates)
    (tiers : TiersLent t.count t.edges t.survivals t.retained) (hs : scenario < scenario_count) where
  pub cell-bounded : RollingBounded rolled_coupon_limit (lent_terms cell scenario rates t)
  unfolding lent_terms
  cell-bounded =
      record {
        coupon-limit =
            coupons-within (lent_terms cell scenario rates t) rolled_coupon_limit (le_trans fit.coupon-le (lit≤ tt))
            (λ month. mul-le-mul_left 10 (rate-within rates cell.column scenario month rates-fit.rate-le hs));
        months-pos = fit.months-pos;
        months-limit = fit.months-le;
        share-limit = fit.share-le;
        servicing-limit = servicing-le retail;
        survival-limit = survival-within t tiers;
        horizon-is = refl;
      }

  pub cell-walkable : (lower upper : List ℕ) → AtMostPar lower → AtMostPar upper
      → Walkable (lent_terms cell scenario rates t) cell.column scenario rates t lower upper
  unfolding lent_terms
  cell-walkable lower upper hl hu =
      let term = rollover-within cell.column fit.column-pos fit.column-le in
      record {
        bounded = cell-bounded;
        term-pos = rw fit.term_is term.0;
        term-le = rw fit.term_is term.1;
        rates-fit = record { within = rates-fit.rate-le; first-le = fit.column-pos; last-le = fit.column-le; long = rates-fit.long };
        scenario-lt = hs;
        edges_fit = tiers.usable.edges_fit;
        lower-par = hl;
        upper-par = hu;
      }

-- the cell at a position with a balance
pub cell-fits : (cells shares : List ℕ) (i : ℕ) → RollingCells cells → WithinShares shares → i < position_count → 0 < balance_of cells i
    → RollingCell (retail_cell cells shares (position_at i))
unfolding retail_cell
cell-fits cells shares i f w h pos =
    record {
      coupon-le = f.coupon-le i h;
      months-pos = f.months-pos i h pos;
      months-le = f.months-le i h;
      column-pos = (column-range i h).0;
      column-le = (column-range i h).1;
      term_is = refl;
      share-le = w.share-le _;
    }

-- terms with another survival
abbrev with_survival : RollingTerms → (ℕ → ℕ → ℕ → ℕ) → RollingTerms
with_survival k q =
    record {
      coupon = k.coupon;
      months = k.months;
      term = k.term;
      share = k.share;
      servicing = k.servicing;
      rate = k.rate;
      survival = q;
      horizon = k.horizon;
    }

-- its terms by tiers that are lent are those of the definitions
module _ (cells yields long rates shares : List ℕ) (t : WithdrawalTiers) (l : TiersLent t.count t.edges t.survivals t.retained) where
  pub terms-are : (scenario i : ℕ)
      → lent_terms (retail_cell cells shares (position_at i)) scenario rates t
      ≡ cell_terms cells (sheets_of yields long rates shares (tier_table (lent_tiers l))) scenario i
  unfolding lent_terms retail_cell cell_terms
  terms-are scenario i =
      ap (with_survival (cell_terms cells (sheets_of yields long rates shares (tier_table (lent_tiers l))) scenario i))
      (fun_ext (λ c. fun_ext (λ r. fun_ext (λ n. survival-lent t l c r n ∙ lent-survival (lent_tiers l) l.usable c r n))))
