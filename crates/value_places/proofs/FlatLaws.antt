-- A filing without kind 5 (02:CR 3) is valued as document 01 says: its deposits have the terms of one retail rate for each column, that of kind 3.
-- Assumes nothing.
use Prim.Native.Nat.{ℕ, ◌+◌, ◌*◌, ◌-◌, ◌/◌, ◌≤◌, ◌<◌}
use mathlib.Core.Path.{◌≡◌}
use mathlib.Core.List.{List}
use native.Mathlib.Nat.{lt_of_lt_of_le}
use native.Mathlib.Omega.{arith}
use borrow.Author.Tests.{le-ltb}
use lib.ListN.{length}
use Rattle.lists.proofs.TableLaws.{table-get_or}
use Rattle.form.specs.Limits.{sheet_months, rate_count}
use Rattle.form.specs.Shift.{shifted_rate, path_rate}
use Rattle.record_fields.specs.Records.{sheet_number}
use Rattle.record_kinds.specs.Kinds.{flat_rates_kind, rate_path_kind}
use Rattle.filing_cells.proofs.SumLaws.{column-range}
use Rattle.filing_decode.specs.Contents.{sheet_offset, rate_number, contents_of}
use Rattle.filing_contents.specs.Contents.{retail_rate}
use Rattle.filing_contents.specs.Valid.{Valid}
use Rattle.shares.specs.Places.{place_at}
use Rattle.form.specs.PlaceOrder.{position_of, sub_balance_count}
use Rattle.price_deposits.specs.DepositTerms.{terms_of}
use Rattle.price_deposits.proofs.TermsLaws.{flat-terms}
use Rattle.withdrawal_filing.specs.FilingTiers.{filing_tiers}
use Rattle.value_places.specs.PlaceTerms.{deposit_at, rate_at, terms_held}
use Rattle.value_places.proofs.PlaceTermsLaws.{deposit-limits}

module _ (s : List ℕ) (flat : length s ≤ sheet_offset s rate_path_kind) where
  flat-rate : (column t : ℕ) → 1 ≤ column → column ≤ 3 → t < sheet_months → retail_rate (contents_of s) column t ≡ sheet_number s (sheet_offset s flat_rates_kind) column
  unfolding path_rate contents_of rate_number
  flat-rate column t l u h =
      let place = sheet_months * (column - 1) + (t - 1) in
      let row : place / sheet_months + 1 ≡ column = omega arith in
      rw (table-get_or rate_count (rate_number s) place 0 (omega arith), le-ltb _ _ flat, row)

  -- each month t of the term is within 120, where the rate of the place's column is that of the flat sheet
  pub flat-terms-at : Valid (contents_of s) → (scenario place : ℕ) → place < sub_balance_count
      → let k = contents_of s in
      terms_held k scenario place (place_at k.cells place)
      ≡ terms_of (filing_tiers k) (deposit_at place (place_at k.cells place))
      (λ (t : ℕ). shifted_rate scenario (sheet_number s (sheet_offset s flat_rates_kind) (position_of place).column))
  unfolding terms_held rate_at position_of
  flat-terms-at v scenario place h =
      let range = column-range (place / 4) (omega arith) in
      flat-terms _ _ _ _
      (λ t l. rw (flat-rate (position_of place).column t range.0 range.1 (lt_of_lt_of_le l (deposit-limits (contents_of s) v place h).months-le)))
