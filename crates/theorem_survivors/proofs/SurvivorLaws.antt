-- A filing with amendments says the same as one with only its surviving cells, each in a record of kind 1 or 6.
-- Assumes nothing.
use Prim.Native.Nat.{ℕ, ◌+◌, ◌*◌, ◌/◌, ◌≤◌, ◌<◌}
use native.Mathlib.Nat.{le_refl}
use native.Mathlib.Omega.{arith}
use mathlib.Core.Path.{◌≡◌, refl, sym, ◌∙◌}
use mathlib.Core.Bool.{Bool, true, false, cond, not, ◌&&◌, true≢false}
use mathlib.Core.List.{List}
use borrow.Author.Tests.{ltb-true, ltb-false, lt-ltb, le-ltb, eqb-true, ne_eqb, not-true}
use lib.Dec.{ltb, eqb, lit<}
use lib.ListN.{length}
use Rattle.lists.proofs.TestLaws.{and-true}
use Rattle.lists.proofs.TableLaws.{table_from-ext}
use Rattle.form.specs.Cells.{first_cell, last_cell, cell_count}
use Rattle.form.specs.Limits.{coupon_class, sheet_months, tier_limit, rate_count}
use Rattle.form.specs.Classes.{cell_class}
use Rattle.record_fields.specs.Records.{record_kind, record_cell, amendment_state, sheet_number, tier_count}
use Rattle.record_fields.proofs.ByteLaws.{number_past}
use Rattle.record_kinds.specs.Kinds.{kind_count, sheet_of, sheet_kinds, sheet_kind, fine_coupon_kind, amendment_kind, yields_kind, tiers_kind, rate_path_kind, flat_rates_kind, libor_kind}
use Rattle.filing_contents.specs.Amounts.{filed_value, amount_at}
use Rattle.filing_contents.specs.Sheets.{tier_number, tiers_at}
use Rattle.filing_decode.specs.Contents.{cell_offset, cell_value, sheet_offset, rate_number, contents_of}
use Rattle.theorem_survivors.specs.Survivors.{withdraws, survives, own_offset, has_sheet, numbers_of, Surviving}
use Rattle.theorem_survivors.proofs.OwnLaws.{own-counts}

-- a record that withdraws its cell gives 0: it is an amendment of another state than 0, whose filed value is 0, and 0 is 0 tenfold too
withdrawn-amount : (s : List ℕ) (at : ℕ) → withdraws s at ≡ true → amount_at s at ≡ 0
unfolding withdraws amount_at filed_value
withdrawn-amount s at h =
    let parts = and-true (eqb (record_kind s at) amendment_kind) (not (eqb (amendment_state s at) 0)) h in
    let kind = eqb-true (record_kind s at) amendment_kind parts.0 in
    simp (
      ne_eqb (record_kind s at) fine_coupon_kind (λ e. omega arith),
      parts.0,
      not-true (eqb (amendment_state s at) 0) parts.1,
    )
    (either_way (eqb (cell_class (record_cell s at)) coupon_class))
  where
    either_way : (b : Bool) → cond b (10 * 0) 0 ≡ 0
    either_way true = refl
    either_way false = refl

-- a sheet that is absent has no number but 0
absent-number : (s : List ℕ) (kind i : ℕ) → has_sheet s kind ≡ false → sheet_number s (sheet_offset s kind) i ≡ 0
absent-number s kind i h = number_past s (sheet_offset s kind + 2 + 2 * i) 2 (omega (arith, ltb-false (sheet_offset s kind) (length s) h))

module _ (s t : List ℕ) (u : Surviving s t) where
  -- the offset of a cell in t
  own : (n : ℕ) → cell_offset t n ≡ own_offset t n
  unfolding cell_offset
  own n = own-counts t u.sound u.unamended n

  -- a cell that does not survive says 0 in s
  lost : (n : ℕ) → survives s n ≡ false → cell_value s n ≡ 0
  unfolding survives cell_value
  lost n h = by (ltb (cell_offset s n) (length s)) (withdraws s (cell_offset s n)) refl refl h
    where
      by : (present gone : Bool) → ltb (cell_offset s n) (length s) ≡ present → withdraws s (cell_offset s n) ≡ gone → (present && not gone) ≡ false
          → cond present (amount_at s (cell_offset s n)) 0 ≡ 0
      by true true p g h = withdrawn-amount s (cell_offset s n) g
      by true false p g h = absurd (true≢false h)
      by false gone p g h = refl

  kept : (n : ℕ) → survives s n ≡ true → cell_value s n ≡ amount_at s (cell_offset s n)
  unfolding survives cell_value
  kept n h = simp (and-true (ltb (cell_offset s n) (length s)) (not (withdraws s (cell_offset s n))) h).0

  cell_same : (n : ℕ) → first_cell ≤ n → n ≤ last_cell → cell_value t n ≡ cell_value s n
  unfolding cell_value
  cell_same n from to = by (survives s n) refl
    where
      by : (b : Bool) → survives s n ≡ b → cell_value t n ≡ cell_value s n
      by true h = rw (own n, lt-ltb (own_offset t n) (length t) (u.stands n from to h)) (u.gives n from to h ∙ sym (kept n h))
      by false h = rw (own n, u.absent n from to h, le-ltb (length t) (length t) (le_refl (length t))) (sym (lost n h))

  -- a number up to the sheet's last: as in s where the sheet is present, and 0 in both where it is not
  number_same : (kind i : ℕ) → kind < kind_count → 1 ≤ i → i ≤ numbers_of s kind
      → sheet_number t (sheet_offset t kind) i ≡ sheet_number s (sheet_offset s kind) i
  number_same kind i k l m = by (has_sheet s kind) refl
    where
      by : (b : Bool) → has_sheet s kind ≡ b → sheet_number t (sheet_offset t kind) i ≡ sheet_number s (sheet_offset s kind) i
      by true h = u.same_numbers kind i k h l m
      by false h = absent-number t kind i (u.same-sheets kind k ∙ h) ∙ sym (absent-number s kind i h)

  yield-same : (i : ℕ) → 1 ≤ i → i ≤ sheet_months → sheet_number t (sheet_offset t yields_kind) i ≡ sheet_number s (sheet_offset s yields_kind) i
  unfolding numbers_of sheet_kind sheet_kinds sheet_of
  yield-same i l m = number_same yields_kind i (lit< tt) l m

  libor-same : (i : ℕ) → 1 ≤ i → i ≤ sheet_months → sheet_number t (sheet_offset t libor_kind) i ≡ sheet_number s (sheet_offset s libor_kind) i
  unfolding numbers_of sheet_kind sheet_kinds sheet_of
  libor-same i l m = number_same libor_kind i (lit< tt) l m

  rate-same : (i : ℕ) → i < rate_count → rate_number t i ≡ rate_number s i
  unfolding rate_number numbers_of sheet_kind sheet_kinds sheet_of
  rate-same i m =
      rw (
        u.same-sheets rate_path_kind (lit< tt),
        number_same rate_path_kind (i + 1) (lit< tt) (omega arith) (omega arith),
        number_same flat_rates_kind (i / sheet_months + 1) (lit< tt) (omega arith) (omega arith),
      )

  abbrev count_of : List ℕ → ℕ
  count_of v = tier_count v (sheet_offset v tiers_kind)

  count_same : count_of t ≡ count_of s
  unfolding numbers_of
  count_same = number_same tiers_kind 1 (lit< tt) (omega arith) (omega arith)

  -- the edge, at first 2, or the withdrawal, at first 3, of a tier: as in s below the count, and 0 past it
  tier-same : (first i : ℕ) → 2 ≤ first → first ≤ 3
      → tier_number t (sheet_offset t tiers_kind) (count_of t) first i ≡ tier_number s (sheet_offset s tiers_kind) (count_of s) first i
  unfolding tier_number numbers_of
  tier-same first i l m = rw count_same (by (ltb i (count_of s)) refl)
    where
      by : (b : Bool) → ltb i (count_of s) ≡ b
          → cond b (sheet_number t (sheet_offset t tiers_kind) (first + 2 * i)) 0 ≡ cond b (sheet_number s (sheet_offset s tiers_kind) (first + 2 * i)) 0
      by true h =
          let below = ltb-true i (count_of s) h in
          number_same tiers_kind (first + 2 * i) (lit< tt) (omega arith) (omega arith)
      by false h = refl

  -- Both say the same: cell by cell, then the CD yields of months 1 to 120, the rates of a path or of a flat sheet, the LIBOR yields, and the tiers below
  -- their count: each of these reads a sheet up to its last number
  pub survivors-say : contents_of t ≡ contents_of s
  unfolding contents_of tiers_at
  survivors-say =
      rw (
        table_from-ext first_cell cell_count (cell_value t) (cell_value s) (λ n l m. cell_same n l (omega arith)),
        table_from-ext 1 sheet_months (sheet_number t (sheet_offset t yields_kind)) (sheet_number s (sheet_offset s yields_kind)) (λ i l m. yield-same i l (omega arith)),
        table_from-ext 0 rate_count (rate_number t) (rate_number s) (λ i l m. rate-same i m),
        table_from-ext 1 sheet_months (sheet_number t (sheet_offset t libor_kind)) (sheet_number s (sheet_offset s libor_kind)) (λ i l m. libor-same i l (omega arith)),
        table_from-ext 0 tier_limit _ _ (λ i l m. tier-same 2 i (omega arith) (omega arith)),
        table_from-ext 0 tier_limit _ _ (λ i l m. tier-same 3 i (omega arith) (omega arith)),
        count_same,
      )
