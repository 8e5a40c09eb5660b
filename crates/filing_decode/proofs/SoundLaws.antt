-- A filing whose records are all sound: each cell is within the limit of its class, so are the numbers of a sheet that is present, and tiers load.
-- Assumes nothing.
use Rattle.std.specs.Prelude.{Option, Some, None}
use Prim.Native.Nat.{ℕ, suc, ◌+◌, ◌*◌, ◌-◌, ◌≤◌, ◌<◌}
use native.Mathlib.Omega.{arith}
use mathlib.Core.Path.{◌≡◌, refl, sym, ap, ◌∙◌}
use mathlib.Core.Bool.{Bool, true, false, cond, not, true≢false}
use mathlib.Core.List.{List}
use borrow.Author.Tests.{le-leb, ltb-true, ltb-false, eqb-true, eq-eqb, ne_eqb, not-false, lt-ltb}
use lib.Dec.{ltb, eqb}
use lib.ListN.{length, get_or}
use Rattle.lists.specs.Tables.{table}
use Rattle.lists.proofs.TableLaws.{table_from-get_or, table-get_or, table-le}
use Rattle.form.specs.Cells.{position_at, first_cell, last_cell, cell_count}
use Rattle.form.specs.Limits.{coupon_class, coupon_limit, class_limit, held_limit, tier_limit, withdrawal_limit}
use Rattle.form.specs.Borrowings.{borrowing_at}
use Rattle.form.specs.Classes.{cell_class}
use Rattle.form.proofs.CellLaws.{CellOf, balance-cell, borrowing-balance-cell}
use Rattle.record_kinds.specs.declared.items.Item.{Item}
use Rattle.record_kinds.specs.declared.items.Item.TheVariants.{Cell, Sheet, Amendment}
use Rattle.record_fields.specs.Records.{record_kind, record_cell, amendment_state, amendment_value, sheet_number, tier_count}
use Rattle.record_kinds.specs.Kinds.{fine_coupon_kind, amendment_kind, sheet_kind, tiers_kind}
use Rattle.record_kinds.specs.Items.{same_item, record_item, first_with}
use Rattle.record_offsets.specs.Counting.{item_rank, rank}
use Rattle.record_verdicts.specs.RecordVerdicts.{first_refused, first_faulty, record_verdict}
use Rattle.record_fields.proofs.ByteLaws.{number_past}
use Rattle.record_fields.proofs.RecordLaws.{first-fails}
use Rattle.record_kinds.proofs.ItemLaws.{with-passes, record-of-cell, record-of-sheet, record-of-amendment}
use Rattle.record_limits.specs.Bodies.{value_limit}
use Rattle.record_limits.proofs.BodyLaws.{FitAmendment}
use Rattle.record_limits.proofs.TierLaws.{SoundTiers, tier-fits, tier-rises}
use Rattle.record_verdicts.proofs.FaultLaws.{Sound, record-plain, faultless-sound}
use Rattle.record_shape.proofs.RepetitionLaws.{gives-plain}
use Rattle.record_fields.proofs.FirstLaws.{first-earlier}
use Rattle.record_offsets.proofs.CountingLaws.{ranked-cell, counting_holds}
use Rattle.filing_cells.specs.Balances.{cell_in}
use Rattle.filing_contents.specs.Amounts.{filed_value, amount_at}
use Rattle.filing_contents.specs.Sheets.{tier_number, tiers_at}
use Rattle.filing_decode.specs.Contents.{cell_offset, cell_value, sheet_offset, contents_of}
use Rattle.filing_contents.specs.Contents.{cell}
use Rattle.filing_contents.proofs.AmountLaws.{amount-past}
use Rattle.filing_cells.specs.Inner.Sums.{BalancesWithin}
use Rattle.filing_cells.specs.Inner.Borrowed.{BorrowingsWithin}

-- a cell from the first to the last, as read from the contents
cell-read : (s : List ℕ) (n : ℕ) → first_cell ≤ n → n ≤ last_cell → cell (contents_of s) n ≡ cell_value s n
unfolding cell_in contents_of
cell-read s n l u =
    let e : first_cell + (n - first_cell) ≡ n = omega arith in
    simp (le-leb first_cell n l, le-leb n last_cell u) (table_from-get_or first_cell cell_count (cell_value s) (n - first_cell) 0 (omega arith) ∙ ap (cell_value s) e)

module _ (s : List ℕ) (none : first_faulty s ≡ length s) where
  -- a record without a fault
  sound-at : (at : ℕ) → not (eqb (record_verdict s at).number 0) ≡ false → Sound s at
  sound-at at h =
      faultless-sound s at (record-plain s at (eqb-true (record_verdict s at).number 0 (not-false (eqb (record_verdict s at).number 0) h)))

  -- every record that a search for an item finds is without a fault
  item-sound : (item : Option Item) → first_with s item (length s) < length s → Sound s (first_with s item (length s))
  unfolding first_refused first_with
  item-sound item h =
      sound-at (first_with s item (length s))
      (first-fails s (λ (i : ℕ). not (eqb (record_verdict s i).number 0)) (λ (i : ℕ). same_item (record_item s i) item) (length s) (omega (arith, none)) h)

  -- the record that counts for a cell is without a fault and of the cell
  counting-sound : (n : ℕ) → cell_offset s n < length s → Sound s (cell_offset s n) × (0 < rank s n (cell_offset s n))
  unfolding first_refused cell_offset
  counting-sound n =
      counting_holds s n (λ (at : ℕ). at < length s → Sound s at × (0 < rank s n at)) (length s) (λ l. absurd (omega arith))
      (λ at r l of h. (sound-at at (first-earlier s (λ (i : ℕ). not (eqb (record_verdict s i).number 0)) (length s) at r (omega (arith, none))), of))

  -- a value within its limit gives its cell no more than what a filing may say
  amount-limit : (at value : ℕ) (fine coupon : Bool) → eqb (cell_class (record_cell s at)) coupon_class ≡ coupon
      → (fine ≡ true → cell_class (record_cell s at) ≡ coupon_class)
      → value ≤ cond fine coupon_limit (class_limit (cell_class (record_cell s at)))
      → cond fine value (cond coupon (10 * value) value) ≤ cond coupon coupon_limit (class_limit (cell_class (record_cell s at)))
  unfolding class_limit
  amount-limit at value true true f c h = h
  amount-limit at value true false f c h = absurd (true≢false (sym (eq-eqb (cell_class (record_cell s at)) coupon_class (c refl)) ∙ f))
  amount-limit at value false true f c h = omega (arith, rw (eqb-true (cell_class (record_cell s at)) coupon_class f) at h)
  amount-limit at value false false f c h = h

  -- what a record that counts holds: its cell, a value within its limit, and a coupon where it is of kind 6
  record Holds (n at : ℕ) : Type 0 where
    cell-is : record_cell s at ≡ n
    coupon : record_kind s at ≡ fine_coupon_kind → cell_class (record_cell s at) ≡ coupon_class
    limited : filed_value s at ≤ value_limit s at

  -- a record of a cell: a sound record's value is within the limit of its kind
  cell_holds : (n at : ℕ) → Sound s at → record_item s at ≡ Some (Cell n) → Holds n at
  unfolding filed_value
  cell_holds n at sound e =
      let of = record-of-cell s at n e in
      record {
        cell-is = of.cell-is;
        coupon = λ k. rw of.cell-is (of.coupon k);
        limited = rw (gives-plain (record_kind s at) of.gives) (sound.value-limit of.gives);
      }

  -- an amendment: its value is within the limit of its cell's class, or the cell is withdrawn, which is 0; it is not of kind 6
  amendment-holds : (n number at : ℕ) → Sound s at → record_item s at ≡ Some (Amendment n number) → Holds n at
  unfolding filed_value value_limit
  amendment-holds n number at sound e =
      let of = record-of-amendment s at n number e in
      let fit = sound.amendment of.kind-is in
      let other : record_kind s at ≡ fine_coupon_kind → ⊥ = λ k. omega (arith, of.kind-is) in
      record {
        cell-is = of.cell-is;
        coupon = λ k. absurd (other k);
        limited =
            simp (eq-eqb (record_kind s at) amendment_kind of.kind-is, ne_eqb (record_kind s at) fine_coupon_kind other)
            (by fit (eqb (amendment_state s at) 0) refl);
      }
    where
      by : FitAmendment s at → (b : Bool) → eqb (amendment_state s at) 0 ≡ b → cond b (amendment_value s at) 0 ≤ class_limit (cell_class (record_cell s at))
      by fit true v = fit.limited (eqb-true (amendment_state s at) 0 v)
      by fit false v = omega arith

  -- a record that counts for cell n ranks above 0, and so is of that cell or amends it
  holds : (n : ℕ) → cell_offset s n < length s → Holds n (cell_offset s n)
  unfolding item_rank
  holds n h = let c = counting-sound n h in by (record_item s (cell_offset s n)) refl c.0 c.1
    where
      by : (item : Option Item) → record_item s (cell_offset s n) ≡ item → Sound s (cell_offset s n) → 0 < item_rank n (record_item s (cell_offset s n)) → Holds n (cell_offset s n)
      by (Some (Cell m)) e sound l = cell_holds n (cell_offset s n) sound (e ∙ ap (λ (c : ℕ). Some (Cell c)) (ranked-cell m n 1 (rw e at l)))
      by (Some (Sheet kind)) e sound l = absurd (omega (arith, rw e at l))
      by (Some (Amendment m number)) e sound l =
          amendment-holds n number (cell_offset s n) sound (e ∙ ap (λ (c : ℕ). Some (Amendment c number)) (ranked-cell m n (number + 1) (rw e at l)))
      by None e sound l = absurd (omega (arith, rw e at l))

  present-limit : (n : ℕ) → cell_offset s n < length s → amount_at s (cell_offset s n) ≤ held_limit (cell_class (record_cell s (cell_offset s n)))
  unfolding amount_at held_limit value_limit
  present-limit n h =
      let at = cell_offset s n in
      let what = holds n h in
      amount-limit at (filed_value s at) (eqb (record_kind s at) fine_coupon_kind) (eqb (cell_class (record_cell s at)) coupon_class) refl
      (λ e. what.coupon (eqb-true (record_kind s at) fine_coupon_kind e)) what.limited

  pub offset-limit : (n : ℕ) → amount_at s (cell_offset s n) ≤ held_limit (cell_class (record_cell s (cell_offset s n)))
  offset-limit n = by (ltb (cell_offset s n) (length s)) refl
    where
      by : (b : Bool) → ltb (cell_offset s n) (length s) ≡ b → amount_at s (cell_offset s n) ≤ held_limit (cell_class (record_cell s (cell_offset s n)))
      by true e = present-limit n (ltb-true (cell_offset s n) (length s) e)
      by false e = omega (arith, amount-past s (cell_offset s n) (ltb-false (cell_offset s n) (length s) e))

  cell-limit : (n : ℕ) → cell_value s n ≤ held_limit (cell_class n)
  unfolding cell_value
  cell-limit n = by (ltb (cell_offset s n) (length s)) refl
    where
      by : (b : Bool) → ltb (cell_offset s n) (length s) ≡ b → cond b (amount_at s (cell_offset s n)) 0 ≤ held_limit (cell_class n)
      by true e = rw (holds n (ltb-true (cell_offset s n) (length s) e)).cell-is at (offset-limit n)
      by false e = omega arith

  -- a cell is within the limit of its class
  pub cell-within : (n class : ℕ) → CellOf n class → cell (contents_of s) n ≤ held_limit class
  cell-within n class c = rw (cell-read s n c.from_first c.to_last, ← c.in-class) (cell-limit n)

  -- so no sum of balances wraps
  pub balances-within : BalancesWithin (contents_of s).cells
  unfolding held_limit class_limit
  balances-within i h = cell-within (position_at i).balance 1 (balance-cell i h)

  pub borrowings-within : BorrowingsWithin (contents_of s).cells
  unfolding held_limit class_limit
  borrowings-within i h = cell-within (borrowing_at i).balance 8 (borrowing-balance-cell i h)

  -- each number of a sheet that is present is within the limit of its kind
  pub sheet-limit : (kind : ℕ) → sheet_offset s kind < length s
      → (i : ℕ) → 1 ≤ i → i ≤ (sheet_kind kind).numbers → sheet_number s (sheet_offset s kind) i ≤ (sheet_kind kind).limit
  unfolding sheet_offset
  sheet-limit kind h i l u =
      let is-sheet = record-of-sheet s (sheet_offset s kind) kind (with-passes s (Some (Sheet kind)) (length s) h) in
      rw is-sheet.kind-is at ((item-sound (Some (Sheet kind)) h).number-limit i l (rw is-sheet.kind-is u))

  -- tiers that are present load
  tiers-sound : sheet_offset s tiers_kind < length s → SoundTiers s (sheet_offset s tiers_kind)
  unfolding sheet_offset
  tiers-sound h =
      let is-sheet = record-of-sheet s (sheet_offset s tiers_kind) tiers_kind (with-passes s (Some (Sheet tiers_kind)) (length s) h) in
      (item-sound (Some (Sheet tiers_kind)) h).tiers is-sheet.kind-is

  -- at most sixteen tiers, and none where there is no record of them
  pub tier-count-within : (contents_of s).tiers.count ≤ tier_limit
  unfolding contents_of tiers_at
  tier-count-within = by-presence (ltb at (length s)) refl
    where
      at : ℕ
      at = sheet_offset s tiers_kind

      by-presence : (b : Bool) → ltb at (length s) ≡ b → tier_count s at ≤ tier_limit
      by-presence true e = (tiers-sound (ltb-true at (length s) e)).few
      by-presence false e = omega (arith, number_past s (at + 2 + 2 * 1) 2 (omega (arith, ltb-false at (length s) e)))

  -- each edge is above the one before: where the record of tiers is there it is sound, both indices are within its count, and its tier i + 1
  -- fits, which asks that; where it is not the count is 0, and no index is below it
  pub tier-edges-rise : (i : ℕ) → suc i < (contents_of s).tiers.count → get_or (contents_of s).tiers.edges i 0 < get_or (contents_of s).tiers.edges (suc i) 0
  unfolding contents_of tiers_at tier_number
  tier-edges-rise i h = by-presence (ltb at (length s)) refl
    where
      at : ℕ
      at = sheet_offset s tiers_kind

      edge : ℕ → ℕ
      edge = tier_number s at (tier_count s at) 2

      by-presence : (b : Bool) → ltb at (length s) ≡ b → get_or (table tier_limit edge) i 0 < get_or (table tier_limit edge) (suc i) 0
      by-presence true e =
          let sound = tiers-sound (ltb-true at (length s) e) in
          let few = sound.few in
          rw (
            table-get_or tier_limit edge i 0 (omega arith),
            table-get_or tier_limit edge (suc i) 0 (omega arith),
            lt-ltb i (tier_count s at) (omega arith),
            lt-ltb (suc i) (tier_count s at) h,
          )
          (tier-rises s at i (sound.fits (suc i) h))
      by-presence false e = absurd (omega (arith, h, number_past s (at + 2 + 2 * 1) 2 (omega (arith, ltb-false at (length s) e))))

  -- each withdrawal is within its limit: below the count that of a tier that fits, past it 0; where there is no record of tiers the count is 0
  pub tier-withdrawal-within : (i : ℕ) → get_or (contents_of s).tiers.withdrawals i 0 ≤ withdrawal_limit
  unfolding contents_of tiers_at tier_number
  tier-withdrawal-within =
      table-le 0 tier_limit (tier_number s at (tier_count s at) 3) withdrawal_limit
      (λ j l u. by_index j (ltb j (tier_count s at)) refl (ltb at (length s)) refl)
    where
      at : ℕ
      at = sheet_offset s tiers_kind

      by_index : (j : ℕ) (b : Bool) → ltb j (tier_count s at) ≡ b → (p : Bool) → ltb at (length s) ≡ p
          → cond b (sheet_number s at (3 + 2 * j)) 0 ≤ withdrawal_limit
      by_index j true e true h = tier-fits s at j ((tiers-sound (ltb-true at (length s) h)).fits j (ltb-true j (tier_count s at) e))
      by_index j true e false h =
          absurd (omega (arith, ltb-true j (tier_count s at) e, number_past s (at + 2 + 2 * 1) 2 (omega (arith, ltb-false at (length s) h))))
      by_index j false e p h = omega arith
