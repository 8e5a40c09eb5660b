-- A record that stands byte by byte in another filing: it is the same there, and has the same faults but for repetitions. Assumes nothing.
use Prim.Native.Nat.{ℕ, zero, suc, ◌+◌, ◌*◌, ◌-◌, ◌≤◌, ◌<◌}
use native.Mathlib.Nat.{add-zero, add_assoc}
use native.Mathlib.Omega.{arith}
use mathlib.Core.Path.{◌≡◌, refl, ◌∙◌}
use mathlib.Core.Bool.{Bool, true, false, cond, ◌||◌, ◌&&◌}
use mathlib.Core.List.{List}
use borrow.Author.Tests.{eqb-true, eqb-false}
use lib.Dec.{ltb, eqb}
use lib.ListN.{length}
use Rattle.lists.specs.Tables.{any_below}
use Rattle.form.specs.Limits.{tier_limit}
use Rattle.record_fields.specs.Bytes.{number_at}
use Rattle.record_fields.specs.Records.{record_length, record_kind, record_cell, record_value, sheet_number, tier_count}
use Rattle.record_kinds.specs.Kinds.{sheet_of, sheet_kinds, sheet_kind, sheet_length, gives_cell, amendment_kind, tiers_kind, due_length}
use Rattle.record_kinds.specs.Items.{record_class, record_item}
use Rattle.record_limits.specs.Bodies.{number_over, value_limit, over_limit}
use Rattle.record_limits.specs.TierFaults.{unfit_tier, unsound_tiers}
use Rattle.record_shape.specs.Faults.{misshapen, unlisted}

-- tests that agree below n: one passes there just where the other does
any_same : (f g : ℕ → Bool) (n : ℕ) → ((i : ℕ) → i < n → f i ≡ g i) → any_below f n ≡ any_below g n
unfolding any_below
any_same f g zero h = refl
any_same f g (suc n) h = rw (any_same f g n (λ i l. h i (omega arith)), h n (omega arith))

-- the record at `at` in s stands at k in t
pub record Copied (s t : List ℕ) (at k : ℕ) : Type 0 where
  pub numbers : (i n : ℕ) → i + n ≤ 2 + record_length s at → number_at t (k + i) n ≡ number_at s (at + i) n
  pub ends : k + (2 + record_length s at) ≤ length t

-- a length that a kind has is 4 at least: 12, 16, 4 and 4 for each tier, or 2 and 2 for each of one or more numbers
pub due-four : (s : List ℕ) (at : ℕ) → (due_length s at ≡ 0 → ⊥) → 4 ≤ due_length s at
unfolding due_length sheet_length
due-four s at =
    by (gives_cell (record_kind s at)) (eqb (record_kind s at) amendment_kind) (eqb (record_kind s at) tiers_kind) (eqb (sheet_kind (record_kind s at)).numbers 0)
    (tier_count s at) (sheet_kind (record_kind s at)).numbers refl
  where
    by : (gives amends tiers none : Bool) (count n : ℕ) → eqb n 0 ≡ none
        → (cond gives 12 (cond amends 16 (cond tiers (4 + 4 * count) (cond none 0 (2 + 2 * n)))) ≡ 0 → ⊥)
        → 4 ≤ cond gives 12 (cond amends 16 (cond tiers (4 + 4 * count) (cond none 0 (2 + 2 * n))))
    by true amends tiers none count n e h = omega arith
    by false true tiers none count n e h = omega arith
    by false false true none count n e h = omega arith
    by false false false true count n e h = absurd (h refl)
    by false false false false count n e h = let some = eqb-false n 0 e in omega arith

module _ (s t : List ℕ) (at k : ℕ) (c : Copied s t at k) where
  pub length-copied : record_length t k ≡ record_length s at
  length-copied = rw (add-zero k, add-zero at) at (c.numbers 0 2 (omega arith))

  pub number-copied : (i : ℕ) → 2 + 2 * i ≤ record_length s at → sheet_number t k i ≡ sheet_number s at i
  number-copied i h = rw (add_assoc k 2 (2 * i), add_assoc at 2 (2 * i)) (c.numbers (2 + 2 * i) 2 (omega arith))

  module _ (shaped : record_length s at ≡ due_length s at) (four : 4 ≤ record_length s at) where
    pub kind-copied : record_kind t k ≡ record_kind s at
    kind-copied = c.numbers 2 2 (omega arith)

    pub cell-copied : record_cell t k ≡ record_cell s at
    cell-copied = c.numbers 4 2 (omega arith)

    count-copied : tier_count t k ≡ tier_count s at
    count-copied = number-copied 1 (omega arith)

    due-copied : due_length t k ≡ due_length s at
    unfolding due_length
    due-copied = rw (kind-copied, count-copied)

    pub shape-copied : misshapen t k ≡ misshapen s at
    shape-copied = rw (length-copied, due-copied)

    class-copied : record_class t k ≡ record_class s at
    unfolding record_class
    class-copied = rw (kind-copied, cell-copied)

    pub listed-copied : unlisted t k ≡ unlisted s at
    listed-copied = rw (kind-copied, class-copied)

    -- the tiers: their count and every number up to it
    pub tiers-length : record_kind s at ≡ tiers_kind → record_length s at ≡ 4 + 4 * tier_count s at
    unfolding due_length gives_cell
    tiers-length e = shaped ∙ rw e

    -- the test of tier i reads its two numbers and those of the tier before; all four lie within the 4 + 4 × count bytes that are copied
    tier-copied : record_kind s at ≡ tiers_kind → (i : ℕ) → i < tier_count s at → unfit_tier t k i ≡ unfit_tier s at i
    unfolding unfit_tier
    tier-copied e i l =
        let due = tiers-length e in
        rw (
          number-copied (3 + 2 * i) (omega arith),
          number-copied (2 + 2 * i) (omega arith),
          number-copied (3 + 2 * (i - 1)) (omega arith),
          number-copied (2 + 2 * (i - 1)) (omega arith),
        )

    pub tiers-copied : unsound_tiers t k ≡ unsound_tiers s at
    unfolding unsound_tiers
    tiers-copied = rw (kind-copied, count-copied) (by (eqb (record_kind s at) tiers_kind) refl)
      where
        by : (tiers : Bool) → eqb (record_kind s at) tiers_kind ≡ tiers
            → (tiers && (ltb (tier_count s at) 1 || (ltb tier_limit (tier_count s at) || any_below (unfit_tier t k) (tier_count s at))))
            ≡ (tiers && (ltb (tier_count s at) 1 || (ltb tier_limit (tier_count s at) || any_below (unfit_tier s at) (tier_count s at))))
        by true e = rw (any_same (unfit_tier t k) (unfit_tier s at) (tier_count s at) (tier-copied (eqb-true (record_kind s at) tiers_kind e)))
        by false e = refl

    module _ (plain : eqb (record_kind s at) amendment_kind ≡ false) where
      -- it is one of the same
      pub item-copied : record_item t k ≡ record_item s at
      unfolding record_item
      item-copied = rw (kind-copied, class-copied, cell-copied, due-copied, plain)

      -- the length of a record of a cell, and of a sheet
      pub cell-length : gives_cell (record_kind s at) ≡ true → record_length s at ≡ 12
      unfolding due_length
      cell-length e = shaped ∙ rw e

      -- each number of a sheet lies within it: the length is 2 and 2 for each number, and number i + 1 ends at 2 + 2 (i + 1); tiers and kinds without
      -- numbers have no i below their count
      pub sheet-length : gives_cell (record_kind s at) ≡ false → (i : ℕ) → i < (sheet_kind (record_kind s at)).numbers → 2 + 2 * suc i ≤ record_length s at
      unfolding due_length sheet_kind sheet_kinds sheet_of sheet_length
      sheet-length e i l = by (eqb (record_kind s at) tiers_kind) (eqb (sheet_kind (record_kind s at)).numbers 0) refl refl
        where
          by : (tiers none : Bool) → eqb (record_kind s at) tiers_kind ≡ tiers → eqb (sheet_kind (record_kind s at)).numbers 0 ≡ none
              → 2 + 2 * suc i ≤ record_length s at
          by true none f z = let no : i < 0 = rw (eqb-true (record_kind s at) tiers_kind f) at l in absurd (omega arith)
          by false true f z = absurd (omega (arith, eqb-true (sheet_kind (record_kind s at)).numbers 0 z))
          by false false f z =
              let due : record_length s at ≡ 2 + 2 * (sheet_kind (record_kind s at)).numbers = shaped ∙ rw (e, plain, f, z) in
              omega arith

      -- kind and cell are copied, and so the limit is the same; a record of a cell compares its value, within its 12 bytes, a sheet each of its
      -- numbers, within its length, and both are copied
      pub limit-copied : over_limit t k ≡ over_limit s at
      unfolding over_limit value_limit number_over
      limit-copied = rw (kind-copied, cell-copied, plain) (by (gives_cell (record_kind s at)) refl)
        where
          top : ℕ
          top = (sheet_kind (record_kind s at)).limit

          count : ℕ
          count = (sheet_kind (record_kind s at)).numbers

          by : (gives : Bool) → gives_cell (record_kind s at) ≡ gives
              → cond gives (ltb (value_limit s at) (record_value t k)) (number_over t k top count)
              ≡ cond gives (ltb (value_limit s at) (record_value s at)) (number_over s at top count)
          by true e = rw (c.numbers 6 8 (omega (arith, cell-length e)))
          by false e =
              any_same (λ (i : ℕ). ltb top (sheet_number t k (suc i))) (λ (i : ℕ). ltb top (sheet_number s at (suc i))) count
              (λ i l. rw (number-copied (suc i) (sheet-length e i l)))
