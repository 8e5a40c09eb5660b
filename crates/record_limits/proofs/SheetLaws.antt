-- A number over the limit, on a sheet.
-- Assumes nothing.
use Prim.Native.Nat.{ℕ, suc, ◌+◌, ◌-◌, ◌≤◌, ◌<◌}
use native.Mathlib.Numerals.{add-one}
use native.Mathlib.Omega.{arith}
use mathlib.Core.Path.{◌≡◌}
use mathlib.Core.Bool.{Bool, true, false}
use mathlib.Core.List.{List}
use borrow.Author.Tests.{lt-ltb, le-ltb, ltb-false}
use lib.Dec.{ltb}
use Rattle.lists.proofs.TestLaws.{any_none, any_here, any-fails}
use Rattle.record_fields.specs.Records.{sheet_number}
use Rattle.record_limits.specs.Bodies.{number_over}

module _ (s : List ℕ) (at limit : ℕ) where
  abbrev over : ℕ → Bool
  over i = ltb limit (sheet_number s at (suc i))

  -- one number over the limit is enough
  pub number-over : (n i : ℕ) → i < n → limit < sheet_number s at (i + 1) → number_over s at limit n ≡ true
  unfolding number_over
  number-over n i l h = any_here over n i l (lt-ltb limit (sheet_number s at (suc i)) (rw add-one at h))

  -- the first i + 1 are within the limit if the first i are and the next is
  pub number-within : (i : ℕ) → number_over s at limit i ≡ false → sheet_number s at (i + 1) ≤ limit → number_over s at limit (i + 1) ≡ false
  unfolding number_over
  number-within i e h = any_none over i e (le-ltb limit (sheet_number s at (suc i)) (rw add-one at h))

  -- where none of the first n is over the limit, each of them is within it
  pub none_over : (n : ℕ) → number_over s at limit n ≡ false → (i : ℕ) → 1 ≤ i → i ≤ n → sheet_number s at i ≤ limit
  unfolding number_over
  none_over n h i l u =
      let before : suc (i - 1) ≡ i = omega arith in
      ltb-false limit (sheet_number s at i) (rw before at (any-fails over n h (i - 1) (omega arith)))
