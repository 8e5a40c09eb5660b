-- What a list that begins with the 126 numbers promises: they enclose the exact figures, within their width. Assumes nothing.
use Prim.Native.Nat.{ℕ, ◌+◌, ◌*◌, ◌<◌}
use mathlib.Core.Path.{◌≡◌, refl, ◌∙◌}
use mathlib.Core.Bool.{Bool, true, false, cond}
use mathlib.Core.List.{List, ◌++◌}
use mathlib.Core.Logic.{⊎_elim}
use native.Mathlib.Nat.{le_trans, mul-le-mul_left, eq-zero-or-pos}
use native.Mathlib.Omega.{arith}
use borrow.Author.Tests.{eq-eqb, ne_eqb}
use lib.Dec.{eqb, lit≤}
use lib.IntN.{ℤ, pos, ◌+ℤ◌}
use lib.ListN.{get_or, get_or-append}
use lib.Signed.{◌≤ℤ◌, le_z_yes}
use Rattle.lists.proofs.TableLaws.{joined_length, joined-get_or}
use Rattle.fraction.specs.Signed.{SignedFraction, SignedEncloses, none}
use Rattle.fraction.proofs.SignedLaws.{none-encloses}
use Rattle.form.specs.Cells.{position_at}
use Rattle.form.specs.Counts.{place_value_count}
use Rattle.form.specs.Shift.{scenario_count}
use Rattle.withdrawal.specs.MonthSurvival.{retail, early_survival}
use Rattle.withdrawal.proofs.SurvivalLaws.{survival-le}
use Rattle.price_deposits.proofs.TermsLaws.{servicing-le}
use Rattle.intangible.specs.Bounded.{RollingBounded, rolled_coupon_limit, width_limit}
use Rattle.intangible.proofs.EnclosureLaws as run
use Rattle.intangible.proofs.ResultLaws.{intangible-apart, width-limit}
use Rattle.intangible_numbers.specs.Sheets.{RollingSheets, long_yield, cell_terms}
use Rattle.intangible_numbers.specs.Numbers.{position_count, balance_of, exact_at, lower_at, upper_at, bounds_of, cell_numbers, numbers}
use Rattle.intangible_numbers.specs.Promise.{lower_in, upper_in, ValidRolling, EnclosedIntangible}
use Rattle.intangible_numbers.proofs.CellLaws.{coupons-within, rate-within}
use Rattle.intangible_numbers.proofs.NumberLaws.{row-length}

-- number b of a cell in a scenario, read off the list
module _ (cells : List ℕ) (x : RollingSheets) (rest : List ℤ) (scenario i b : ℕ) (hs : scenario < scenario_count) (hi : i < position_count) (hb : b < 2) where
  number_at : get_or (numbers cells x ++ rest) (place_value_count * i + (2 * scenario + b)) (pos 0) ≡ get_or (bounds_of cells x i scenario) b (pos 0)
  unfolding numbers cell_numbers bounds_of
  number_at =
      get_or-append (numbers cells x) rest (pos 0) (place_value_count * i + (2 * scenario + b))
      (rw (joined_length place_value_count 0 position_count (cell_numbers cells x) (row-length cells x)) (omega arith))
      ∙ joined-get_or place_value_count position_count (cell_numbers cells x) (row-length cells x) i (2 * scenario + b) (pos 0) hi (omega arith)
      ∙ joined-get_or 2 scenario_count (bounds_of cells x i) (λ s. refl) scenario b (pos 0) hs hb

-- the lower and the upper one
module _ (cells : List ℕ) (x : RollingSheets) (rest : List ℤ) (scenario i : ℕ) (hs : scenario < scenario_count) (hi : i < position_count) where
  lower-is : lower_in (numbers cells x ++ rest) scenario i ≡ lower_at cells x scenario i
  unfolding lower_in bounds_of
  lower-is =
      let e : place_value_count * i + 2 * scenario ≡ place_value_count * i + (2 * scenario + 0) = omega arith in
      rw e (number_at cells x rest scenario i 0 hs hi (omega arith))

  upper_is : upper_in (numbers cells x ++ rest) scenario i ≡ upper_at cells x scenario i
  unfolding upper_in bounds_of
  upper_is = number_at cells x rest scenario i 1 hs hi (omega arith)

-- what a test takes of two results and of the figure that they enclose
choice-encloses : {l u : ℤ} {e : SignedFraction} (zero : Bool) → SignedEncloses l e u → SignedEncloses (cond zero (pos 0) l) (cond zero none e) (cond zero (pos 0) u)
choice-encloses true h = none-encloses
choice-encloses false h = h

at-encloses : (cells : List ℕ) (x : RollingSheets) (scenario i : ℕ)
    → SignedEncloses (lower_at cells x scenario i) (exact_at cells x scenario i) (upper_at cells x scenario i)
unfolding lower_at exact_at upper_at
at-encloses cells x scenario i = choice-encloses (eqb (balance_of cells i) 0) (run.intangible-encloses (cell_terms cells x scenario i) (long_yield x scenario))

-- cells and sheets within their limits
module _ (cells : List ℕ) (x : RollingSheets) (v : ValidRolling cells x) (scenario i : ℕ) (hs : scenario < scenario_count) (hi : i < position_count) where
  -- the terms of a cell with a balance
  terms-bounded : 0 < balance_of cells i → RollingBounded rolled_coupon_limit (cell_terms cells x scenario i)
  unfolding cell_terms early_survival
  terms-bounded p =
      record {
        coupon-limit =
            coupons-within (cell_terms cells x scenario i) rolled_coupon_limit (le_trans (v.coupon-limit i hi) (lit≤ tt))
            (λ t. mul-le-mul_left 10 (rate-within x.rates (position_at i).column scenario t v.rate-limit hs));
        months-pos = v.months-pos i hi p;
        months-limit = v.months-limit i hi;
        share-limit = v.share-limit _;
        servicing-limit = servicing-le retail;
        survival-limit = λ c r n. survival-le _;
        horizon-is = refl;
      }

  -- upper less lower: 0 of a cell without a balance
  at_width : upper_at cells x scenario i ≤ℤ (lower_at cells x scenario i +ℤ pos width_limit)
  unfolding lower_at upper_at
  at_width =
      ⊎_elim (λ e. rw (eq-eqb (balance_of cells i) 0 e) (le_z_yes tt))
      (λ p. rw (ne_eqb (balance_of cells i) 0 (λ e. omega (arith, e)))
      (intangible-apart rolled_coupon_limit (cell_terms cells x scenario i) (terms-bounded p) (long_yield x scenario) width_limit width-limit))
      (eq-zero-or-pos (balance_of cells i))

no-balance-lower : (cells : List ℕ) (x : RollingSheets) (scenario i : ℕ) → balance_of cells i ≡ 0 → lower_at cells x scenario i ≡ pos 0
unfolding lower_at
no-balance-lower cells x scenario i e = rw (eq-eqb (balance_of cells i) 0 e)

no-balance-upper : (cells : List ℕ) (x : RollingSheets) (scenario i : ℕ) → balance_of cells i ≡ 0 → upper_at cells x scenario i ≡ pos 0
unfolding upper_at
no-balance-upper cells x scenario i e = rw (eq-eqb (balance_of cells i) 0 e)

-- a list that begins with the numbers of cells and sheets within their limits: what is read off it is what the definitions say
pub intangible-enclosed : (cells : List ℕ) (x : RollingSheets) (list rest : List ℤ) → ValidRolling cells x → list ≡ numbers cells x ++ rest → EnclosedIntangible cells x list
intangible-enclosed cells x list rest v e =
    rw e
    (record {
      intangible-encloses = λ s i hs hi. rw (lower-is cells x rest s i hs hi, upper_is cells x rest s i hs hi) (at-encloses cells x s i);
      intangible-width = λ s i hs hi. rw (lower-is cells x rest s i hs hi, upper_is cells x rest s i hs hi) (at_width cells x v s i hs hi);
      no-balance = λ s i hs hi z.
          (lower-is cells x rest s i hs hi ∙ no-balance-lower cells x s i z, upper_is cells x rest s i hs hi ∙ no-balance-upper cells x s i z);
    })
