-- Positions whose values are each enclosed within their width are so together (01:58). Assumes nothing.
use Prim.Native.Nat.{ℕ, zero, suc, ◌+◌, ◌*◌, ◌≤◌, ◌<◌}
use mathlib.Core.Path.{◌≡◌}
use native.Mathlib.Omega.{arith}
use Rattle.lists.specs.Sums.{sum_where, everywhere}
use Rattle.lists.proofs.SumLaws.{sum_where-mono, sum_where-add, sum_where-mul}
use Rattle.fraction.specs.Fraction.{Fraction, Encloses}
use Rattle.form.specs.Shift.{scenario_count}
use Rattle.pricing.specs.EnclosedValues.{EnclosedValues}

-- c at each of n places
constant-sum : (c n : ℕ) → sum_where everywhere (λ _. c) n ≡ c * n
unfolding sum_where
constant-sum c zero = omega arith
constant-sum c (suc n) = omega (arith, constant-sum c n)

-- values that are each within their width are so together: 250 u ≤ 250 l + b + 500 is summed over the n values
widths-add : (l u b : ℕ → ℕ) (n : ℕ) → ((i : ℕ) → i < n → 250 * u i ≤ 250 * l i + (b i + 500))
    → 250 * sum_where everywhere u n ≤ 250 * sum_where everywhere l n + (sum_where everywhere b n + 500 * n)
widths-add l u b n h =
    omega (
      arith,
      sum_where-mono everywhere (λ (i : ℕ). 250 * u i) (λ (i : ℕ). 250 * l i + (b i + 500)) n h,
      sum_where-mul 250 everywhere u n,
      sum_where-mul 250 everywhere l n,
      sum_where-add everywhere (λ (i : ℕ). 250 * l i)
          (λ (i : ℕ). b i + 500) n,
      sum_where-add everywhere b (λ (_ : ℕ). 500) n,
      constant-sum 500 n,
    )

-- the record, from each position's enclosure and width, and the sum of the balances
pub values-enclosed : (count : ℕ) (balance : ℕ → ℕ) (lower upper : ℕ → ℕ → ℕ) (exact : ℕ → ℕ → Fraction) (total : ℕ)
    → ((scenario place : ℕ) → scenario < scenario_count → place < count → Encloses (lower scenario place) (exact scenario place) (upper scenario place))
    → ((scenario place : ℕ) → scenario < scenario_count → place < count
    → 250 * upper scenario place ≤ 250 * lower scenario place + (balance place + 500))
    → sum_where everywhere balance count ≡ total
    → EnclosedValues count balance lower upper exact total (500 * count)
values-enclosed count balance lower upper exact total encloses width adds =
    record {
      value-encloses = encloses;
      value-width = width;
      total-width = λ scenario h. omega (arith, widths-add (lower scenario) (upper scenario) balance count (λ i l. width scenario i h l), adds);
    }
