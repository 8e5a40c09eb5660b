-- No figure of the run leaves the limits of 64-bit products, for terms within the limits. Assumes nothing.
use Prim.Native.Nat.{ℕ, zero, suc, ◌+◌, ◌≤◌, zero-le}
use mathlib.Core.Logic.{⊎_elim}
use native.Mathlib.Nat.{le_refl, le_trans, eq-or-lt_of_le}
use native.Mathlib.Omega.{arith}
use Rattle.lists.specs.Sums.{sum_where, everywhere}
use Rattle.lists.proofs.SumLaws.{sum_where-mono}
use Rattle.fraction.proofs.EnclosureLaws.{encloses-le}
use Rattle.form.specs.Limits.{months_limit}
use Rattle.pricing.specs.Scales.{par, amount_limit}
use Rattle.pricing.specs.Terms.{Terms}
use Rattle.pricing.specs.Bounded.{Bounded}
use Rattle.pricing.specs.Rounding.{Rounding, down, up}
use Rattle.pricing.specs.Run.{balance_by, flow_by, discount_factor_by, discounted_by, price_by}
use Rattle.pricing.proofs.EnclosureLaws.{balance-encloses, flow-encloses}
use Rattle.pricing.proofs.AmountLaws.{outflows_by, amount-le, amount-limit}
use Rattle.pricing.proofs.FlowWidthLaws.{discount-limit, discounted-le-paid}
use Rattle.pricing.proofs.PaymentLaws.{payments_by, payments-before, payments-last}

-- a bound of the upper figure bounds the lower one too
either : (f : Rounding → ℕ) (n : ℕ) → f down ≤ f up → f up ≤ n → (ρ : Rounding) → f ρ ≤ n
either f n h hu down = le_trans h hu
either f n h hu up = hu

pub balance-limit : (k : Terms) → Bounded k → (t : ℕ) → t ≤ months_limit → (ρ : Rounding) → balance_by ρ k t ≤ amount_limit
balance-limit k b t h =
    either (λ (ρ : Rounding). balance_by ρ k t) amount_limit (encloses-le (balance-encloses k t)) (omega (arith, amount-le k b t, amount-limit h))

upper-payments : (k : Terms) → Bounded k → (t : ℕ) → t ≤ k.months → payments_by up k t ≤ amount_limit
unfolding sum_where
upper-payments k b zero h = zero-le
upper-payments k b (suc t) h =
    ⊎_elim (λ e. omega (arith, payments-last up k t e, total)) (λ l. omega (arith, payments-before up k (suc t) l, total)) (eq-or-lt_of_le h)
  where
    total : balance_by up k (suc t) + outflows_by up k (suc t) ≤ amount_limit
    total = le_trans (amount-le k b (suc t)) (amount-limit (omega (arith, b.months-limit)))

-- all that is paid to month t of the term
payments-limit : (k : Terms) → Bounded k → (t : ℕ) → t ≤ k.months → (ρ : Rounding) → payments_by ρ k t ≤ amount_limit
payments-limit k b t h =
    either (λ (ρ : Rounding). payments_by ρ k t) amount_limit
    (sum_where-mono everywhere (flow_by down k) (flow_by up k) t (λ i l. encloses-le (flow-encloses k i))) (upper-payments k b t h)

pub discounted-limit : (k : Terms) (df : ℕ → ℕ) → ((t : ℕ) → df t ≤ par) → Bounded k → (t : ℕ) → t ≤ k.months → (ρ : Rounding)
    → discounted_by ρ k df t ≤ amount_limit
discounted-limit k df hd b t h ρ = le_trans (discounted-le-paid ρ (flow_by ρ k) df hd t) (payments-limit k b t h ρ)

pub price-limit : (k : Terms) (z : ℕ → ℕ) → Bounded k → (ρ : Rounding) → price_by ρ k z ≤ amount_limit
unfolding price_by discount_factor_by
price-limit k z b ρ =
    discounted-limit k (discount_factor_by ρ z) (λ t. discount-limit (z t) t ρ) b k.months (le_refl k.months) ρ
