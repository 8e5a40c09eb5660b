-- All that is paid to month t, the balance of the last month included. Assumes nothing.
use Prim.Native.Nat.{ℕ, zero, suc, ◌+◌, ◌<◌}
use mathlib.Core.Path.{◌≡◌, refl, sym}
use borrow.Author.Tests.{eq-eqb, ne_eqb}
use native.Mathlib.Nat.{add-zero, add_assoc, le_of_lt, ne_of_lt}
use native.Mathlib.Omega.{arith}
use Rattle.lists.specs.Sums.{sum_where, everywhere}
use Rattle.pricing.specs.Terms.{Terms}
use Rattle.pricing.specs.Rounding.{Rounding}
use Rattle.pricing.specs.Run.{balance_by, outflow_by, flow_by}
use Rattle.pricing.proofs.AmountLaws.{outflows_by}

-- flows of the first t months
abbrev pub payments_by : Rounding → Terms → ℕ → ℕ
payments_by ρ k t = sum_where everywhere (flow_by ρ k) t

-- before the last month the flows are the outflows
pub payments-before : (ρ : Rounding) (k : Terms) (t : ℕ) → t < k.months → payments_by ρ k t ≡ outflows_by ρ k t
unfolding sum_where flow_by
payments-before ρ k zero h = refl
payments-before ρ k (suc t) h =
    rw (payments-before ρ k t (le_of_lt h), ne_eqb (suc t) k.months (ne_of_lt h), add-zero)

-- in the last month the balance is paid too
pub payments-last : (ρ : Rounding) (k : Terms) (t : ℕ) → suc t ≡ k.months → payments_by ρ k (suc t) ≡ outflows_by ρ k (suc t) + balance_by ρ k (suc t)
unfolding sum_where flow_by
payments-last ρ k t h =
    rw (payments-before ρ k t (omega arith), eq-eqb (suc t) k.months h)
    (sym (add_assoc (outflows_by ρ k t) (outflow_by ρ k t) (balance_by ρ k (suc t))))
