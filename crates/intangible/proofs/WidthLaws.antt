-- The flows of the months after T: how large their sum becomes, and how far lower and upper results come apart. Assumes nothing.
use Prim.Native.Nat.{ℕ, zero, suc, ◌+◌, ◌*◌, ◌-◌, ◌≤◌, ◌<◌, zero-le}
use mathlib.Core.Path.{◌≡◌, sym, ◌∙◌}
use mathlib.Core.Bool.{Bool, true, false, cond}
use mathlib.Core.Logic.{⊎_elim}
use lib.Dec.{ltb, lit≤}
use borrow.Author.Tests.{eq-eqb, ne_eqb, le-ltb}
use native.Mathlib.Nat.{le_refl, le_trans, eq-or-lt_of_le}
use native.Mathlib.Omega.{arith}
use Rattle.lists.specs.Sums.{sum_where, everywhere}
use Rattle.lists.proofs.SumLaws.{sum_where-mono, sum_where-add, sum_where-ext}
use Rattle.fraction.proofs.EnclosureLaws.{encloses-le}
use Rattle.form.specs.Limits.{months_limit}
use Rattle.pricing.specs.Scales.{par}
use Rattle.pricing.specs.Rounding.{Rounding, down, up}
use Rattle.pricing.specs.Run.{discount_factor_by}
use Rattle.pricing.proofs.MonthLaws.{grown, grown-mono, distance, distance-mono}
use Rattle.pricing.proofs.FlowWidthLaws.{paid, sum-width, month-width}
use Rattle.intangible.specs.RollingTerms.{RollingTerms, first_balance, last_month}
use Rattle.intangible.specs.Run.{opened_by, balance_by, opening_by, rolled_by, outflow_by, paid_by, flow_by, later_flow_by, first_by, sum_by}
use Rattle.intangible.specs.Bounded.{RollingBounded}
use Rattle.intangible.proofs.TermLaws.{filed-ends}
use Rattle.intangible.proofs.EnclosureLaws.{opening-encloses, rolled-encloses, later-encloses}
use Rattle.intangible.proofs.AmountLaws as amounts
use Rattle.intangible.proofs.AmountLaws.{over_by, apart, gone_by, cond-le, gone-le, amount-le, amount-width, upper-held}

-- what leaves in the months up to T, and after them
early_gone : Rounding → RollingTerms → ℕ → ℕ
early_gone ρ k t = cond (ltb t k.months) (gone_by ρ k t) 0

module _ (k : RollingTerms) where
  -- before the horizon a flow is what leaves
  flow-before : (ρ : Rounding) (t : ℕ) → suc t < k.horizon → flow_by ρ k t ≡ gone_by ρ k t
  unfolding flow_by gone_by paid_by
  flow-before ρ t h = rw (ne_eqb (suc t) k.horizon (λ e. omega (arith, e)))

  parted : (b : Bool) (f g : ℕ) → f ≡ g → cond b 0 f + cond b g 0 ≡ g
  parted true f g e = omega arith
  parted false f g e = omega arith

  -- and so the flows after T and what leaves before are all that leaves
  later-before : (ρ : Rounding) (n : ℕ) → n < k.horizon → paid (later_flow_by ρ k) n + paid (early_gone ρ k) n ≡ paid (gone_by ρ k) n
  unfolding later_flow_by early_gone
  later-before ρ n h =
      sym (sum_where-add everywhere (later_flow_by ρ k) (early_gone ρ k) n)
      ∙ sum_where-ext everywhere _ (gone_by ρ k) n (λ i l. parted (ltb i k.months) (flow_by ρ k i) (gone_by ρ k i) (flow-before ρ i (omega arith)))

  -- at the horizon the balance is paid whole
  flow-last : (ρ : Rounding) (t : ℕ) → suc t ≡ k.horizon → flow_by ρ k t ≡ outflow_by ρ k t + balance_by ρ k (suc t)
  unfolding flow_by paid_by
  flow-last ρ t h = rw (eq-eqb (suc t) k.horizon h)

  later-le-flow : (ρ : Rounding) (t : ℕ) → later_flow_by ρ k t ≤ flow_by ρ k t
  unfolding later_flow_by
  later-le-flow ρ t = by (ltb t k.months)
    where
      by : (b : Bool) → cond b 0 (flow_by ρ k t) ≤ flow_by ρ k t
      by true = zero-le
      by false = le_refl (flow_by ρ k t)

module _ (limit : ℕ) (k : RollingTerms) (b : RollingBounded limit k) where
  -- all upper flows after T, to month n: before the horizon no more than what leaves, and at it what is left is paid too
  upper-paid : (n : ℕ) → n ≤ k.horizon → paid (later_flow_by up k) n ≤ apart limit first_balance n
  unfolding sum_where
  upper-paid zero h = zero-le
  upper-paid (suc t) h =
      ⊎_elim (λ e. omega (arith, later-before k up t (omega (arith, e)), later-le-flow k up t, flow-last k up t e, upper-held limit k b t, amount-le limit k b (suc t)))
      (λ l. omega (arith, later-before k up (suc t) l, amount-le limit k b (suc t))) (eq-or-lt_of_le h)

  -- and so at either rounding
  pub paid-limit : (ρ : Rounding) (n : ℕ) → n ≤ k.horizon → paid (later_flow_by ρ k) n ≤ apart limit first_balance n
  paid-limit down n h =
      le_trans (sum_where-mono everywhere (later_flow_by down k) (later_flow_by up k) n (λ i l. encloses-le (later-encloses k i))) (upper-paid n h)
  paid-limit up n h = upper-paid n h

  early-le : (t : ℕ) → early_gone down k t ≤ early_gone up k t
  unfolding early_gone
  early-le t = cond-le (ltb t k.months) (gone-le limit k b t)

  -- At the horizon, month t + 1. With d = upper less lower opening balance and D the distance of 0 after t months: what leaves to month t is at most D - d
  -- apart, balance and outflow of the last month at most `grown d`, and both together at most `grown D`
  later-width : (t : ℕ) → suc t ≡ k.horizon → k.months ≤ t → paid (later_flow_by up k) (suc t) ≤ paid (later_flow_by down k) (suc t) + apart limit 0 (suc t)
  unfolding sum_where later_flow_by distance grown
  later-width t e h =
      rw (le-ltb t k.months h)
      (omega (
        arith,
        later-before k up t (omega (arith, e)),
        later-before k down t (omega (arith, e)),
        flow-last k up t e,
        flow-last k down t e,
        before,
        early,
        amounts.month-width limit k b t,
        grown-mono (over_by limit) {d = opening_by up k t - opening_by down k t} {e = apart limit 0 t} (omega (arith, before, gone, encloses-le (opening-encloses k t))),
        encloses-le (opening-encloses k t),
      ))
    where
      before : opening_by up k t + paid (gone_by up k) t ≤ opening_by down k t + paid (gone_by down k) t + apart limit 0 t
      before = amount-width limit k b t

      gone : paid (gone_by down k) t ≤ paid (gone_by up k) t
      gone = sum_where-mono everywhere (gone_by down k) (gone_by up k) t (λ i l. gone-le limit k b i)

      early : paid (early_gone down k) t ≤ paid (early_gone up k) t
      early = sum_where-mono everywhere (early_gone down k) (early_gone up k) t (λ i l. early-le i)

  -- what rolls over at T is what the next month opens with
  rolled-opening : (ρ : Rounding) → rolled_by ρ k k.months ≡ opening_by ρ k k.months
  unfolding rolled_by opening_by opened_by
  rolled-opening ρ = rw (filed-ends k)

  -- how large it becomes
  pub rolled-limit : (ρ : Rounding) → rolled_by ρ k k.months ≤ apart limit first_balance k.months
  rolled-limit down = rw (rolled-opening down) (omega (arith, encloses-le (opening-encloses k k.months), amount-le limit k b k.months))
  rolled-limit up = rw (rolled-opening up) (omega (arith, amount-le limit k b k.months))

  -- and how far apart
  rolled-width : rolled_by up k k.months ≤ rolled_by down k k.months + apart limit 0 k.months
  rolled-width =
      rw (rolled-opening down, rolled-opening up)
      (omega (
        arith,
        amount-width limit k b k.months,
        sum_where-mono everywhere (gone_by down k) (gone_by up k) k.months (λ i l. gone-le limit k b i),
      ))

  -- distances to T are at most those to the longest term
  filed-apart : (start : ℕ) → apart limit start k.months ≤ apart limit start months_limit
  filed-apart start = distance-mono (over_by limit) 6 start b.months-limit

  -- the first product: 10^9 × (upper - lower) ≤ width of what rolls over × 10^9 + lower × 120 + 2 × 10^9
  pub first_width : (z : ℕ → ℕ)
      → first_by up k (discount_factor_by up z) * par
      ≤ first_by down k (discount_factor_by down z) * par + apart limit first_balance months_limit * months_limit + apart limit 0 months_limit * par + 2 * par
  unfolding first_by discount_factor_by
  first_width z =
      omega (
        arith,
        month-width (rolled_by down k k.months) (rolled_by up k k.months) (z k.months) k.months months_limit (encloses-le (rolled-encloses k k.months))
            b.months-limit,
        rolled-width,
        le_trans (rolled-limit down) (filed-apart first_balance),
        filed-apart 0,
      )

  -- the sum: 10^9 × (upper - lower) ≤ width of what is paid × 10^9 + what is paid × 360 + 2 × 360 × 10^9
  pub total-width : (z : ℕ → ℕ)
      → sum_by up k (discount_factor_by up z) last_month * par
      ≤ sum_by down k (discount_factor_by down z) last_month * par + apart limit first_balance last_month * last_month + apart limit 0 last_month * par + last_month * (2 * par)
  unfolding sum_by
  total-width z =
      omega (
        arith,
        sum-width (later_flow_by down k) (later_flow_by up k) z last_month (λ i. encloses-le (later-encloses k i)) last_month (le_refl last_month),
        later-width 359 (sym b.horizon-is) (le_trans b.months-limit (lit≤ tt)),
        paid-limit down last_month (rw b.horizon-is (le_refl last_month)),
      )
