-- lower ≤ exact ≤ upper for every figure of the intangible: for any terms, any number of months and of rollovers, by induction over the months. The flows
-- are an instance of the laws over any flows. Assumes nothing.
use Prim.Native.Nat.{ℕ, zero, suc, ◌+◌, ◌*◌, ◌-◌}
use mathlib.Core.Bool.{Bool, true, false, cond}
use lib.Dec.{eqb, ltb, lit<}
use Rattle.fraction.specs.Fraction.{Fraction, scaled, Encloses}
use Rattle.fraction.specs.Signed.{SignedEncloses}
use Rattle.fraction.proofs.EnclosureLaws.{whole-encloses, plus-encloses}
use Rattle.fraction.proofs.SignedLaws.{minus-encloses}
use Rattle.pricing.specs.Scales.{par}
use Rattle.pricing.specs.Exact.{exact_discount_factor}
use Rattle.pricing.specs.Rounding.{down, up, quotient}
use Rattle.pricing.specs.Run.{discount_factor_by}
use Rattle.pricing.proofs.FlowLaws.{rounded-encloses, product-month, discounted-encloses}
use Rattle.intangible.specs.RollingTerms.{RollingTerms, first_balance, share_scale}
use Rattle.intangible.specs.RolledMonths.{ends_term, month_survival, month_growth}
use Rattle.intangible.specs.Exact.{exact_opened, exact_balance, exact_opening, exact_rolled, exact_unrolled, exact_outflow, exact_paid, exact_flow, exact_later_flow, exact_first, exact_sum, exact_intangible}
use Rattle.intangible.specs.Run.{opened_by, balance_by, opening_by, rolled_by, unrolled_by, outflow_by, paid_by, flow_by, later_flow_by, first_by, sum_by, lower_intangible, upper_intangible}

-- the one of two enclosures that a test takes
choice-encloses : {l u l' u' : ℕ} {x y : Fraction} (b : Bool) → Encloses l x u → Encloses l' y u' → Encloses (cond b l l') (cond b x y) (cond b u u')
choice-encloses true e f = e
choice-encloses false e f = f

module _ (k : RollingTerms) where
  -- a part of an enclosed balance
  part-encloses : {l u : ℕ} {x : Fraction} (part : ℕ) → Encloses l x u
      → Encloses (quotient down (l * part) share_scale) (scaled x part share_scale) (quotient up (u * part) share_scale)
  part-encloses part e = rounded-encloses part share_scale (lit< tt) e

  opened-encloses : {l u : ℕ} {x : Fraction} (t : ℕ) → Encloses l x u → Encloses (opened_by down k t l) (exact_opened k t x) (opened_by up k t u)
  unfolding opened_by exact_opened
  opened-encloses t e = choice-encloses (ends_term k t) (part-encloses k.share e) e

  pub balance-encloses : (t : ℕ) → Encloses (balance_by down k t) (exact_balance k t) (balance_by up k t)
  unfolding balance_by exact_balance
  balance-encloses zero = whole-encloses first_balance
  balance-encloses (suc t) =
      rounded-encloses (month_growth k (suc t) + 3 * month_survival k (suc t)) (3 * par) (lit< tt) (opened-encloses t (balance-encloses t))

  pub opening-encloses : (t : ℕ) → Encloses (opening_by down k t) (exact_opening k t) (opening_by up k t)
  unfolding opening_by exact_opening
  opening-encloses t = opened-encloses t (balance-encloses t)

  pub rolled-encloses : (t : ℕ) → Encloses (rolled_by down k t) (exact_rolled k t) (rolled_by up k t)
  unfolding rolled_by exact_rolled
  rolled-encloses t = part-encloses k.share (balance-encloses t)

  pub unrolled-encloses : (t : ℕ) → Encloses (unrolled_by down k t) (exact_unrolled k t) (unrolled_by up k t)
  unfolding unrolled_by exact_unrolled
  unrolled-encloses t = part-encloses (share_scale - k.share) (balance-encloses t)

  pub outflow-encloses : (t : ℕ) → Encloses (outflow_by down k t) (exact_outflow k t) (outflow_by up k t)
  unfolding outflow_by exact_outflow
  outflow-encloses t = rounded-encloses (k.servicing + par - month_survival k (suc t)) par (lit< tt) (opening-encloses t)

  paid-encloses : (t : ℕ) → Encloses (paid_by down k t) (exact_paid k t) (paid_by up k t)
  unfolding paid_by exact_paid
  paid-encloses t =
      choice-encloses (eqb t k.horizon) (balance-encloses t) (choice-encloses (ends_term k t) (unrolled-encloses t) (whole-encloses 0))

  flow-encloses : (t : ℕ) → Encloses (flow_by down k t) (exact_flow k t) (flow_by up k t)
  unfolding flow_by exact_flow
  flow-encloses t = plus-encloses (outflow-encloses t) (paid-encloses (suc t))

  pub later-encloses : (t : ℕ) → Encloses (later_flow_by down k t) (exact_later_flow k t) (later_flow_by up k t)
  unfolding later_flow_by exact_later_flow
  later-encloses t = choice-encloses (ltb t k.months) (whole-encloses 0) (flow-encloses t)

  -- the first product and the sum, by any yields
  first-encloses : (z : ℕ → ℕ) → Encloses (first_by down k (discount_factor_by down z)) (exact_first k z) (first_by up k (discount_factor_by up z))
  unfolding first_by exact_first discount_factor_by exact_discount_factor
  first-encloses z = product-month (z k.months) k.months (rolled-encloses k.months)

  sum-encloses : (z : ℕ → ℕ)
      → Encloses (sum_by down k (discount_factor_by down z) k.horizon) (exact_sum k z) (sum_by up k (discount_factor_by up z) k.horizon)
  unfolding sum_by exact_sum
  sum-encloses z = discounted-encloses (later_flow_by down k) (later_flow_by up k) (exact_later_flow k) z k.horizon later-encloses

  -- the intangible
  pub intangible-encloses : (z : ℕ → ℕ) → SignedEncloses (lower_intangible k z) (exact_intangible k z) (upper_intangible k z)
  unfolding lower_intangible upper_intangible exact_intangible
  intangible-encloses z = minus-encloses (first-encloses z) (sum-encloses z)
