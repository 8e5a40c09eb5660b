-- lower ≤ exact ≤ upper for every figure of a deposit: for any terms and any number of months, by induction over the months. Assumes nothing.
use Prim.Native.Nat.{ℕ, zero, suc, ◌+◌, ◌*◌, ◌-◌}
use lib.Dec.{eqb, lit<}
use Rattle.fraction.specs.Fraction.{Encloses}
use Rattle.fraction.proofs.EnclosureLaws.{whole-encloses, plus-encloses, cond-encloses}
use Rattle.pricing.specs.Scales.{par}
use Rattle.pricing.specs.Terms.{Terms}
use Rattle.pricing.specs.Exact.{exact_balance, exact_outflow, exact_flow, exact_price, exact_value}
use Rattle.pricing.specs.Rounding.{down, up}
use Rattle.pricing.specs.Run.{balance_by, outflow_by, flow_by, price_by, value_by}
use Rattle.pricing.proofs.FlowLaws.{rounded-encloses, discounted-encloses, worth-encloses}

pub balance-encloses : (k : Terms) (t : ℕ) → Encloses (balance_by down k t) (exact_balance k t) (balance_by up k t)
unfolding balance_by exact_balance
balance-encloses k zero = whole-encloses par
balance-encloses k (suc t) = rounded-encloses (k.growth + 3 * k.survival (suc t)) (3 * par) (lit< tt) (balance-encloses k t)

pub outflow-encloses : (k : Terms) (t : ℕ) → Encloses (outflow_by down k t) (exact_outflow k t) (outflow_by up k t)
unfolding outflow_by exact_outflow
outflow-encloses k t = rounded-encloses (k.servicing + par - k.survival (suc t)) par (lit< tt) (balance-encloses k t)

pub flow-encloses : (k : Terms) (t : ℕ) → Encloses (flow_by down k t) (exact_flow k t) (flow_by up k t)
unfolding flow_by exact_flow
flow-encloses k t = plus-encloses (outflow-encloses k t) (cond-encloses (eqb (suc t) k.months) (balance-encloses k (suc t)))

price-encloses : (k : Terms) (z : ℕ → ℕ) → Encloses (price_by down k z) (exact_price k z) (price_by up k z)
unfolding price_by exact_price
price-encloses k z = discounted-encloses (flow_by down k) (flow_by up k) (exact_flow k) z k.months (flow-encloses k)

pub value-encloses : (balance : ℕ) (k : Terms) (z : ℕ → ℕ) → Encloses (value_by down balance k z) (exact_value balance k z) (value_by up balance k z)
unfolding value_by exact_value
value-encloses balance k z = worth-encloses balance (price-encloses k z)
