-- lower ≤ exact ≤ upper for a borrowing: its flows are an instance of the laws over any flows. Assumes nothing.
use Prim.Native.Nat.{ℕ, suc}
use lib.Dec.{eqb, lit<}
use Rattle.fraction.specs.Fraction.{Encloses}
use Rattle.fraction.proofs.EnclosureLaws.{whole-encloses, plus-encloses, cond-encloses}
use Rattle.pricing.specs.Scales.{par, rate_scale}
use Rattle.pricing.specs.Rounding.{down, up}
use Rattle.pricing.proofs.FlowLaws.{rounded-encloses, discounted-encloses, worth-encloses}
use Rattle.borrowing_prices.specs.Exact.{exact_interest, exact_flow, exact_price, exact_value}
use Rattle.borrowing_prices.specs.Run.{interest_by, flow_with, flow_by, price_by, value_by}

interest-encloses : (c : ℕ) → Encloses (interest_by down c) (exact_interest c) (interest_by up c)
unfolding interest_by exact_interest
interest-encloses c = rounded-encloses c rate_scale (lit< tt) (whole-encloses par)

pub flow-encloses : (c months t : ℕ) → Encloses (flow_by down c months t) (exact_flow c months t) (flow_by up c months t)
unfolding flow_with exact_flow
flow-encloses c months t = plus-encloses (interest-encloses c) (cond-encloses (eqb (suc t) months) (whole-encloses par))

price-encloses : (c months : ℕ) (z : ℕ → ℕ) → Encloses (price_by down c months z) (exact_price c months z) (price_by up c months z)
unfolding price_by exact_price
price-encloses c months z = discounted-encloses (flow_by down c months) (flow_by up c months) (exact_flow c months) z months (flow-encloses c months)

pub value-encloses : (balance c months : ℕ) (z : ℕ → ℕ)
    → Encloses (value_by down balance c months z) (exact_value balance c months z) (value_by up balance c months z)
unfolding value_by exact_value
value-encloses balance c months z = worth-encloses balance (price-encloses c months z)
