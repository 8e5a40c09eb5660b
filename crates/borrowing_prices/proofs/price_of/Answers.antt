-- `price_of` meets its contract. The loop's invariant: the products of the months so far are summed. Assumes nothing.
use Prim.Native.Nat.{◌+◌, ◌≤◌}
use native.Mathlib.Omega.{arith}
use native.Mathlib.Nat.{le_trans, le_antisymm}
use mathlib.Core.Path.{◌≡◌, refl, ap, ◌∙◌}
use lib.Dec.{lit≤}
use Rattle.pricing.specs.Rounding.{rounding_of}
use Rattle.pricing.specs.Run.{discounted_sum}
use Rattle.price_factors.specs.Inner.Factors.{factor_in}
use Rattle.borrowing_prices.specs.Run.{flow_with}
use Rattle.borrowing_prices.specs.Inner.Tabled.{tabled_price}
use Rattle.borrowing_prices.proofs.TabledLaws.{products_to, sum-next, sum-limit}
use Rattle.borrowing_prices.proofs.WidthLaws.{paid_limit}
use Rattle.borrowing_prices.proofs.price_of.Goals as goal

pub loop-t-init : goal.loop-t-init
unfolding discounted_sum
loop-t-init c = refl

pub overflow_add-price : goal.overflow_add-price
overflow_add-price c =
    let next : c.loop-t.price + c.product_in-price.result
    ≡ discounted_sum (rounding_of c.args.up) (flow_with c.args.interest c.args.months)
    (factor_in c.args.factors.now c.args.scenario) (c.loop-t.t + 1) = sum-next _ _ _ _ _ c.loop-t.t _ _ c.loop-t.invariant c.product_in-price.ensures in
    let next-limit : c.loop-t.price + c.product_in-price.result ≤ paid_limit = let p = c.requires in
    rw next (sum-limit _ _ _ _ _ p.0 p.1 p.3 _ (omega (arith, c.loop-t-test.true))) in
    omega (arith, next-limit)

pub loop-t-preserved : goal.loop-t-preserved
loop-t-preserved c =
    let next : c.loop-t.price + c.product_in-price.result
    ≡ discounted_sum (rounding_of c.args.up) (flow_with c.args.interest c.args.months)
    (factor_in c.args.factors.now c.args.scenario) (c.loop-t.t + 1) = sum-next _ _ _ _ _ c.loop-t.t _ _ c.loop-t.invariant c.product_in-price.ensures in
    next

pub returns : goal.returns
unfolding tabled_price
returns c = let at = c.loop-t in
    let p = c.requires in (
      at.invariant ∙ ap (products_to _ _ _ _ _) (le_antisymm at.auto.t-end c.loop-t-test.false),
      le_trans {m = paid_limit} (rw at.invariant (sum-limit _ _ _ _ _ p.0 p.1 p.3 _ at.auto.t-end)) (lit≤ tt),
    )
