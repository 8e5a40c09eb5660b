-- `scenarios::intangible_in` meets its contract: the walk begins where the filed term leaves the cell. Assumes nothing.
use mathlib.Core.Path.{ap}
use native.Mathlib.Omega.{arith}
use native.Mathlib.Nat.{le_refl}
use Rattle.intangible.proofs.TermLaws.{first-opened}
use Rattle.intangible_months.specs.Inner.Lent.{lent_terms}
use Rattle.intangible_walk.specs.declared.Walk.{Walk}
use Rattle.intangible_walk.specs.Inner.Walks.{sums_by}
use Rattle.intangible_walk.proofs.WalkLaws.{opened-term}
use Rattle.intangible_cells.specs.Inner.Filed.{intangible_by}
use Rattle.intangible_cells.proofs.StartLaws.{start-standing, first-is, lower-sum-limit, upper-sum-limit, signed_back}
use Rattle.intangible_cells.proofs.scenarios.intangible_in.Goals as goal

pub first_products-first-requires : goal.first_products-first-requires
unfolding lent_terms
first_products-first-requires c =
    let a = c.requires in
    let rolled = c.rolled_balances-rolled.ensures in
    (rolled.1, rolled.2, a.bounded.months-pos, a.bounded.months-limit, a.scenario-lt, a.lower-par, a.upper-par)

pub next_term-term-requires : goal.next_term-term-requires
unfolding lent_terms
next_term-term-requires c =
    let a = c.requires in
    (omega (arith, a.bounded.months-limit), a.term-le, a.scenario-lt, a.rates-fit)

pub walk_term-sums-requires : goal.walk_term-sums-requires
unfolding lent_terms
walk_term-sums-requires c =
    let a = c.requires in
    let rolled = c.rolled_balances-rolled.ensures in
    let from = c.walk_from-start.ensures in
    let opened = opened-term _ _ _ _ c.args.market.now.factors.now.lower c.args.market.now.factors.now.upper _ (le_refl _) (first-opened _) c.next_term-term.ensures.0 c.next_term-term.ensures.1 in
    record { walkable = a; in_term = record { standing = start-standing _ _ _ _ a.bounded rolled.0 from; term_is = rw (ap (λ (x : Walk). x.month) from) opened } }

pub difference-requires : goal.difference-requires
difference-requires c =
    (omega (arith, c.first_products-first.ensures.1), omega (arith, upper-sum-limit _ _ _ _ c.requires c.walk_term-sums.ensures))

pub difference-requires-2 : goal.difference-requires-2
difference-requires-2 c =
    (omega (arith, c.first_products-first.ensures.2), omega (arith, lower-sum-limit _ _ _ _ c.requires c.walk_term-sums.ensures))

pub returns : goal.returns
unfolding intangible_by sums_by lent_terms
returns c =
    let first = c.first_products-first.result in
    let last = c.walk_term-sums.result in
    let sums = c.walk_term-sums.ensures in
    let is = first-is _ _ _ _ c.rolled_balances-rolled.ensures.0 c.first_products-first.ensures.0 in
    rw (
      signed_back first.lower last.upper c.difference.ensures (omega (arith, c.first_products-first.ensures.1)) (omega (arith, upper-sum-limit _ _ _ _ c.requires sums)),
      signed_back first.upper last.lower c.difference-2.ensures (omega (arith, c.first_products-first.ensures.2)) (omega (arith, lower-sum-limit _ _ _ _ c.requires sums)),
      c.difference.ensures,
      c.difference-2.ensures,
      is,
      sums,
    )
