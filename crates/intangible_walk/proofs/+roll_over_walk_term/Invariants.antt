-- The loop of `walk_term`, and the measures of the cycle: with k months left to 360 they are 2 k for a term and 2 k - 1 for a rollover.
use Prim.Native.Nat.{◌*◌, ◌-◌}
use Rattle.intangible.specs.RollingTerms.{last_month}
use Rattle.intangible_months.specs.Inner.Lent.{lent_terms}
use Rattle.intangible_walk.proofs.WalkLaws.{Inside}
use Rattle.intangible_walk.proofs.+roll_over_walk_term.Given as goal

abbrev pub decreases-roll_over : goal.decreases-roll_over
decreases-roll_over l = 2 * (last_month - l.w.month) - 1

abbrev pub decreases-walk_term : goal.decreases-walk_term
decreases-walk_term l = 2 * (last_month - l.w.month)

abbrev pub invariant-walk_term-loop-at : goal.invariant-walk_term-loop-at
invariant-walk_term-loop-at l =
    Inside (lent_terms l.cell l.scenario l.market.rates.now l.market.tiers.now) l.scenario l.market.factors.now.lower l.market.factors.now.upper l.term l.initial.at.month l.at

abbrev pub decreases-walk_term-loop-at : goal.decreases-walk_term-loop-at
decreases-walk_term-loop-at l = last_month - l.at.month
