-- `walk_term` and `roll_over` meet their contracts: the walk stands where the definitions say month by month, and the months left to 360 fall. With k months left
-- the measures are 2 k for a term and 2 k - 1 for a rollover. Assumes nothing.
use Prim.Native.Nat.{suc, ◌<◌}
use mathlib.Core.Path.{◌≡◌, ◌∙◌}
use native.Mathlib.Omega.{arith}
use Rattle.intangible.specs.RollingTerms.{last_month}
use Rattle.intangible_months.specs.Inner.Lent.{lent_terms}
use Rattle.intangible_walk.proofs.WalkLaws.{term-small, month-within, left_le, survival-le, early-month, early-on, last-is, rolling-month, rolling-on}
use Rattle.intangible_walk.proofs.+roll_over_walk_term.Goals as goal

pub roll_over-rolled-next-requires : goal.roll_over-rolled-next-requires
unfolding lent_terms
roll_over-rolled-next-requires t c =
    let p = c.requires in
    (term-small _ _ _ _ _ _ p.walkable p.in_term, p.walkable.bounded.share-limit)

pub roll_over-next_term-opened-requires : goal.roll_over-next_term-opened-requires
unfolding lent_terms
roll_over-next_term-opened-requires t c =
    let p = c.requires in
    let month = rolling-month _ _ _ _ _ _ p.walkable p.in_term p.rolls_over c.rolled-next.ensures in
    (rw month p.rolls_over.before, p.walkable.term-le, p.walkable.scenario-lt, p.walkable.rates-fit)

pub roll_over-walk_term-requires : goal.roll_over-walk_term-requires
unfolding lent_terms
roll_over-walk_term-requires t c =
    let p = c.requires in
    let month = rolling-month _ _ _ _ _ _ p.walkable p.in_term p.rolls_over c.rolled-next.ensures in (
      omega (arith, month, c.decreases, p.in_term.standing.before),
      (p.walkable, rolling-on _ _ _ _ _ _ p.walkable p.in_term p.rolls_over c.rolled-next.ensures c.next_term-opened.ensures.0 c.next_term-opened.ensures.1),
    )

pub walk_term-early-at-requires : goal.walk_term-early-at-requires
unfolding lent_terms
walk_term-early-at-requires t c =
    let p = c.requires in
    let inv = c.loop-at.invariant in
    record {
      small_walk = (term-small _ _ _ _ _ _ p.walkable inv.in-term, p.walkable.rates-fit, p.walkable.edges_fit);
      month_bound = (month-within _ _ _ _ _ _ p.walkable inv.in-term, left_le _ _ _ _ _ _ p.walkable inv.in-term);
      month_bound_2 = survival-le _ _ _ _ _ _ p.walkable inv.in-term;
    }

pub walk_term-loop-at-smaller : goal.walk_term-loop-at-smaller
unfolding lent_terms
walk_term-loop-at-smaller t c =
    let inv = c.loop-at.invariant in
    let last = c.min-last.ensures in
    let he : suc c.loop-at.at.month < c.args.term.end = omega (arith, c.loop-at-test.true, last) in
    let hh : suc c.loop-at.at.month < last_month = omega (arith, c.loop-at-test.true, last) in
    omega (arith, early-month _ _ _ _ _ _ c.requires.walkable inv.in-term he hh c.early-at.ensures, hh)

pub walk_term-loop-at-preserved : goal.walk_term-loop-at-preserved
unfolding lent_terms
walk_term-loop-at-preserved t c =
    let inv = c.loop-at.invariant in
    let last = c.min-last.ensures in
    let he : suc c.loop-at.at.month < c.args.term.end = omega (arith, c.loop-at-test.true, last) in
    let hh : suc c.loop-at.at.month < last_month = omega (arith, c.loop-at-test.true, last) in
    record {
      in-term = early-on _ _ _ _ _ _ c.requires.walkable inv.in-term he hh c.early-at.ensures;
      from = omega (arith, early-month _ _ _ _ _ _ c.requires.walkable inv.in-term he hh c.early-at.ensures, inv.from);
    }

pub walk_term-roll_over-requires : goal.walk_term-roll_over-requires
unfolding lent_terms
walk_term-roll_over-requires t c =
    let p = c.requires in
    let inv = c.loop-at.invariant in
    let last = c.min-last.ensures in
    let early : c.args.term.end < last_month = omega arith in
    let he : suc c.loop-at.at.month ≡ c.args.term.end = omega (arith, c.loop-at-test.false, last, month-within _ _ _ _ _ _ p.walkable inv.in-term) in (
      omega (arith, c.decreases, inv.from, inv.in-term.standing.before),
      (p.walkable, (inv.in-term, record { ends = he; before = rw he early })),
    )

pub walk_term-paid_out-requires : goal.walk_term-paid_out-requires
unfolding lent_terms
walk_term-paid_out-requires t c = term-small _ _ _ _ _ _ c.requires.walkable c.loop-at.invariant.in-term

pub walk_term-returns : goal.walk_term-returns
unfolding lent_terms
walk_term-returns t c =
    let inv = c.loop-at.invariant in
    let last = c.min-last.ensures in
    let h : suc c.loop-at.at.month ≡ last_month = omega (arith, c.loop-at-test.false, c.if-term-lt-LAST_MONTH.false, last, inv.in-term.standing.before) in
    c.paid_out.ensures ∙ last-is _ _ _ _ _ _ c.requires.walkable inv.in-term h
