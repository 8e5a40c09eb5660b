-- `withdrawal_search::reached_level` meets its contract: no edge before the level is reached, and each of them has been tried. Assumes nothing.
use mathlib.Core.Path.{refl, sym, ◌∙◌}
use native.Mathlib.Nat.{le_refl, not-suc-le-zero, not-le_of_lt}
use native.Mathlib.Omega.{arith}
use Rattle.withdrawal.proofs.TierLaws.{unreached-more}
use Rattle.withdrawal_search.proofs.SearchLaws.{search-ends, search-fails}
use Rattle.withdrawal_search.proofs.reached_level.Goals as goal

pub loop-level-init : goal.loop-level-init
loop-level-init c i l = absurd (not-suc-le-zero l)

pub reaches-requires : goal.reaches-requires
reaches-requires c = (c.requires.1, c.requires.0.edge-le c.loop-level.level)

pub returns-then-reaches : goal.returns-then-reaches
returns-then-reaches c =
    search-ends _ c.args.edges.now _ _ c.loop-level.level _
    (record { within = omega arith; before = c.loop-level.invariant; here = λ l. sym c.reaches.ensures ∙ c.if-reaches.true })
    c.loop-level-test.true refl

pub loop-level-preserved : goal.loop-level-preserved
loop-level-preserved c =
    unreached-more c.args.edges.now _ _ c.loop-level.level c.loop-level.invariant (sym c.reaches.ensures ∙ c.if-reaches.false)

pub returns : goal.returns
returns c =
    search-fails _ c.args.edges.now _ _ c.args.count _
    (record { within = le_refl _; before = λ i l. c.loop-level.invariant i (omega arith); here = λ l. absurd (not-le_of_lt l (le_refl _)) })
    (le_refl _) refl
