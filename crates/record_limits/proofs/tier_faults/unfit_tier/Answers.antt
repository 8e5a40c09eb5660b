-- `unfit_tier` meets its contract: each test of the code is the definition's.
-- Assumes nothing.
use borrow.Author.Tests.{lt-ltb, le-ltb, le-leb, lt-leb, eq-eqb, ne_eqb}
use Rattle.record_limits.specs.TierFaults.{unfit_tier}
use Rattle.record_limits.proofs.tier_faults.unfit_tier.Goals as goal

pub returns-then-withdrawal-gt-WITHDRAWAL_LIMIT : goal.returns-then-withdrawal-gt-WITHDRAWAL_LIMIT
unfolding unfit_tier
returns-then-withdrawal-gt-WITHDRAWAL_LIMIT c = rw (← c.sheet_number-withdrawal.ensures) (simp (lt-ltb _ _ c.if-withdrawal-gt-WITHDRAWAL_LIMIT.true))

pub returns-then-i-eq0 : goal.returns-then-i-eq0
unfolding unfit_tier
returns-then-i-eq0 c =
    rw (← c.sheet_number-withdrawal.ensures, ← c.sheet_number-edge.ensures)
    (simp (le-ltb _ _ c.if-withdrawal-gt-WITHDRAWAL_LIMIT.false, eq-eqb _ 0 c.if-i-eq0.true))

pub returns-then-edge-sheet_number : goal.returns-then-edge-sheet_number
unfolding unfit_tier
returns-then-edge-sheet_number c =
    rw (← c.sheet_number-withdrawal.ensures, ← c.sheet_number-edge.ensures, ← c.sheet_number.ensures)
    (simp (le-ltb _ _ c.if-withdrawal-gt-WITHDRAWAL_LIMIT.false, ne_eqb _ 0 c.if-i-eq0.false, le-leb _ _ c.if-edge-sheet_number.true))

pub returns : goal.returns
unfolding unfit_tier
returns c =
    rw (← c.sheet_number-withdrawal.ensures, ← c.sheet_number-edge.ensures, ← c.sheet_number.ensures, ← c.sheet_number-2.ensures)
    (simp (le-ltb _ _ c.if-withdrawal-gt-WITHDRAWAL_LIMIT.false, ne_eqb _ 0 c.if-i-eq0.false, lt-leb _ _ c.if-edge-sheet_number.false))
