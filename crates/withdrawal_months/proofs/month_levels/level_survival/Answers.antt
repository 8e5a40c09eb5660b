-- `withdrawal_months::month_levels::level_survival` meets its contract. Assumes nothing.
use borrow.Author.Tests.{lt-ltb, le-ltb}
use Rattle.withdrawal_months.specs.TierLevels.{level_survival}
use Rattle.withdrawal_months.proofs.month_levels.level_survival.Goals as goal

pub returns-then-level-lt1 : goal.returns-then-level-lt1
unfolding level_survival
returns-then-level-lt1 c = rw (c.if-brokered.true, lt-ltb _ _ c.if-level-lt1.true)

pub returns-else-level-lt1 : goal.returns-else-level-lt1
unfolding level_survival
returns-else-level-lt1 c = rw (c.if-brokered.true, le-ltb _ _ c.if-level-lt1.false)

pub returns : goal.returns
unfolding level_survival
returns c = rw c.if-brokered.false c.survival_at.ensures
