-- `withdrawal_months::month_levels::last_level` meets its contract. Assumes nothing.
use Rattle.withdrawal_months.specs.TierLevels.{last_level}
use Rattle.withdrawal_months.proofs.month_levels.last_level.Goals as goal

pub returns-then-brokered : goal.returns-then-brokered
unfolding last_level
returns-then-brokered c = rw c.if-brokered.true

pub returns-else-brokered : goal.returns-else-brokered
unfolding last_level
returns-else-brokered c = rw c.if-brokered.false
