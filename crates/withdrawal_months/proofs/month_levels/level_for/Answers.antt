-- `withdrawal_months::month_levels::level_for` meets its contract. Assumes nothing.
use mathlib.Core.Path.{refl}
use Rattle.withdrawal_months.proofs.month_levels.level_for.Goals as goal

pub returns-then-gain_above_cost : goal.returns-then-gain_above_cost
returns-then-gain_above_cost c = rw (c.if-brokered.true, ← c.gain_above_cost.ensures, c.if-gain_above_cost.true) refl

pub returns-else-gain_above_cost : goal.returns-else-gain_above_cost
returns-else-gain_above_cost c = rw (c.if-brokered.true, ← c.gain_above_cost.ensures, c.if-gain_above_cost.false) refl

pub returns : goal.returns
returns c = rw c.if-brokered.false c.reached_level.ensures.first
