-- `withdrawal_gain::gain_above_cost` meets its contract. Assumes nothing.
use mathlib.Core.Path.{sym}
use Rattle.withdrawal.proofs.GainLaws.{gain-above-cost-iff}
use Rattle.withdrawal_gain.proofs.gain_above_cost.Goals as goal

pub returns : goal.returns
returns c = sym (gain-above-cost-iff _)
