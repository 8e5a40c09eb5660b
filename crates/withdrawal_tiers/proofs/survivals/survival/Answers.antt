-- `withdrawal_tiers::survivals::survival` meets its contract. Assumes nothing.
use Rattle.withdrawal.proofs.SurvivalLaws.{figure-at}
use Rattle.withdrawal_tiers.proofs.survivals.survival.Goals as goal

pub returns : goal.returns
returns c = rw c.requires.0 (figure-at _ c.requires.1)
