-- `withdrawal_tiers::survivals::all_survivals` meets its contract: the power rule is tested over all 601 entries at once. Assumes nothing.
use mathlib.Core.Path.{refl}
use Rattle.withdrawal.specs.Survival.{survives}
use Rattle.withdrawal.proofs.SurvivalLaws.{is_survival, figures-are}
use Rattle.withdrawal_tiers.proofs.survivals.all_survivals.Goals as goal

pub returns : goal.returns
unfolding is_survival survives
returns c = figures-are _ tt refl
