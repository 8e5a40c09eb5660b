-- `withdrawal_tiers::house` meets its contract: the arrays hold the tiers of the definition and their survivals. Assumes nothing.
use mathlib.Core.Path.{refl}
use Rattle.lists.specs.Tables.{table_from, padded}
use Rattle.withdrawal.specs.Survival.{survives, with_bits, survival}
use Rattle.withdrawal.specs.Tiers.{tier, house_tiers}
use Rattle.withdrawal.specs.Inner.TierArrays.{tier_table, tier_table_of, with_survivals, held}
use Rattle.withdrawal.proofs.FallingLaws.{house-falling}
use Rattle.withdrawal.proofs.HeldLaws.{tiers-fit-of-tests, fit-usable}
use Rattle.withdrawal_tiers.proofs.house.Goals as goal

pub returns : goal.returns
unfolding house_tiers tier tier_table tier_table_of with_survivals padded held table_from survival with_bits survives
returns c = (refl, fit-usable _ _ _ _ (tiers-fit-of-tests _ _ _ _ tt tt tt tt) refl house-falling)
