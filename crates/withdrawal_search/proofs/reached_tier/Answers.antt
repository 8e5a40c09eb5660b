-- `withdrawal_search::reached_tier` meets its contract: the answer is what stands at the first level that is reached. Assumes nothing.
use Rattle.withdrawal.proofs.HeldLaws.{level-answer}
use Rattle.withdrawal_search.proofs.reached_tier.Goals as goal

pub returns : goal.returns
returns c =
    let found = c.reached_level-found in
    rw (c.withdrawal_at.ensures, c.survival_at.ensures) (level-answer c.args.tiers.now _ _ found.result.level _ c.requires.0 found.ensures.first found.ensures.tried)
