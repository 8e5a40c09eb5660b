-- `price_multipliers::multipliers_of` meets its contract. Assumes nothing.
use Rattle.price_multipliers.specs.Multipliers.{multipliers_of}
use Rattle.price_multipliers.proofs.multipliers_of.Goals as goal

pub returns : goal.returns
unfolding multipliers_of
returns c =
    rw (c.carried_of.ensures, c.par_multiplier.ensures, c.left_multiplier-left.ensures, c.beyond_whole.ensures.0, c.grown_share-share.ensures)
