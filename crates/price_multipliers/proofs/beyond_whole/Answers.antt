-- `price_multipliers::beyond_whole` meets its contract. Assumes nothing.
use native.Mathlib.Omega.{arith}
use borrow.Author.Tests.{le-leb, lt-leb}
use Rattle.price_multipliers.specs.Multipliers.{beyond}
use Rattle.price_multipliers.proofs.beyond_whole.Goals as goal

pub returns-then-share-ge-GROWTH_SCALE : goal.returns-then-share-ge-GROWTH_SCALE
unfolding beyond
returns-then-share-ge-GROWTH_SCALE c = (rw (le-leb _ _ c.if-share-ge-GROWTH_SCALE.true), omega (arith, c.requires))

pub returns-else-share-ge-GROWTH_SCALE : goal.returns-else-share-ge-GROWTH_SCALE
unfolding beyond
returns-else-share-ge-GROWTH_SCALE c = (rw (lt-leb _ _ c.if-share-ge-GROWTH_SCALE.false), c.if-share-ge-GROWTH_SCALE.false)
