-- `price_months::walk::level_at` meets its contract. Assumes nothing.
use Rattle.withdrawal_months.specs.Levels.{level_at}
use Rattle.price_months.proofs.walk.level_at.Goals as goal

pub returns : goal.returns
unfolding level_at
returns c = c.from.ensures
