-- `filed_term::rolled_balances` meets its contract. Assumes nothing.
use native.Mathlib.Nat.{le_trans}
use Rattle.pricing.specs.Rounding.{rounding_of}
use Rattle.intangible.specs.Run.{rolled_by}
use Rattle.intangible.specs.Inner.Month.{part_by}
use Rattle.intangible_months.specs.Inner.Lent.{lent_terms}
use Rattle.intangible_cells.specs.Inner.Filed.{balances_at, rolled_bounds}
use Rattle.intangible_cells.proofs.filed_term.rolled_balances.Goals as goal

pub part-requires : goal.part-requires
unfolding lent_terms
part-requires c = (c.filed_balances-filed.ensures.1, c.requires.0.share-limit)

pub part-requires-2 : goal.part-requires-2
unfolding lent_terms
part-requires-2 c = (c.filed_balances-filed.ensures.2, c.requires.0.share-limit)

pub returns : goal.returns
unfolding lent_terms balances_at rolled_bounds rolled_by part_by rounding_of
returns c =
    let filed = c.filed_balances-filed.ensures in (
      rw (c.part.ensures.0, c.part-2.ensures.0, filed.0),
      le_trans c.part.ensures.1 filed.1,
      le_trans c.part-2.ensures.1 filed.2,
    )
