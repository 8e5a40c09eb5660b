-- `number_of` meets its contract.
-- Assumes nothing.
use Rattle.record_fields.proofs.number_of.Goals as goal

pub number_in-requires : goal.number_in-requires
number_in-requires c = c.requires c.if-within.true
