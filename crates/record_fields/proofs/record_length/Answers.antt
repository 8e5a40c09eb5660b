-- `record_length` meets its contract.
-- Assumes nothing.
use native.Mathlib.Nat.{add-zero}
use mathlib.Core.Path.{◌∙◌}
use Rattle.record_fields.proofs.record_length.Goals as goal

pub returns : goal.returns
returns c = c.field_at.ensures ∙ rw add-zero
