-- `price_months::month_steps::kept_of` meets its contract. Assumes nothing.
use Prim.Native.Nat.{zero-le}
use mathlib.Core.Path.{refl}
use native.Mathlib.Nat.{le_refl}
use Rattle.price_months.proofs.month_steps.kept_of.Goals as goal

pub returns-then-whole : goal.returns-then-whole
returns-then-whole c = rw c.if-whole.true (refl, le_refl _)

pub returns-else-whole : goal.returns-else-whole
returns-else-whole c = rw c.if-whole.false (refl, zero-le)
