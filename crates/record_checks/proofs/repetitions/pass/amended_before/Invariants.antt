-- `amended_before` meets its contract. The loop's invariant: what is still to be searched gives the answer.
-- Assumes nothing.
use Rattle.std.specs.Prelude.{Some}
use Prim.Native.Nat.{ℕ, ◌-◌}
use Rattle.record_kinds.specs.declared.items.Item.TheVariants.{Amendment}
use Rattle.record_kinds.specs.Items.{same_item, record_item}
use Rattle.record_fields.proofs.SearchLaws.{Ahead}
use Rattle.record_checks.proofs.repetitions.pass.amended_before.Given as goal

abbrev pub invariant-loop-at : goal.invariant-loop-at
invariant-loop-at l = Ahead l.s (λ (i : ℕ). same_item (record_item l.s i) (Some (Amendment l.cell l.number))) l.end l.at

abbrev pub decreases-loop-at : goal.decreases-loop-at
decreases-loop-at l = l.end - l.at
