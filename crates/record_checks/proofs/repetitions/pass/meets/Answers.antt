-- `meets` meets its contract.
-- Assumes nothing.
use Prim.Native.Nat.{ℕ, ◌/◌}
use Rattle.std.specs.Prelude.{Some}
use mathlib.Core.Path.{◌≡◌, sym, ap, ◌∙◌}
use borrow.Author.Tests.{eq-eqb}
use Rattle.record_offsets.specs.Inner.Notes.{block_size, block_of}
use Rattle.record_kinds.proofs.ItemLaws.{OfAmendment, record-of-amendment}
use Rattle.record_checks.specs.Inner.Repetitions.{met_again, met_with}
use Rattle.record_checks.proofs.MetLaws.{number-block, other-met}
use Rattle.record_checks.proofs.repetitions.pass.meets.Goals as goal

-- what would be the number is of another block
pub returns-then-amendment_number-block : goal.returns-then-amendment_number-block
returns-then-amendment_number-block c =
    let none = other-met c.args.s.now c.args.block c.args.at c.args.met.now c.type_inv.s
    (λ e. c.if-amendment_number-block.true (ap (λ (n : ℕ). n / block_size) c.amendment_number.ensures ∙ e)) in
    (sym none.0, sym none.1)

pub key_of-key-requires : goal.key_of-key-requires
key_of-key-requires c =
    let of-amendment : OfAmendment c.args.s.now c.args.at c.in-Some-Amendment.cell c.in-Some-Amendment.number = record-of-amendment _ _ _ _ (sym c.record_item.ensures ∙ c.in-Some-Amendment.is ∙ ap Some c.in-Some-Amendment.field-0-is) in
    let of = of-amendment in
    (of.from_first, of.to_last)

pub returns-in-Some-Cell : goal.returns-in-Some-Cell
unfolding met_again met_with
returns-in-Some-Cell c = (rw (← c.record_item.ensures, c.in-Some-Cell.is, c.in-Some-Cell.field-0-is), rw (← c.record_item.ensures, c.in-Some-Cell.is, c.in-Some-Cell.field-0-is))

pub returns-in-Some-Sheet : goal.returns-in-Some-Sheet
unfolding met_again met_with
returns-in-Some-Sheet c = (rw (← c.record_item.ensures, c.in-Some-Sheet.is, c.in-Some-Sheet.field-0-is), rw (← c.record_item.ensures, c.in-Some-Sheet.is, c.in-Some-Sheet.field-0-is))

-- the record is an amendment whose number is of the block: whether it was met is whether its key is in the set, and its key is put there
pub returns-in-Some-Amendment : goal.returns-in-Some-Amendment
unfolding met_again met_with
returns-in-Some-Amendment c =
    let same_block : block_of c.in-Some-Amendment.number ≡ c.args.block = sym (number-block _ _ _ _ c.type_inv.s (sym c.record_item.ensures ∙ c.in-Some-Amendment.is ∙ ap Some c.in-Some-Amendment.field-0-is))
    ∙ ap (λ (n : ℕ). n / block_size) (sym c.amendment_number.ensures)
    ∙ c.if-amendment_number-block.false in
    let same = eq-eqb _ _ same_block in (
      rw (← c.record_item.ensures, c.in-Some-Amendment.is, c.in-Some-Amendment.field-0-is, ← c.key_of-key.ensures) (simp same c.holds-again.ensures),
      rw (← c.record_item.ensures, c.in-Some-Amendment.is, c.in-Some-Amendment.field-0-is, ← c.key_of-key.ensures) (simp same c.put.ensures),
    )

pub returns-in-None : goal.returns-in-None
unfolding met_again met_with
returns-in-None c = (rw (← c.record_item.ensures, c.in-None.is), rw (← c.record_item.ensures, c.in-None.is))
