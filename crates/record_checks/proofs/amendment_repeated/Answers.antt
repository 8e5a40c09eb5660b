-- `amendment_repeated` meets its contract: 16 is about amendments alone.
-- Assumes nothing.
use Rattle.std.specs.Prelude.{Some}
use mathlib.Core.Path.{refl, sym, ◌∙◌, ap}
use Rattle.record_shape.specs.Faults.{stands_before}
use Rattle.record_shape.proofs.RepetitionLaws.{amendment-stands, plain-single}
use Rattle.record_checks.proofs.amendment_repeated.Goals as goal

pub returns-in-Some-Cell : goal.returns-in-Some-Cell
returns-in-Some-Cell c = sym (plain-single _ _ _ (sym c.record_item.ensures ∙ c.in-Some-Cell.is ∙ ap Some c.in-Some-Cell.field-0-is) refl)

pub returns-in-Some-Sheet : goal.returns-in-Some-Sheet
returns-in-Some-Sheet c = sym (plain-single _ _ _ (sym c.record_item.ensures ∙ c.in-Some-Sheet.is ∙ ap Some c.in-Some-Sheet.field-0-is) refl)

pub returns-in-Some-Amendment : goal.returns-in-Some-Amendment
unfolding stands_before
returns-in-Some-Amendment c =
    let is = sym c.record_item.ensures ∙ c.in-Some-Amendment.is ∙ ap Some c.in-Some-Amendment.field-0-is in
    sym (amendment-stands _ _ _ _ is ∙ rw is (sym c.amended_before.ensures))

pub returns-in-None : goal.returns-in-None
returns-in-None c = sym (plain-single _ _ _ (sym c.record_item.ensures ∙ c.in-None.is) refl)
