-- `sound_record` meets its contract: a record that is told to be sound is of one of three kinds, and takes 14 bytes at least.
-- Assumes nothing.
use native.Mathlib.Omega.{arith}
use mathlib.Core.Path.{sym, ap, ◌∙◌}
use lib.Dec.{eqb}
use Rattle.record_kinds.specs.Kinds.{fine_coupon_kind, gives_cell}
use Rattle.record_verdicts.proofs.NamedLaws.{not-told, other-kind, told-within}
use Rattle.record_verdicts.proofs.sound_records.sound_record.Goals as goal

pub returns-then-s-lt14 : goal.returns-then-s-lt14
returns-then-s-lt14 c = not-told _ _ (λ t. omega (arith, c.if-s-lt14.true, told-within _ _ t))

pub returns-then-s-at : goal.returns-then-s-at
returns-then-s-at c = not-told _ _ (λ t. omega (arith, c.if-s-lt14.false, c.if-s-at.true, told-within _ _ t))

pub returns-then-not-gives_cell : goal.returns-then-not-gives_cell
returns-then-not-gives_cell c =
    let is = c.field_within-kind.ensures in
    not-told _ _
    (other-kind _ _ (ap gives_cell (sym is) ∙ sym c.gives_cell.ensures ∙ c.if-not-gives_cell.true) (λ e. c.if-kind-eq-AMENDMENT_KIND.false (is ∙ e)))

-- the input is 14 bytes long at least, and `at` is not past its length less 14, so that 14 bytes are left; the kind that is read is the
-- record's, and it gives a cell
pub sound_value-requires : goal.sound_value-requires
sound_value-requires c =
    let is = c.field_within-kind.ensures in record {
      at_in_bounds = (
        omega (arith, c.if-s-lt14.false, c.if-s-at.false),
        ap gives_cell (sym is) ∙ sym c.gives_cell.ensures ∙ c.if-not-gives_cell.false,
        ap (λ k. eqb k fine_coupon_kind) is,
      );
      cells_value = c.requires;
    }
