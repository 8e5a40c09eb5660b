-- `most_in` meets its contract.
-- Assumes nothing.
use mathlib.Core.Path.{sym, ap, ◌∙◌}
use borrow.Author.Tests.{eq-eqb, ne_eqb}
use Rattle.form.specs.Limits.{class_limit}
use Rattle.record_verdicts.specs.Inner.SoundRecords.{most_in}
use Rattle.record_verdicts.proofs.sound_records.limits.most_in.Goals as goal

pub returns-then-not-fine : goal.returns-then-not-fine
unfolding most_in
returns-then-not-fine c =
    rw (c.if-not-fine.true) (c.class_limit.ensures ∙ ap class_limit c.cell_class-class.ensures)

pub returns-then-class-eq-COUPON_CLASS : goal.returns-then-class-eq-COUPON_CLASS
unfolding most_in
returns-then-class-eq-COUPON_CLASS c =
    rw (c.if-not-fine.false, eq-eqb _ _ (sym c.cell_class-class.ensures ∙ c.if-class-eq-COUPON_CLASS.true))

pub returns-else-class-eq-COUPON_CLASS : goal.returns-else-class-eq-COUPON_CLASS
unfolding most_in
returns-else-class-eq-COUPON_CLASS c =
    rw (c.if-not-fine.false, ne_eqb _ _ (λ e. c.if-class-eq-COUPON_CLASS.false (c.cell_class-class.ensures ∙ e)))
