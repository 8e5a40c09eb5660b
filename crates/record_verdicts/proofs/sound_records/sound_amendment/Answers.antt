-- `sound_amendment` meets its contract.
-- Assumes nothing.
use Prim.Native.Nat.{ℕ}
use native.Mathlib.Nat.{add-zero}
use native.Mathlib.Omega.{arith}
use mathlib.Core.Path.{◌≡◌, sym, ap, ◌∙◌}
use mathlib.Core.Bool.{not}
use borrow.Author.Tests.{not-true}
use Rattle.form.specs.Limits.{class_limit}
use Rattle.form.specs.Classes.{cell_class}
use Rattle.record_fields.specs.Bytes.{number_at}
use Rattle.record_fields.specs.Records.{record_length, record_cell}
use Rattle.record_verdicts.proofs.LimitLaws.{limit-class, class-limit}
use Rattle.record_verdicts.proofs.NamedLaws.{told, not-told, amendment-told, told-amendment, fit_is}
use Rattle.record_verdicts.proofs.sound_records.sound_amendment.Goals as goal

pub returns-then-s-at-lt18 : goal.returns-then-s-at-lt18
returns-then-s-at-lt18 c =
    not-told _ _ (λ t. omega (arith, (told-amendment _ _ c.requires.1 t).within))

pub returns-then-field_within-ne16 : goal.returns-then-field_within-ne16
returns-then-field_within-ne16 c =
    let size_is : c.field_within.result ≡ record_length c.args.s.now c.args.at = c.field_within.ensures ∙ ap (λ (i : ℕ). number_at c.args.s.now i 2) (add-zero c.args.at) in
    not-told _ _ (λ t. c.if-field_within-ne16.true (size_is ∙ (told-amendment _ _ c.requires.1 t).sized))

pub returns-then-limit-eq0 : goal.returns-then-limit-eq0
returns-then-limit-eq0 c =
    let limit_is : c.class_limit-limit.result
    ≡ class_limit (cell_class (record_cell c.args.s.now c.args.at)) = c.class_limit-limit.ensures ∙ ap class_limit (c.cell_class.ensures ∙ ap cell_class c.field_within-2.ensures) in
    not-told _ _ (λ t. class-limit _ _ c.requires.1 (told-amendment _ _ c.requires.1 t).listed (sym limit_is ∙ c.if-limit-eq0.true))

-- the tests before have left 18 bytes, length 16 and a listed cell, so that only whether it fits is open: where the last test passes the
-- record is sound, and a sound one fits, so that the test passes
pub returns : goal.returns
returns c =
    let size_is : c.field_within.result ≡ record_length c.args.s.now c.args.at = c.field_within.ensures ∙ ap (λ (i : ℕ). number_at c.args.s.now i 2) (add-zero c.args.at) in
    let limit_is : c.class_limit-limit.result
    ≡ class_limit (cell_class (record_cell c.args.s.now c.args.at)) = c.class_limit-limit.ensures ∙ ap class_limit (c.cell_class.ensures ∙ ap cell_class c.field_within-2.ensures) in
    let amends = c.requires.1 in
    let is = fit_is _ _ amends limit_is c.field_within-3.ensures c.field_within-4.ensures c.field_within-5.ensures in
    told _ _ _
    (λ e. amendment-told _ _ amends record {
      within = omega (arith, c.requires.0, c.if-s-at-lt18.false);
      sized = sym size_is ∙ c.if-field_within-ne16.false;
      listed = limit-class _ _ amends (λ z. c.if-limit-eq0.false (limit_is ∙ z));
      fit = sym is ∙ (sym c.unfit_for.ensures ∙ not-true _ e);
    })
    (λ t. ap not (c.unfit_for.ensures ∙ (is ∙ (told-amendment _ _ amends t).fit)))
