-- `amount_at` meets its contract: a coupon within its limit fits tenfold.
-- Assumes nothing.
use Prim.Native.Nat.{◌*◌}
use native.Mathlib.Omega.{arith}
use mathlib.Core.Path.{◌≡◌, sym}
use borrow.Author.Tests.{eq-eqb, ne_eqb}
use Rattle.form.specs.Limits.{coupon_class, coupon_limit, held_limit}
use Rattle.form.specs.Classes.{cell_class}
use Rattle.record_fields.specs.Records.{record_cell}
use Rattle.record_kinds.specs.Kinds.{fine_coupon_kind}
use Rattle.filing_contents.specs.Amounts.{amount_at}
use Rattle.filing_contents.proofs.AmountLaws.{amount-past}
use Rattle.filing_contents.proofs.cell_amounts.amount_at.Goals as goal

pub returns-then-s-at : goal.returns-then-s-at
returns-then-s-at c = sym (amount-past _ _ c.if-s-at.true)

pub returns-then-record_kind-eq-FINE_COUPON_KIND : goal.returns-then-record_kind-eq-FINE_COUPON_KIND
unfolding amount_at
returns-then-record_kind-eq-FINE_COUPON_KIND c =
    rw (← c.record_kind.ensures, ← c.filed_value-value.ensures) (simp (eq-eqb _ fine_coupon_kind c.if-record_kind-eq-FINE_COUPON_KIND.true))

pub overflow_mul-result : goal.overflow_mul-result
unfolding amount_at held_limit
overflow_mul-result c =
    let tenfold : 10 * c.filed_value-value.result
    ≡ amount_at c.args.s.now c.args.at = rw (
      ← c.record_kind.ensures,
      ← c.filed_value-value.ensures,
      ← c.record_cell.ensures,
      ← c.cell_class.ensures,
    )
    (simp (ne_eqb c.record_kind.result fine_coupon_kind (omega arith), eq-eqb _ coupon_class c.if-cell_class-eq-COUPON_CLASS.true)) in
    let limit : held_limit (cell_class (record_cell c.args.s.now c.args.at))
    ≡ coupon_limit = rw (← c.record_cell.ensures, ← c.cell_class.ensures) (simp (eq-eqb _ coupon_class c.if-cell_class-eq-COUPON_CLASS.true)) in
    omega (arith, tenfold, limit, c.requires)

pub returns-then-cell_class-eq-COUPON_CLASS : goal.returns-then-cell_class-eq-COUPON_CLASS
unfolding amount_at
returns-then-cell_class-eq-COUPON_CLASS c =
    let tenfold : 10 * c.filed_value-value.result
    ≡ amount_at c.args.s.now c.args.at = rw (
      ← c.record_kind.ensures,
      ← c.filed_value-value.ensures,
      ← c.record_cell.ensures,
      ← c.cell_class.ensures,
    )
    (simp (ne_eqb c.record_kind.result fine_coupon_kind (omega arith), eq-eqb _ coupon_class c.if-cell_class-eq-COUPON_CLASS.true)) in
    tenfold

-- the kind is not 6 and the cell is no coupon, so that the amount is the filed value as it is
pub returns : goal.returns
unfolding amount_at
returns c =
    rw (
      ← c.record_kind.ensures,
      ← c.filed_value-value.ensures,
      ← c.record_cell.ensures,
      ← c.cell_class.ensures,
    )
    (simp (ne_eqb c.record_kind.result fine_coupon_kind (omega arith), ne_eqb _ coupon_class c.if-cell_class-eq-COUPON_CLASS.false))
