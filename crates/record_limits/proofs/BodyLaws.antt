-- What holds of a body that 5 does not refuse: a cell's value and a sheet's numbers are within their limits.
-- Assumes nothing.
use Prim.Native.Nat.{ℕ, ◌≤◌}
use native.Mathlib.Omega.{arith}
use mathlib.Core.Path.{◌≡◌, refl, sym, ap}
use mathlib.Core.Bool.{Bool, true, false, cond, not, ◌||◌, true≢false}
use mathlib.Core.List.{List}
use borrow.Author.Tests.{ltb-false, eqb-true, eqb-false, eq-eqb, ne_eqb}
use lib.Dec.{ltb, eqb}
use Rattle.form.specs.Limits.{class_limit}
use Rattle.form.specs.Classes.{cell_class}
use Rattle.record_fields.specs.Records.{record_kind, record_cell, record_value, amendment_number, amendment_state, amendment_value, sheet_number}
use Rattle.record_kinds.specs.Kinds.{cell_kind, fine_coupon_kind, gives_cell, amendment_kind, sheet_of, sheet_kinds, sheet_kind}
use Rattle.record_limits.specs.Bodies.{value_limit, unfit_for, unfit_amendment, number_over, over_limit}
use Rattle.record_limits.proofs.SheetLaws.{none_over}

-- a kind that gives a cell its value is no sheet
cell-no-sheet : (kind : ℕ) → gives_cell kind ≡ true → (sheet_kind kind).numbers ≡ 0
unfolding gives_cell sheet_of sheet_kinds sheet_kind
cell-no-sheet kind = by (eqb kind cell_kind) (eqb kind fine_coupon_kind) refl refl
  where
    by : (one fine : Bool) → eqb kind cell_kind ≡ one → eqb kind fine_coupon_kind ≡ fine → (one || fine) ≡ true → (sheet_kind kind).numbers ≡ 0
    by true fine e f h = ap (λ (k : ℕ). (sheet_kind k).numbers) (eqb-true kind cell_kind e)
    by false true e f h = ap (λ (k : ℕ). (sheet_kind k).numbers) (eqb-true kind fine_coupon_kind f)
    by false false e f h = absurd (true≢false (sym h))

amendment-no-sheet : (kind : ℕ) → kind ≡ amendment_kind → (sheet_kind kind).numbers ≡ 0
unfolding sheet_of sheet_kinds sheet_kind
amendment-no-sheet kind e = ap (λ (k : ℕ). (sheet_kind k).numbers) e

-- an amendment that fits: its value is within its class's limit, or it withdraws the cell and its value is 0
pub record FitAmendment (s : List ℕ) (at : ℕ) : Type 0 where
  pub numbered : 1 ≤ amendment_number s at
  pub limited : amendment_state s at ≡ 0 → amendment_value s at ≤ class_limit (cell_class (record_cell s at))
  pub emptied : (amendment_state s at ≡ 0 → ⊥) → amendment_value s at ≡ 0

-- 5 holds of a number 0, of a state that is neither 0 nor 1, of a value over its limit in state 0 and of a value above 0 in state 1. What is
-- left has a number above 0 and either state 0 and a value within the limit, or state 1 and value 0
pub amendment-fits : (s : List ℕ) (at : ℕ) → unfit_amendment s at ≡ false → FitAmendment s at
unfolding unfit_for unfit_amendment
amendment-fits s at =
    by (eqb (amendment_number s at) 0) (eqb (amendment_state s at) 0) (eqb (amendment_state s at) 1) (eqb (amendment_value s at) 0) refl refl refl
  where
    by : (none valued withdrawn empty : Bool)
        → eqb (amendment_number s at) 0 ≡ none
        → eqb (amendment_state s at) 0 ≡ valued
        → eqb (amendment_value s at) 0 ≡ empty
        → cond none true
        (cond valued (ltb (class_limit (cell_class (record_cell s at))) (amendment_value s at)) (cond withdrawn (not empty) true)) ≡ false
        → FitAmendment s at
    by true valued withdrawn empty n v z h = absurd (true≢false h)
    by false true withdrawn empty n v z h =
        let some = eqb-false (amendment_number s at) 0 n in
        record {
          numbered = omega arith;
          limited = λ e. ltb-false (class_limit (cell_class (record_cell s at))) (amendment_value s at) h;
          emptied = λ o. absurd (o (eqb-true (amendment_state s at) 0 v));
        }
    by false false true true n v z h =
        let some = eqb-false (amendment_number s at) 0 n in
        record {
          numbered = omega arith;
          limited = λ e. absurd (eqb-false (amendment_state s at) 0 v e);
          emptied = λ o. eqb-true (amendment_value s at) 0 z;
        }
    by false false true false n v z h = absurd (true≢false h)
    by false false false empty n v z h = absurd (true≢false h)

module _ (s : List ℕ) (at : ℕ) where
  -- 5 does not hold at a cell: the value is within its limit
  pub value-within : over_limit s at ≡ false → gives_cell (record_kind s at) ≡ true → record_value s at ≤ value_limit s at
  unfolding over_limit
  value-within h e = ltb-false (value_limit s at) (record_value s at) (simp e at h)

  -- 5 does not hold at an amendment: it fits
  pub amendment-within : over_limit s at ≡ false → record_kind s at ≡ amendment_kind → unfit_amendment s at ≡ false
  unfolding over_limit gives_cell
  amendment-within h e =
      simp (
        ne_eqb (record_kind s at) cell_kind (λ k. omega arith),
        ne_eqb (record_kind s at) fine_coupon_kind (λ k. omega arith),
        eq-eqb (record_kind s at) amendment_kind e,
      ) at h

  -- 5 does not hold at a sheet: each of its numbers is within the limit. A record of a cell and an amendment have no numbers of a sheet; of
  -- another kind 5 is that one of the numbers is over the limit
  pub numbers-within : over_limit s at ≡ false → (i : ℕ) → 1 ≤ i → i ≤ (sheet_kind (record_kind s at)).numbers
      → sheet_number s at i ≤ (sheet_kind (record_kind s at)).limit
  unfolding over_limit
  numbers-within h i l u = by (gives_cell (record_kind s at)) (eqb (record_kind s at) amendment_kind) refl refl h
    where
      by : (gives amends : Bool) → gives_cell (record_kind s at) ≡ gives → eqb (record_kind s at) amendment_kind ≡ amends
          → cond gives (ltb (value_limit s at) (record_value s at))
          (cond amends (unfit_amendment s at)
          (number_over s at (sheet_kind (record_kind s at)).limit (sheet_kind (record_kind s at)).numbers)) ≡ false
          → sheet_number s at i ≤ (sheet_kind (record_kind s at)).limit
      by true amends e f h = absurd (omega (arith, cell-no-sheet (record_kind s at) e))
      by false true e f h = absurd (omega (arith, amendment-no-sheet (record_kind s at) (eqb-true (record_kind s at) amendment_kind f)))
      by false false e f h = none_over s at (sheet_kind (record_kind s at)).limit (sheet_kind (record_kind s at)).numbers h i l u
