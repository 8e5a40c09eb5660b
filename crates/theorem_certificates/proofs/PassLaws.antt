-- Records that pass: a sound cell's and a sound sheet's, each not repeated, and what each may stand once as. Assumes nothing.
use Rattle.std.specs.Prelude.{Some}
use Prim.Native.Nat.{ℕ, zero, suc, ◌+◌, ◌*◌, ◌≤◌, ◌<◌}
use native.Mathlib.Omega.{arith}
use mathlib.Core.Path.{◌≡◌, refl}
use mathlib.Core.Bool.{false, not, and-false}
use mathlib.Core.List.{List}
use borrow.Author.Tests.{le-ltb, eq-eqb, ne_eqb}
use lib.Dec.{ltb, eqb}
use lib.ListN.{length}
use Rattle.lists.specs.Tables.{any_below}
use Rattle.form.specs.Limits.{class_limit, rate_limit}
use Rattle.form.specs.Classes.{cell_class}
use Rattle.answers.specs.Verdict.{accepted, refused_if, first_refusal, first_of}
use Rattle.record_fields.specs.Records.{record_length, record_kind, record_cell, record_value, sheet_number, next_record}
use Rattle.record_kinds.specs.Kinds.{sheet_of, sheet_kinds, sheet_kind, sheet_length, gives_cell, names_cell, amendment_kind, tiers_kind, due_length}
use Rattle.record_kinds.specs.declared.items.Item.TheVariants.{Cell, Sheet}
use Rattle.record_kinds.specs.Items.{record_class, record_item}
use Rattle.record_limits.specs.Bodies.{number_over, value_limit, over_limit}
use Rattle.record_limits.specs.TierFaults.{unsound_tiers}
use Rattle.record_shape.specs.Faults.{incomplete, misshapen, unlisted, stands_before, repeated, amendment_repeated, path_beside_flat}
use Rattle.record_verdicts.specs.RecordVerdicts.{shape_verdict, body_verdict, record_verdict}
use Rattle.certificate_cells.specs.declared.filled_cells.CellValue.{CellValue}

-- a kind of sheet: n numbers up to the limit of a rate
pub record RateSheet (kind n : ℕ) : Type 0 where
  pub gives_no_cell : gives_cell kind ≡ false
  pub no-amendment : eqb kind amendment_kind ≡ false
  pub no-tiers : eqb kind tiers_kind ≡ false
  pub numbers-are : (sheet_kind kind).numbers ≡ n
  pub limit_is : (sheet_kind kind).limit ≡ rate_limit
  pub some : eqb n 0 ≡ false

module _ (s : List ℕ) (at : ℕ) where
  -- no row of the table holds
  pub passes : incomplete s at ≡ false → misshapen s at ≡ false → unlisted s at ≡ false → stands_before s at ≡ false → path_beside_flat s at ≡ false
      → over_limit s at ≡ false → unsound_tiers s at ≡ false → record_verdict s at ≡ accepted
  unfolding record_verdict shape_verdict body_verdict first_of first_refusal refused_if accepted
  passes a b c d e f g =
      let once : repeated s at ≡ false = rw d (and-false (not (eqb (record_kind s at) amendment_kind))) in
      let single : amendment_repeated s at ≡ false = rw d (and-false (eqb (record_kind s at) amendment_kind)) in
      rw (a, b, c, once, e, single, f, g)

  -- it ends within the filing
  pub complete : (n : ℕ) → record_length s at ≡ n → 2 ≤ n → next_record s at ≤ length s → incomplete s at ≡ false
  unfolding incomplete next_record
  complete n e l h =
      rw (le-ltb (length s) (at + 2) (omega arith), le-ltb (record_length s at) 2 (omega (arith, e)), le-ltb (length s) (at + 2 + record_length s at) h)

  -- a record of a cell
  pub record CellRecord (c : CellValue) : Type 0 where
    pub length-is : record_length s at ≡ 12
    pub kind-is : record_kind s at ≡ 1
    pub cell-is : record_cell s at ≡ c.cell
    pub value-is : record_value s at ≡ c.value

  -- a listed cell whose value is within its limit
  module _ (c : CellValue) (r : CellRecord c) (listed : eqb (cell_class c.cell) 0 ≡ false) where
    pub cell-item : record_item s at ≡ Some (Cell c.cell)
    unfolding record_item record_class gives_cell
    cell-item = rw (r.kind-is, r.cell-is, listed)

    cell-shape : misshapen s at ≡ false
    unfolding due_length gives_cell
    cell-shape = rw (r.length-is, r.kind-is)

    cell-listed : unlisted s at ≡ false
    unfolding record_class gives_cell names_cell
    cell-listed = rw (r.kind-is, r.cell-is, listed)

    cell_apart : path_beside_flat s at ≡ false
    unfolding path_beside_flat
    cell_apart = rw r.kind-is

    cell-low : c.value ≤ class_limit (cell_class c.cell) → over_limit s at ≡ false
    unfolding over_limit value_limit gives_cell
    cell-low h = rw (r.kind-is, r.cell-is, r.value-is) (le-ltb (class_limit (cell_class c.cell)) c.value h)

    cell-plain : unsound_tiers s at ≡ false
    unfolding unsound_tiers
    cell-plain = rw r.kind-is

    pub cell-passes : c.value ≤ class_limit (cell_class c.cell) → next_record s at ≤ length s → stands_before s at ≡ false → record_verdict s at ≡ accepted
    cell-passes limit ends once =
        passes (complete 12 r.length-is (omega arith) ends) cell-shape cell-listed once cell_apart (cell-low limit) cell-plain

  -- a record of a sheet of n numbers
  pub record SheetRecord (kind n : ℕ) (f : ℕ → ℕ) : Type 0 where
    pub length-is : record_length s at ≡ 2 + 2 * n
    pub kind-is : record_kind s at ≡ kind
    pub number_is : (i : ℕ) → i < n → sheet_number s at (suc i) ≡ f (suc i)

  module _ (kind n : ℕ) (f : ℕ → ℕ) (r : SheetRecord kind n f) (k : RateSheet kind n) where
    sheet-due : due_length s at ≡ 2 + 2 * n
    unfolding due_length sheet_length
    sheet-due = rw (r.kind-is, k.gives_no_cell, k.no-amendment, k.no-tiers, k.numbers-are, k.some)

    pub sheet-item : record_item s at ≡ Some (Sheet kind)
    unfolding record_item
    sheet-item =
        let due : eqb (due_length s at) 0 ≡ false = rw sheet-due (ne_eqb (2 + 2 * n) 0 (λ e. omega arith)) in
        rw (due, r.kind-is, k.gives_no_cell, k.no-amendment)

    sheet-shape : misshapen s at ≡ false
    sheet-shape = rw (sheet-due, r.length-is, eq-eqb (2 + 2 * n) (2 + 2 * n) refl)

    sheet-listed : unlisted s at ≡ false
    unfolding names_cell
    sheet-listed = rw (r.kind-is, k.gives_no_cell, k.no-amendment)

    sheet-plain : unsound_tiers s at ≡ false
    unfolding unsound_tiers
    sheet-plain = rw (r.kind-is, k.no-tiers)

    none_over : (m : ℕ) → m ≤ n → ((i : ℕ) → i < n → f (suc i) ≤ rate_limit) → any_below (λ (i : ℕ). ltb rate_limit (sheet_number s at (suc i))) m ≡ false
    unfolding any_below
    none_over zero l h = refl
    none_over (suc m) l h =
        rw (none_over m (omega arith) h, r.number_is m l) (le-ltb rate_limit (f (suc m)) (h m l))

    sheet-low : ((i : ℕ) → i < n → f (suc i) ≤ rate_limit) → over_limit s at ≡ false
    unfolding over_limit number_over
    sheet-low h = rw (r.kind-is, k.gives_no_cell, k.no-amendment, k.limit_is, k.numbers-are) (none_over n (omega arith) h)

    pub sheet-passes : ((i : ℕ) → i < n → f (suc i) ≤ rate_limit) → next_record s at ≤ length s → stands_before s at ≡ false → path_beside_flat s at ≡ false
        → record_verdict s at ≡ accepted
    sheet-passes h ends once apart =
        passes (complete (2 + 2 * n) r.length-is (omega arith) ends) sheet-shape sheet-listed once apart (sheet-low h) sheet-plain

-- the yields and the flat retail rates
pub yields-sheet : RateSheet 2 120
unfolding gives_cell sheet_kind sheet_kinds sheet_of
yields-sheet = record { gives_no_cell = refl; no-amendment = refl; no-tiers = refl; numbers-are = refl; limit_is = refl; some = refl }

pub rates-sheet : RateSheet 3 3
unfolding gives_cell sheet_kind sheet_kinds sheet_of
rates-sheet = record { gives_no_cell = refl; no-amendment = refl; no-tiers = refl; numbers-are = refl; limit_is = refl; some = refl }
