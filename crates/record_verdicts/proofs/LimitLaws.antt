-- The limit of a cell says whether it is listed.
-- Assumes nothing.
use Prim.Native.Nat.{ℕ}
use mathlib.Core.Path.{◌≡◌, refl, sym, ◌∙◌}
use mathlib.Core.Bool.{Bool, true, false, cond}
use mathlib.Core.List.{List}
use borrow.Author.Tests.{eqb-true, eq-eqb}
use lib.Dec.{eqb}
use Rattle.lists.proofs.EachLaws.{each-lt}
use Rattle.form.specs.Limits.{coupon_class, coupon_limit, class_limit}
use Rattle.form.specs.Classes.{cell_class, class_count}
use Rattle.form.proofs.ClassLaws.{class-lt}
use Rattle.record_fields.specs.Records.{record_kind, record_cell}
use Rattle.record_kinds.specs.Kinds.{fine_coupon_kind, amendment_kind}
use Rattle.record_kinds.specs.Items.{record_class}
use Rattle.record_limits.specs.Bodies.{value_limit}
use Rattle.record_verdicts.specs.Inner.SoundRecords.{most_in}

-- the limit of a class is 0 just where it is no cell's: each of the classes by itself
limit-listed : (cell : ℕ) → eqb (class_limit (cell_class cell)) 0 ≡ eqb (cell_class cell) 0
unfolding class_limit
limit-listed cell =
    each-lt class_count (λ (class : ℕ). eqb (class_limit class) 0 ≡ eqb class 0)
    (refl, (refl, (refl, (refl, (refl, (refl, (refl, (refl, (refl, (refl, (refl, (refl, tt)))))))))))) (cell_class cell) (class-lt cell)

-- the largest value of a record's cell is 0 just where the cell is not listed for its kind
module _ (s : List ℕ) (at : ℕ) where
  abbrev most : ℕ
  most = most_in (eqb (record_kind s at) fine_coupon_kind) (record_cell s at)

  -- of kind 6 both are 0 unless the cell is a coupon, where neither is; of another kind a class has limit 0 just where it is 0
  most-class : eqb most 0 ≡ eqb (record_class s at) 0
  unfolding most_in record_class
  most-class = by (eqb (record_kind s at) fine_coupon_kind) (eqb (cell_class (record_cell s at)) coupon_class)
    where
      by : (fine coupon : Bool)
          → eqb (cond fine (cond coupon coupon_limit 0) (class_limit (cell_class (record_cell s at)))) 0
          ≡ eqb (cond fine (cond coupon coupon_class 0) (cell_class (record_cell s at))) 0
      by true true = refl
      by true false = refl
      by false coupon = limit-listed (record_cell s at)

  pub most-listed : (most ≡ 0 → ⊥) → record_class s at ≡ 0 → ⊥
  most-listed h e = h (eqb-true most 0 (most-class ∙ eq-eqb (record_class s at) 0 e))

  pub listed-most : (record_class s at ≡ 0 → ⊥) → most ≡ 0 → ⊥
  listed-most h e = h (eqb-true (record_class s at) 0 (sym most-class ∙ eq-eqb most 0 e))

  -- the two differ only for kind 6 at a cell that is no coupon, and there the first is 0
  pub most-limit : (most ≡ 0 → ⊥) → most ≡ value_limit s at
  unfolding most_in value_limit
  most-limit = by (eqb (record_kind s at) fine_coupon_kind) (eqb (cell_class (record_cell s at)) coupon_class)
    where
      by : (fine coupon : Bool)
          → (cond fine (cond coupon coupon_limit 0) (class_limit (cell_class (record_cell s at))) ≡ 0 → ⊥)
          → cond fine (cond coupon coupon_limit 0) (class_limit (cell_class (record_cell s at)))
          ≡ cond fine coupon_limit (class_limit (cell_class (record_cell s at)))
      by true true h = refl
      by true false h = absurd (h refl)
      by false coupon h = refl

  -- an amendment is listed with its cell
  module _ (amends : record_kind s at ≡ amendment_kind) where
    own-class : record_class s at ≡ cell_class (record_cell s at)
    unfolding record_class
    own-class = rw amends

    pub limit-class : (class_limit (cell_class (record_cell s at)) ≡ 0 → ⊥) → record_class s at ≡ 0 → ⊥
    limit-class h e = h (eqb-true _ 0 (limit-listed (record_cell s at) ∙ eq-eqb _ 0 (sym own-class ∙ e)))

    pub class-limit : (record_class s at ≡ 0 → ⊥) → class_limit (cell_class (record_cell s at)) ≡ 0 → ⊥
    class-limit h e = h (own-class ∙ eqb-true _ 0 (sym (limit-listed (record_cell s at)) ∙ eq-eqb _ 0 e))
