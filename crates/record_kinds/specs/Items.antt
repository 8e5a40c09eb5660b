-- What may stand only once in a filing (01:34; 02:CR 1, CR 4, CR 6): a cell, a kind of sheet, the tiers among them, or an amendment of a cell by its
-- number. Definitions only.
use Rattle.std.specs.Prelude.{ℕ, Bool, false, cond, ◌&&◌, List, eqb, Option, Some, None}
use Rattle.form.specs.Limits.{coupon_class}
use Rattle.form.specs.Classes.{cell_class}
use Rattle.record_kinds.specs.declared.items.Item.{Item}
use Rattle.record_kinds.specs.declared.items.Item.TheVariants.{Cell, Sheet, Amendment}
use Rattle.record_fields.specs.Records.{record_kind, record_cell, amendment_number, first_record}
use Rattle.record_kinds.specs.Kinds.{gives_cell, fine_coupon_kind, amendment_kind, due_length}

-- the same cell, the same kind of sheet, or the same amendment of a cell
unfoldable pub same_item : Option Item → Option Item → Bool
same_item (Some (Cell m)) (Some (Cell n)) = eqb m n
same_item (Some (Cell m)) (Some (Sheet n)) = false
same_item (Some (Cell m)) (Some (Amendment n b)) = false
same_item (Some (Cell m)) None = false
same_item (Some (Sheet m)) (Some (Cell n)) = false
same_item (Some (Sheet m)) (Some (Sheet n)) = eqb m n
same_item (Some (Sheet m)) (Some (Amendment n b)) = false
same_item (Some (Sheet m)) None = false
same_item (Some (Amendment m a)) (Some (Cell n)) = false
same_item (Some (Amendment m a)) (Some (Sheet n)) = false
same_item (Some (Amendment m a)) (Some (Amendment n b)) = eqb m n && eqb a b
same_item (Some (Amendment m a)) None = false
same_item None item = false

-- the class of a record's cell, 0 where it is not listed: for kind 6 a coupon alone is (02:CR 4)
unfoldable pub record_class : List ℕ → ℕ → ℕ
record_class s at =
    cond (eqb (record_kind s at) fine_coupon_kind)
    (cond (eqb (cell_class (record_cell s at)) coupon_class) coupon_class 0)
    (cell_class (record_cell s at))

-- the item of a record: a kind that gives a cell its value is of the cell, an amendment of its cell and number, another of its kind. A cell that is not
-- listed and an unknown kind are none that may stand once
unfoldable pub record_item : List ℕ → ℕ → Option Item
record_item s at =
    cond (gives_cell (record_kind s at)) (cond (eqb (record_class s at) 0) None (Some (Cell (record_cell s at))))
    (cond (eqb (record_kind s at) amendment_kind)
    (cond (eqb (record_class s at) 0) None (Some (Amendment (record_cell s at) (amendment_number s at))))
    (cond (eqb (due_length s at) 0) None (Some (Sheet (record_kind s at)))))

-- the first record of an item before `end`: its offset, or `end` where there is none
unfoldable pub first_with : List ℕ → Option Item → ℕ → ℕ
first_with s item end = first_record s (λ (at : ℕ). same_item (record_item s at) item) end
