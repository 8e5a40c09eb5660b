-- What can be wrong with the body of a record but for tiers: refusal 5 (01:35; 02:CR 4, CR 6). Definitions only.
use Rattle.std.specs.Prelude.{ℕ, suc, Bool, true, cond, not, List, ltb, eqb}
use Rattle.lists.specs.Tables.{any_below}
use Rattle.form.specs.Limits.{coupon_limit, class_limit}
use Rattle.form.specs.Classes.{cell_class}
use Rattle.record_fields.specs.Records.{record_kind, record_cell, record_value, amendment_number, amendment_state, amendment_value, sheet_number}
use Rattle.record_kinds.specs.Kinds.{fine_coupon_kind, gives_cell, amendment_kind, sheet_kind}

-- an amendment (02:CR 6), by its number, state and value, of a cell with a limit: its number is 0, its value is over the limit, it withdraws the cell and
-- holds a value, or its state is another
unfoldable pub unfit_for : ℕ → ℕ → ℕ → ℕ → Bool
unfit_for limit number state value =
    cond (eqb number 0) true
    (cond (eqb state 0) (ltb limit value)
    (cond (eqb state 1) (not (eqb value 0))
    true))

-- the amendment at an offset is so, for its class's limit
unfoldable pub unfit_amendment : List ℕ → ℕ → Bool
unfit_amendment s at = unfit_for (class_limit (cell_class (record_cell s at))) (amendment_number s at) (amendment_state s at) (amendment_value s at)

-- one of a sheet's first n numbers is over the limit
unfoldable pub number_over : List ℕ → ℕ → ℕ → ℕ → Bool
number_over s at limit n = any_below (λ (i : ℕ). ltb limit (sheet_number s at (suc i))) n

-- the largest value of a record's cell: of kind 6 a coupon's in thousandths (02:CR 4), else its class's
unfoldable pub value_limit : List ℕ → ℕ → ℕ
value_limit s at = cond (eqb (record_kind s at) fine_coupon_kind) coupon_limit (class_limit (cell_class (record_cell s at)))

-- 5: a value is over its limit
unfoldable pub over_limit : List ℕ → ℕ → Bool
over_limit s at =
    let sheet = sheet_kind (record_kind s at) in
    cond (gives_cell (record_kind s at)) (ltb (value_limit s at) (record_value s at))
    (cond (eqb (record_kind s at) amendment_kind) (unfit_amendment s at)
    (number_over s at sheet.limit sheet.numbers))
