-- The value that a record gives its cell (01:6-11; coupons in thousandths, 02:CR 4; amended, 02:CR 6). Definitions only.
use Rattle.std.specs.Prelude.{ℕ, ◌*◌, cond, List, eqb}
use Rattle.form.specs.Limits.{coupon_class}
use Rattle.form.specs.Classes.{cell_class}
use Rattle.record_fields.specs.Records.{record_kind, record_cell, record_value, amendment_state, amendment_value}
use Rattle.record_kinds.specs.Kinds.{fine_coupon_kind, amendment_kind}

-- the value that a record holds for its cell, in the record's unit. An amendment that withdraws its cell holds none, as if the cell were absent
unfoldable pub filed_value : List ℕ → ℕ → ℕ
filed_value s at =
    cond (eqb (record_kind s at) amendment_kind) (cond (eqb (amendment_state s at) 0) (amendment_value s at) 0)
    (record_value s at)

-- the value that a record gives its cell in what the filing says, in the cell's unit. The certificates' coupons are in thousandths of a percent a year
-- there (02:CR 4): kind 6 gives them so, and one by another kind, in hundredths, counts tenfold
unfoldable pub amount_at : List ℕ → ℕ → ℕ
amount_at s at =
    cond (eqb (record_kind s at) fine_coupon_kind) (filed_value s at)
    (cond (eqb (cell_class (record_cell s at)) coupon_class) (10 * filed_value s at) (filed_value s at))
