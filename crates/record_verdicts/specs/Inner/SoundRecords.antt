-- The records that are told to be sound at once: those that name a cell. Definitions only.
use Rattle.std.specs.Prelude.{ℕ, Bool, cond, ◌&&◌, List, eqb}
use Rattle.form.specs.Limits.{coupon_class, coupon_limit, class_limit}
use Rattle.form.specs.Classes.{cell_class}
use Rattle.record_fields.specs.Records.{record_kind}
use Rattle.record_kinds.specs.Kinds.{names_cell}
use Rattle.record_verdicts.specs.Inner.PlainVerdicts.{plain_verdict}

-- a record of kind 1, 6 or 7 that no test but perhaps 16 refuses
unfoldable pub sound_named : List ℕ → ℕ → Bool
sound_named s at = names_cell (record_kind s at) && eqb (plain_verdict s at).number 0

-- the largest value of a cell in a record of kind 1, or of kind 6 where `fine`; 0 where it is not listed for the kind
unfoldable pub most_in : Bool → ℕ → ℕ
most_in fine cell = cond fine (cond (eqb (cell_class cell) coupon_class) coupon_limit 0) (class_limit (cell_class cell))
