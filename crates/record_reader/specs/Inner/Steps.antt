-- The record at an offset of a filing (01:6, 01:11), if one stands there. Definitions only.
use Rattle.std.specs.Prelude.{ℕ, cond, Option, Some, None, List, length, leb}
use Rattle.record_fields.specs.Records.{next_record}

-- none at the end or past it; else the offset after the record
unfoldable pub step_at : List ℕ → ℕ → Option ℕ
step_at s at = cond (leb (length s) at) None (Some (next_record s at))
