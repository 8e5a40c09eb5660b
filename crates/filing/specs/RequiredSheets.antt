-- The sheets that a filing must have: 6 (01:36; 02:CR 3), and 18 where it has borrowings (02:CR 8). Definitions only.
use Rattle.std.specs.Prelude.{ℕ, Bool, ◌||◌, ◌&&◌, List, length, leb}
use Rattle.answers.specs.Verdict.{Verdict, refused_if}
use Rattle.record_kinds.specs.Kinds.{yields_kind, flat_rates_kind, rate_path_kind, libor_kind}
use Rattle.filing_cells.specs.BorrowingConditions.{some_borrowed}
use Rattle.filing_decode.specs.Contents.{sheet_offset, contents_of}

-- 6: kind 2 is missing, or both of kinds 3 and 5
unfoldable pub sheet_missing : List ℕ → Bool
sheet_missing s =
    leb (length s) (sheet_offset s yields_kind)
    || (leb (length s) (sheet_offset s flat_rates_kind) && leb (length s) (sheet_offset s rate_path_kind))

-- 6, at the input's length
unfoldable pub sheet_verdict : List ℕ → Verdict
sheet_verdict s = refused_if (sheet_missing s) 6 (length s)

-- 18: kind 8 is missing, and a borrowing is not zero
unfoldable pub libor_missing : List ℕ → Bool
libor_missing s = leb (length s) (sheet_offset s libor_kind) && some_borrowed (contents_of s).cells

-- 18, at the input's length
unfoldable pub libor_verdict : List ℕ → Verdict
libor_verdict s = refused_if (libor_missing s) 18 (length s)
