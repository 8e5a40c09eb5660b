-- `fill_sheet` meets its contract: the part of the numbers that is the kind's is filled. Assumes nothing.
use Prim.Native.Nat.{◌+◌, ◌-◌, ◌≤◌}
use mathlib.Core.Path.{ap, ◌∙◌}
use native.Mathlib.Omega.{arith}
use lib.ListN.{length}
use Rattle.lists.specs.Runs.{written}
use Rattle.lists.specs.Tables.{table_from}
use Rattle.record_fields.specs.Records.{sheet_number}
use Rattle.record_kinds.specs.declared.SheetKind.{SheetKind}
use Rattle.filing_decode.proofs.ContentsLaws.{part_filled}
use Rattle.filing_decode.proofs.fill_sheet.Goals as goal

pub overflow_add-end : goal.overflow_add-end
overflow_add-end c =
    let within : c.sheet_kind-sheet.result.start + c.sheet_kind-sheet.result.numbers ≤ length c.args.numbers.now = rw c.sheet_kind-sheet.ensures c.requires in
    omega (arith, within)

pub offset_bounds-numbers-start : goal.offset_bounds-numbers-start
offset_bounds-numbers-start c =
    let within : c.sheet_kind-sheet.result.start + c.sheet_kind-sheet.result.numbers ≤ length c.args.numbers.now = rw c.sheet_kind-sheet.ensures c.requires in
    omega (arith, within)

pub slice_bounds-fill_numbers-end : goal.slice_bounds-fill_numbers-end
slice_bounds-fill_numbers-end c =
    let within : c.sheet_kind-sheet.result.start + c.sheet_kind-sheet.result.numbers ≤ length c.args.numbers.now = rw c.sheet_kind-sheet.ensures c.requires in
    within

pub returns : goal.returns
returns c =
    let within : c.sheet_kind-sheet.result.start + c.sheet_kind-sheet.result.numbers ≤ length c.args.numbers.now = rw c.sheet_kind-sheet.ensures c.requires in
    let a = c.args in
    part_filled a.numbers.now _ c.sheet_kind-sheet.result.start c.sheet_kind-sheet.result.numbers (c.sheet_kind-sheet.result.start + c.sheet_kind-sheet.result.numbers - c.sheet_kind-sheet.result.start) (sheet_number a.s.now a.at) within
    (omega arith) c.fill_numbers.ensures
    ∙ ap (λ (k : SheetKind). written a.numbers.now k.start (table_from 1 k.numbers (sheet_number a.s.now a.at))) c.sheet_kind-sheet.ensures
