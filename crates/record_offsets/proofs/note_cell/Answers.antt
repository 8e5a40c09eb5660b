-- `note_cell` meets its contract: the record's cell is one of those that are noted, and its rank is 1.
-- Assumes nothing.
use native.Mathlib.Omega.{arith}
use mathlib.Core.Path.{refl, sym}
use Rattle.record_kinds.proofs.ItemLaws.{OfCell, record-of-cell}
use Rattle.record_offsets.specs.Inner.Notes.{note_counting}
use Rattle.record_offsets.proofs.NoteLaws.{rank-of-cell, counting-by}
use Rattle.record_offsets.proofs.note_cell.Goals as goal

pub overflow_sub-i : goal.overflow_sub-i
overflow_sub-i c =
    let of-cell : OfCell c.args.s.now c.args.at c.args.cell = record-of-cell _ _ _ c.requires in
    of-cell.from_first

pub offset_bounds-counting-i : goal.offset_bounds-counting-i
offset_bounds-counting-i c =
    let of-cell : OfCell c.args.s.now c.args.at c.args.cell = record-of-cell _ _ _ c.requires in
    omega (arith, of-cell.to_last)

pub bounds-counting-i : goal.bounds-counting-i
bounds-counting-i c =
    let of-cell : OfCell c.args.s.now c.args.at c.args.cell = record-of-cell _ _ _ c.requires in
    omega (arith, of-cell.to_last)

pub offset_bounds-cells-i : goal.offset_bounds-cells-i
offset_bounds-cells-i c =
    let of-cell : OfCell c.args.s.now c.args.at c.args.cell = record-of-cell _ _ _ c.requires in
    omega (arith, of-cell.to_last)

pub bounds-cells-i : goal.bounds-cells-i
bounds-cells-i c =
    let of-cell : OfCell c.args.s.now c.args.at c.args.cell = record-of-cell _ _ _ c.requires in
    omega (arith, of-cell.to_last)

pub offset_bounds-counting-i-2 : goal.offset_bounds-counting-i-2
offset_bounds-counting-i-2 c =
    let of-cell : OfCell c.args.s.now c.args.at c.args.cell = record-of-cell _ _ _ c.requires in
    omega (arith, of-cell.to_last)

pub bounds-counting-i-2 : goal.bounds-counting-i-2
bounds-counting-i-2 c =
    let of-cell : OfCell c.args.s.now c.args.at c.args.cell = record-of-cell _ _ _ c.requires in
    omega (arith, of-cell.to_last)

pub returns : goal.returns
unfolding note_counting
returns c =
    let own = sym (rank-of-cell _ _ _ c.requires) in
    (refl, rw (c.counting_of.ensures, c.rank.ensures, counting-by c.args.s.now c.args.cell _ c.args.at 1 own))
