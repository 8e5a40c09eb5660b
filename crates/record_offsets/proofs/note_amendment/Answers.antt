-- `note_amendment` meets its contract: the record's cell is one of those that are noted, and its rank is one more than its number.
-- Assumes nothing.
use Prim.Native.Nat.{◌/◌, ◌<◌}
use native.Mathlib.Omega.{arith}
use mathlib.Core.Path.{sym}
use Rattle.record_kinds.proofs.ItemLaws.{OfAmendment, record-of-amendment}
use Rattle.record_offsets.specs.Inner.Notes.{block_size, block_count, outranked, note_counting}
use Rattle.record_offsets.proofs.NoteLaws.{block-lt, block-is, rank-of-amendment, counting-by}
use Rattle.record_offsets.proofs.note_amendment.Goals as goal

pub overflow_sub-i : goal.overflow_sub-i
overflow_sub-i c =
    let of-amendment : OfAmendment c.args.s.now c.args.at c.args.cell c.args.number = record-of-amendment _ _ _ _ c.requires in
    of-amendment.from_first

pub offset_bounds-counting-i : goal.offset_bounds-counting-i
offset_bounds-counting-i c =
    let of-amendment : OfAmendment c.args.s.now c.args.at c.args.cell c.args.number = record-of-amendment _ _ _ _ c.requires in
    omega (arith, of-amendment.to_last)

pub bounds-counting-i : goal.bounds-counting-i
bounds-counting-i c =
    let of-amendment : OfAmendment c.args.s.now c.args.at c.args.cell c.args.number = record-of-amendment _ _ _ _ c.requires in
    omega (arith, of-amendment.to_last)

pub offset_bounds-counting-i-2 : goal.offset_bounds-counting-i-2
offset_bounds-counting-i-2 c =
    let of-amendment : OfAmendment c.args.s.now c.args.at c.args.cell c.args.number = record-of-amendment _ _ _ _ c.requires in
    omega (arith, of-amendment.to_last)

pub bounds-counting-i-2 : goal.bounds-counting-i-2
bounds-counting-i-2 c =
    let of-amendment : OfAmendment c.args.s.now c.args.at c.args.cell c.args.number = record-of-amendment _ _ _ _ c.requires in
    omega (arith, of-amendment.to_last)

pub bounds-falling-block : goal.bounds-falling-block
bounds-falling-block c =
    let block_within : c.args.number / block_size < block_count = rw (block-is c.args.number (omega arith)) (block-lt c.args.number) in
    block_within

pub bounds-falling-block-2 : goal.bounds-falling-block-2
bounds-falling-block-2 c =
    let block_within : c.args.number / block_size < block_count = rw (block-is c.args.number (omega arith)) (block-lt c.args.number) in
    block_within

pub returns : goal.returns
unfolding outranked note_counting
returns c =
    let own = sym (rank-of-amendment _ _ _ _ c.requires) in (
      rw (c.counting_of.ensures, c.rank-high.ensures, counting-by c.args.s.now c.args.cell _ c.args.at _ own),
      rw (c.rank-high.ensures, own, block-is c.args.number (omega arith)),
    )
