-- `fill_cells` meets its contract. The loop's invariant: the first i cells are filled.
-- Assumes nothing.
use Prim.Native.Nat.{ℕ, ◌+◌, ◌<◌}
use native.Mathlib.Omega.{arith}
use mathlib.Core.Path.{◌≡◌, ap, ◌∙◌}
use mathlib.Core.List.{List}
use lib.ListN.{get_or}
use Rattle.lists.proofs.FillLaws.{fill_more}
use Rattle.form.specs.Cells.{first_cell, cell_count}
use Rattle.filing_contents.specs.Amounts.{amount_at}
use Rattle.filing_decode.specs.Contents.{cell_offset, contents_of}
use Rattle.filing_contents.proofs.ArrayLaws.{filled-from}
use Rattle.filing_decode.proofs.ContentsLaws.{cell-noted, value-noted}
use Rattle.filing_decode.proofs.SoundLaws.{offset-limit}
use Rattle.filing_decode.proofs.fill_cells.Goals as goal

pub loop-i-init : goal.loop-i-init
loop-i-init c = record { long = c.requires.cells_len; holds = λ j h. absurd (omega arith) }

pub amount_at-requires : goal.amount_at-requires
amount_at-requires c =
    let offset-is : (i : ℕ) → i < cell_count → get_or c.args.offsets.now i 0 ≡ cell_offset c.args.s.now (first_cell + i) = λ i h. ap (λ (offsets : List ℕ). get_or offsets i 0) c.requires.s_value.1 ∙ cell-noted _ i h in
    let i = c.loop-i.i in
    rw (offset-is i c.loop-i-test.true) (offset-limit _ c.requires.s_value.0 (first_cell + i))

pub loop-i-preserved : goal.loop-i-preserved
loop-i-preserved c =
    let offset-is : (i : ℕ) → i < cell_count → get_or c.args.offsets.now i 0 ≡ cell_offset c.args.s.now (first_cell + i) = λ i h. ap (λ (offsets : List ℕ). get_or offsets i 0) c.requires.s_value.1 ∙ cell-noted _ i h in
    let loop = c.loop-i in
    let h = c.loop-i-test.true in
    let value = c.amount_at.ensures ∙ ap (amount_at c.args.s.now) (offset-is loop.i h) ∙ value-noted _ (first_cell + loop.i) in
    fill_more _ 0 cell_count loop.i loop.cells _ h value loop.invariant

pub returns : goal.returns
unfolding contents_of
returns c =
    let e : c.loop-i.i ≡ cell_count = omega arith in
    filled-from first_cell cell_count _ c.loop-i.cells (rw e at c.loop-i.invariant)
