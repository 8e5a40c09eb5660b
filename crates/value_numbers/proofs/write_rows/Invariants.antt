-- `value_numbers::write_rows` meets its contract: the rows of the places passed are written. Assumes nothing.
use Prim.Native.Nat.{◌*◌, ◌≤◌}
use lib.ListN.{length}
use Rattle.lists.specs.Tables.{table, joined}
use Rattle.lists.proofs.RunLaws.{Overwritten}
use Rattle.form.specs.Counts.{place_number_count, totals_start}
use Rattle.filing_contents.specs.declared.FiledTiers.{FiledTiers}
use Rattle.filing_contents.specs.Contents.{contents_in}
use Rattle.value_numbers.specs.Numbers.{place_numbers}
use Rattle.value_numbers.proofs.RowLaws.{Prepared}
use Rattle.value_numbers.proofs.write_rows.Given as goal

-- the filing's own tiers are no variable of the loop: the rows are those of every filing with these arrays that the code is prepared for
abbrev pub invariant-loop-place : goal.invariant-loop-place
invariant-loop-place l =
    (totals_start ≤ length l.initial.list)
    × ((filed : FiledTiers) → Prepared (contents_in l.cells l.sheets filed) l.tiers l.places l.discounts.lower l.discounts.upper
    → Overwritten (joined (table l.place (place_numbers (contents_in l.cells l.sheets filed)))) (place_number_count * l.place) l.initial.list l.list)
