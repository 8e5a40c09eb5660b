-- `split` meets its contract: each way out is one of the call's laws. Assumes nothing.
use mathlib.Core.Path.{ap, ◌∙◌}
use mathlib.Core.List.{List, ◌++◌}
use lib.ListN.{drop}
use Rattle.form.specs.declared.sub_balances.SubBalance.{SubBalance}
use Rattle.form.specs.PlaceOrder.{sub_balance_count}
use Rattle.std.proofs.lemmas.Result.{err_from_is_err_and}
use Rattle.filing_cells.specs.Inner.Sums.{column_sums}
use Rattle.filing.proofs.ReadingLaws.{reading-says, reading-valid, reading-cells}
use Rattle.share_list.proofs.SplitLaws.{places-fit, split_short, split_faulty, split_written}
use Rattle.share_list.proofs.split.Goals as goal

pub returns-then-places-lt-SUB_BALANCES : goal.returns-then-places-lt-SUB_BALANCES
returns-then-places-lt-SUB_BALANCES c = record { filled = split_short _ _ c.if-places-lt-SUB_BALANCES.true }

pub returns-in_err-reading : goal.returns-in_err-reading
returns-in_err-reading c =
    let p = err_from_is_err_and c.from_residual.result c.from_residual.ensures.1 in
    record { filled = rw (p.1, p.2) (split_faulty _ _ c.if-places-lt-SUB_BALANCES.false _ c.in_err-reading.ensures.answered) }

pub places_of-split-requires : goal.places_of-split-requires
places_of-split-requires c =
    let read = c.in_ok-reading.ensures in
    ((reading-valid _ _ _ read.answered read.said).of-cells, read.summed ∙ ap column_sums (reading-cells _ _ _ read.answered read.said))

pub copy_from_slice-requires : goal.copy_from_slice-requires
copy_from_slice-requires c = places-fit _ _ _ c.if-places-lt-SUB_BALANCES.false c.places_of-split.ensures

pub returns : goal.returns
returns c =
    let read = c.in_ok-reading.ensures in
    record {
      filled = split_written _ _ c.if-places-lt-SUB_BALANCES.false read.answered (reading-says _ _ _ read.answered read.said) _
          (ap (λ (split : List SubBalance). split ++ drop sub_balance_count c.args.places.now) (c.copy_from_slice.ensures.after ∙ c.places_of-split.ensures));
    }
