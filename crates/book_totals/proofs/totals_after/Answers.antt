-- `totals_after` meets its contract. Assumes nothing.
use lib.ListN.{get_or}
use Rattle.std.proofs.Common.{rules}
use Rattle.lists.proofs.ChainLaws.{table-from_fn}
use Rattle.form.specs.Counts.{total_count}
use Rattle.book_totals.specs.KeptTotals.{total_after, totals_after}
use Rattle.book_totals.proofs.totals_after.Goals as goal

pub returns : goal.returns
unfolding totals_after
returns c =
    table-from_fn 0 (λ i. total_after (get_or c.args.totals.now i 0) c.args.place c.args.old.now c.args.new.now i) total_count c.from_fn.ensures.items
    (λ i y q l k. search rules)
