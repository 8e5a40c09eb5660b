-- `totals_of` meets its contract: the two totals of each scenario are those of two numbers that follow one another. Assumes nothing.
use Prim.Native.Nat.{ℕ, ◌+◌}
use mathlib.Core.Path.{◌≡◌, refl, ◌∙◌}
use mathlib.Core.List.{List}
use Rattle.std.proofs.Common.{rules}
use Rattle.lists.specs.Sums.{sum_where, everywhere}
use Rattle.lists.specs.Tables.{table, table_from, joined}
use Rattle.lists.proofs.ChainLaws.{table-from_fn}
use Rattle.form.specs.Borrowings.{borrowing_count}
use Rattle.form.specs.Counts.{place_value_count}
use Rattle.form.specs.Shift.{scenario_count}
use Rattle.borrowing_numbers.specs.Inner.Rows.{number_at, row_totals}
use Rattle.borrowing_numbers.proofs.totals.totals_of.Goals as goal

in-scenarios : (list : List ℕ) → table place_value_count (λ v. sum_where everywhere (number_at list (1 + v)) borrowing_count) ≡ joined (table scenario_count (row_totals list))
unfolding table_from joined row_totals
in-scenarios list = refl

pub returns : goal.returns
returns c =
    table-from_fn 0 (λ v. sum_where everywhere (number_at c.args.list.now (1 + v)) borrowing_count) place_value_count c.from_fn.ensures.items (λ v y q l k. search rules)
    ∙ in-scenarios c.args.list.now
