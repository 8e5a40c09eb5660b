-- `price_deposits::values::values_of` meets its contract: the scenarios passed are written, by the walk. Assumes nothing.
use Prim.Native.Nat.{ℕ, ◌*◌}
use lib.ListN.{replicate}
use Rattle.lists.specs.Tables.{table, joined}
use Rattle.lists.proofs.RunLaws.{Overwritten}
use Rattle.form.specs.Counts.{place_value_count}
use Rattle.price_deposits.specs.Inner.Walked.{walked_prices, values_at}
use Rattle.price_deposits.proofs.values.values_of.Given as goal

abbrev pub invariant-loop-scenario : goal.invariant-loop-scenario
invariant-loop-scenario l =
    Overwritten
    (joined (table l.scenario (λ (s : ℕ). values_at l.balance (walked_prices l.multipliers l.levels l.last l.discounts s l.d.months))))
    (2 * l.scenario) (replicate place_value_count 0) l.values
