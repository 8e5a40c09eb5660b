-- `cells::intangible_of` meets its contract: the scenarios passed are written. Assumes nothing.
use Prim.Native.Nat.{ℕ, ◌*◌}
use lib.IntN.{pos}
use lib.ListN.{replicate}
use Rattle.lists.specs.Tables.{table, joined}
use Rattle.lists.proofs.RunLaws.{Overwritten}
use Rattle.form.specs.Counts.{place_value_count}
use Rattle.intangible_months.specs.Inner.Lent.{lent_terms}
use Rattle.intangible_cells.specs.Inner.Filed.{intangible_by}
use Rattle.intangible_numbers.proofs.cells.intangible_of.Given as goal

abbrev pub invariant-loop-scenario : goal.invariant-loop-scenario
invariant-loop-scenario l =
    Overwritten (joined (table l.scenario (λ (s : ℕ). intangible_by (lent_terms l.fn.cell s l.market.rates.now l.market.tiers.now) s l.market.factors.now.lower l.market.factors.now.upper))) (2 * l.scenario) (replicate place_value_count (pos 0)) l.numbers
