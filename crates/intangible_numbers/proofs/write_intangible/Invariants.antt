-- `write_intangible` meets its contract: the numbers of the cells so far are written. Assumes nothing.
use Prim.Native.Nat.{ℕ, ◌*◌}
use Rattle.lists.specs.Tables.{table, joined}
use Rattle.lists.proofs.RunLaws.{Overwritten}
use Rattle.form.specs.Counts.{place_value_count}
use Rattle.intangible_numbers.specs.Inner.Limits.{cell_numbers_by}
use Rattle.intangible_numbers.proofs.write_intangible.Given as goal

abbrev pub invariant-loop-i : goal.invariant-loop-i
invariant-loop-i l =
    Overwritten (joined (table l.i (λ (j : ℕ). cell_numbers_by l.cells j l.rates l.shares l.tiers l.market.factors.now.lower l.market.factors.now.upper))) (place_value_count * l.i) l.initial.list l.list
