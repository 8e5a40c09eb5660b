-- `figures_of` meets its contract: the entries of the months passed are there. Assumes nothing.
use Prim.Native.Nat.{suc, ◌+◌}
use Rattle.lists.proofs.FillLaws.{FilledBy}
use Rattle.form.specs.Limits.{sheet_months}
use Rattle.forward_sheet.specs.Inner.Runs.{sheet_growth}
use Rattle.forward_sheet.proofs.FigureLaws.{Entry}
use Rattle.forward_sheet.proofs.sheet.figures_of.Given as goal

abbrev pub invariant-loop-month : goal.invariant-loop-month
invariant-loop-month l =
    FilledBy (Entry (sheet_growth l.yields l.fn.scenario.number)) 0 (suc sheet_months) (l.month + 1) l.figures
