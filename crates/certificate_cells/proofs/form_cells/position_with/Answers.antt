-- `position_with` meets its contract. Assumes nothing.
use Rattle.std.proofs.Common.{rules, refl}
use borrow.Author.Tests.{tests}
use Rattle.std.proofs.lemmas.Iterator.{YieldsList-from_range}
use Rattle.std.proofs.lemmas.Iterator.Search.{find_from_yields_List}
use Rattle.certificate_cells.specs.Cells.{is_of_position, position_with}
use Rattle.certificate_cells.proofs.SearchLaws.{find-in_range}
use Rattle.certificate_cells.proofs.form_cells.position_with.Goals as goal

pub returns : goal.returns
unfolding position_with
returns c =
    find-in_range (is_of_position c.args.cell) 9 _
    (find_from_yields_List (is_of_position c.args.cell) _ _ _ c.find.ensures.ran (YieldsList-from_range 0 9 9 refl refl) (λ x b q k. search (rules, tests)))
