-- `some_not_rising` meets its contract. Assumes nothing.
use mathlib.Core.Path.{refl, ap, ◌∙◌}
use native.Mathlib.Omega.{arith}
use Rattle.std.proofs.Common.{rules}
use Rattle.std.proofs.lemmas.Iterator.{YieldsList-from_range}
use Rattle.std.proofs.lemmas.Iterator.Search.{any_from_yields_List}
use borrow.Author.Tests.{tests}
use Rattle.lists.specs.Tables.{any_below}
use Rattle.lists.proofs.ChainLaws.{any-in_range}
use Rattle.book_values.specs.Sheets.{not_rising}
use Rattle.book_values.proofs.some_not_rising.Goals as goal

pub returns : goal.returns
unfolding not_rising
returns c =
    let test = not_rising c.args.edges.now in
    let n = c.saturating_sub.result in
    any_from_yields_List test _ _ _ c.any.ensures.ran (YieldsList-from_range 0 n n refl (omega arith)) (λ x b q k. search (rules, tests)) ∙ any-in_range test n
    ∙ ap (any_below test) c.saturating_sub.ensures
