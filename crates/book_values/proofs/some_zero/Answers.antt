-- `some_zero` meets its contract. Assumes nothing.
use Prim.Native.Nat.{ℕ}
use mathlib.Core.Bool.{Bool}
use mathlib.Core.Path.{ap, ◌∙◌}
use lib.Dec.{eqb}
use borrow.Author.Tests.{tests}
use Rattle.std.proofs.Common.{rules}
use Rattle.std.proofs.lemmas.Iterator.{YieldsList-from_slice}
use Rattle.std.proofs.lemmas.Iterator.Search.{any_from_yields_List}
use Rattle.lists.specs.Tables.{any_below}
use Rattle.lists.proofs.ChainLaws.{any-in_list}
use Rattle.book_values.specs.Sheets.{is_zero}
use Rattle.book_values.proofs.some_zero.Goals as goal

pub returns : goal.returns
unfolding is_zero
returns c =
    let test : (ℕ → Bool) = λ x. eqb x 0 in
    any_from_yields_List test _ _ _ c.any.ensures.ran (YieldsList-from_slice c.args.factors.now (cc)) (λ x b q k. search (rules, tests))
    ∙ any-in_list test 0 c.args.factors.now
    ∙ ap (any_below (is_zero c.args.factors.now)) c.told-factors
