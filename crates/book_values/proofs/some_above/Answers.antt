-- `some_above` meets its contract. Assumes nothing.
use Prim.Native.Nat.{ℕ}
use mathlib.Core.Bool.{Bool}
use mathlib.Core.Path.{◌∙◌}
use lib.Dec.{ltb}
use borrow.Author.Tests.{tests}
use Rattle.std.proofs.Common.{rules}
use Rattle.std.proofs.lemmas.Iterator.{YieldsList-from_slice}
use Rattle.std.proofs.lemmas.Iterator.Search.{any_from_yields_List}
use Rattle.lists.proofs.ChainLaws.{any-in_list}
use Rattle.book_values.specs.Sheets.{above_limit}
use Rattle.book_values.proofs.some_above.Goals as goal

pub returns : goal.returns
unfolding above_limit
returns c =
    let test : (ℕ → Bool) = λ x. ltb c.args.limit x in
    any_from_yields_List test _ _ _ c.any.ensures.ran (YieldsList-from_slice c.args.numbers.now (cc)) (λ x b q k. search (rules, tests))
    ∙ any-in_list test 0 c.args.numbers.now
