-- `shown` meets its contract. Assumes nothing.
use mathlib.Core.Path.{◌≡◌, refl, ◌∙◌}
use mathlib.Core.List.{[], ◌∷◌}
use native.Mathlib.Omega.{arith}
use borrow.Author.Rules.{rules}
use lib.ListN.{length, replicate}
use Rattle.lists.proofs.RunLaws.{overwritten-is, overwritten-more, overwritten-all}
use Rattle.form.specs.Counts.{total_count}
use Rattle.exports.proofs.plain_numbers.shown.Goals as goal

-- all 29 numbers are the balance at first, so that the first one is right; the 28 totals are written behind it, up to the end,
-- so that nothing else is left of the array
pub returns : goal.returns
returns c =
    let balance = c.args.balance in
    let totals = c.args.totals.now in
    let long : length totals ≡ total_count = search rules in
    let first = overwritten-is (balance ∷ []) 1 (replicate 29 balance) (replicate 29 balance) refl (omega arith) refl in
    c.write.ensures
    ∙ overwritten-all _ 29 (replicate 29 balance) _ (overwritten-more (balance ∷ []) totals 1 29 (replicate 29 balance) (replicate 29 balance) first (omega (arith, long)) (omega arith)) (omega arith)
