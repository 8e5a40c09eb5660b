-- `total` meets its contract: nine balances within their limits fit together. Assumes nothing.
use Rattle.std.proofs.Common.{◌≡◌, ◌≤◌, ◌∙◌, arith, ℕ, List}
use Rattle.std.specs.List.{sum_by, All}
use Rattle.std.proofs.lemmas.Iterator.{YieldsList-from_slice}
use Rattle.std.proofs.lemmas.Iterator.Consumers.{sum_from_yields_List, fits_from_yields_list}
use Rattle.std.proofs.lemmas.List.Sums.{sum_by_from, sum_by-le}
use Rattle.std.proofs.lemmas.List.{get_or_default}
use Rattle.form.specs.Limits.{balance_limit}
use Rattle.lists.specs.Sums.{sum}
use Rattle.lists.proofs.ChainLaws.{sum-of_fold}
use Rattle.certificate_cells.proofs.filled_cells.Totals.total.Goals as goal

-- the library's sum
sum-same : (xs : List ℕ) → sum_by (λ (x : ℕ). x) xs ≡ sum xs
sum-same xs = omega (arith, sum_by_from (λ (x : ℕ). x) 0 xs, sum-of_fold xs)

pub sum-requires-clause-fits : goal.sum-requires-clause-fits
sum-requires-clause-fits c =
    let bounded = c.requires in
    let each : All (λ (x : ℕ). x ≤ balance_limit) c.args.self.now.balance = λ k d l. rw (get_or_default c.args.self.now.balance k d 0 l) (bounded.balance-le k) in
    fits_from_yields_list _ _ (YieldsList-from_slice c.args.self.now.balance cc)
    (omega (arith, bounded.nine, sum_by-le (λ (x : ℕ). x) balance_limit c.args.self.now.balance each))

pub returns : goal.returns
returns c =
    sum_from_yields_List _ _ c.sum.ensures.ran (YieldsList-from_slice c.args.self.now.balance cc) ∙ sum-same c.args.self.now.balance
