-- `reached` meets its contract. Assumes nothing.
use Prim.Native.Nat.{ℕ, ◌≤◌, ◌<◌}
use mathlib.Core.Path.{sym, ap, ◌∙◌}
use borrow.Author.Tests.{tests}
use lib.ListN.{take}
use Rattle.std.proofs.Common.{rules}
use Rattle.std.proofs.lemmas.Iterator.{YieldsList-from_slice, IsFirst-from_position}
use Rattle.std.proofs.lemmas.List.{length-take-le}
use Rattle.quote_lines.specs.Lines.{line_count}
use Rattle.quote_lines.proofs.LineLaws.{count-within}
use Rattle.quote_lines.proofs.ReachLaws.{position-reached}
use Rattle.quote_lines.proofs.Lines.reached.Goals as goal

pub slice_bounds-iter-end : goal.slice_bounds-iter-end
slice_bounds-iter-end c =
    sym (length-take-le _ _ (rw c.count.ensures (count-within c.args.self.now.months.now c.args.self.now.prices.now)))

pub returns : goal.returns
returns c =
    let m = c.args.self.now.months.now in
    let count = line_count m c.args.self.now.prices.now in
    position-reached m c.args.self.now.prices.now c.args.month c.position.result
    (IsFirst-from_position _ _ c.position.result (λ (x : ℕ). c.args.month ≤ x) (λ (x : ℕ). x < c.args.month) c.position.ensures.ran
    (YieldsList-from_slice (take count m) (c.iter.ensures.rest ∙ ap (λ (n : ℕ). take n m) c.count.ensures)) (λ x q k. search (rules, tests)) (λ x q k. search (rules, tests)))
