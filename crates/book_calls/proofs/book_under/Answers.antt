-- `book_under` meets its contract: the factors are of the yields' part of the numbers, and the rates are the other part. Assumes nothing.
use mathlib.Core.Path.{refl, ◌∙◌}
use native.Mathlib.Omega.{arith}
use Rattle.filing_contents.specs.Contents.{yields_in, rates_in}
use Rattle.book_calls.proofs.book_under.Goals as goal

pub fill_factors-requires : goal.fill_factors-requires
unfolding yields_in
fill_factors-requires c = (c.requires, omega arith, refl, refl)

pub returns : goal.returns
unfolding yields_in rates_in
returns c =
    c.empty_book.ensures ∙ rw (c.held_rates-rates.ensures, c.fill_factors.ensures.0, c.fill_factors.ensures.1)
