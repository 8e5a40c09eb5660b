-- `has_faulty_price` meets its contract: `any` tests the seven prices in turn. Assumes nothing.
use mathlib.Core.Path.{◌∙◌}
use lib.Ieee.{nan}
use lib.ListN.{length}
use native.Mathlib.Omega.{arith}
use mathlib.Core.Path.{◌≡◌}
use Rattle.form.specs.Shift.{scenario_count}
use borrow.Author.Tests.{tests}
use Rattle.std.proofs.Common.{rules}
use Rattle.std.proofs.lemmas.Iterator.{YieldsList-from_slice}
use Rattle.std.proofs.lemmas.Iterator.Search.{any_from_yields_List}
use Rattle.lists.proofs.ChainLaws.{any-in_list}
use Rattle.quote_prices.specs.PriceLines.{faulty_price, faulty_prices}
use Rattle.quote_prices.proofs.PriceLine.has_faulty_price.Goals as goal

pub returns : goal.returns
unfolding faulty_prices
returns c =
    let seven : length c.args.self.now.prices ≡ scenario_count = omega arith in
    any_from_yields_List faulty_price _ _ _ c.any.ensures.ran (YieldsList-from_slice c.args.self.now.prices cc) (λ x b q k. search (rules, tests))
    ∙ any-in_list faulty_price nan c.args.self.now.prices ∙ rw seven
