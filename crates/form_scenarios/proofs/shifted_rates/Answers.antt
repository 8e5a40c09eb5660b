-- `shifted_rates` meets its contract. Assumes nothing.
use Rattle.std.proofs.Common.{rules}
use Rattle.lists.proofs.ChainLaws.{table-from_fn}
use Rattle.form.specs.Shift.{shifted_rate, shifted_rates, scenario_count}
use Rattle.form_scenarios.proofs.shifted_rates.Goals as goal

pub returns : goal.returns
unfolding shifted_rates
returns c = table-from_fn 0 (λ i. shifted_rate i c.args.rate) scenario_count c.from_fn.ensures.items (λ i y q l k. search rules)
