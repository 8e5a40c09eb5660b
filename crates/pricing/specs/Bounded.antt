-- The limits within which a deposit's terms lie for every accepted filing (01:24, 01:51-56). Definitions only.
use Rattle.std.specs.Prelude.{ℕ, ◌≤◌}
use Rattle.form.specs.Limits.{months_limit}
use Rattle.pricing.specs.Scales.{par, growth_limit, servicing_limit}
use Rattle.pricing.specs.Terms.{Terms}

pub record Bounded (k : Terms) : Type 0 where
  pub growth-limit : k.growth ≤ growth_limit
  pub servicing-limit : k.servicing ≤ servicing_limit
  pub survival-limit : (t : ℕ) → k.survival t ≤ par
  pub months-limit : k.months ≤ months_limit
