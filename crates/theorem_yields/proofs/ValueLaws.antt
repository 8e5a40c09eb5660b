-- Values and totals of what two filings say, where the yields of the second are nowhere lower. Each law holds at either rounding. Assumes nothing.
use Prim.Native.Nat.{ℕ, ◌≤◌}
use mathlib.Core.Path.{◌≡◌, ap}
use mathlib.Core.Bool.{Bool}
use mathlib.Core.List.{List}
use Rattle.lists.specs.Sums.{everywhere}
use Rattle.lists.proofs.SumLaws.{sum_where-mono}
use Rattle.form.specs.Borrowings.{borrowing_count}
use Rattle.form.specs.PlaceOrder.{sub_balance_count}
use Rattle.form.specs.declared.sub_balances.SubBalance.{SubBalance}
use Rattle.filing_contents.specs.Contents.{Contents, cd_yield}
use Rattle.shares.specs.Places.{place_at}
use Rattle.pricing.specs.Rounding.{Rounding}
use Rattle.pricing.specs.Terms.{Terms}
use Rattle.pricing.specs.Run.{flow_by, price_by, value_by}
use Rattle.borrowing_prices.specs.Run as borrowing
use Rattle.value_places.specs.PlaceTerms.{rate_at, terms_held, month_yield}
use Rattle.value_places.specs.HeldValues.{value_held}
use Rattle.value_numbers.specs.Run.{value_at, total_by}
use Rattle.borrowing_numbers.specs.Borrowed.{balance_of, coupon_of, months_of, borrowed_by}
use Rattle.borrowing_numbers.specs.Numbers as borrowed
use Rattle.theorem_yields.proofs.MonotoneLaws.{flows-anti, shifted-mono}

-- the value of a deposit, and of a borrowing, does not rise with the yields
value-anti : (ρ : Rounding) (balance : ℕ) (k : Terms) (z w : ℕ → ℕ) → ((month : ℕ) → z month ≤ w month) → value_by ρ balance k w ≤ value_by ρ balance k z
unfolding value_by price_by
value-anti ρ balance k z w h = flows-anti ρ balance (flow_by ρ k) z w k.months h

borrowing-anti : (ρ : Rounding) (balance c months : ℕ) (z w : ℕ → ℕ) → ((month : ℕ) → z month ≤ w month)
    → borrowing.value_by ρ balance c months w ≤ borrowing.value_by ρ balance c months z
unfolding borrowing.value_by borrowing.price_by
borrowing-anti ρ balance c months z w h = flows-anti ρ balance (borrowing.flow_by ρ c months) z w months h

-- what k and j say differs only in CD yields, and those of j are nowhere lower
module _ (k j : Contents) (cells : j.cells ≡ k.cells) (rates : j.rates ≡ k.rates) (tiers : j.tiers ≡ k.tiers)
    (h : (month : ℕ) → cd_yield k month ≤ cd_yield j month) where
  -- the terms of what a place holds are made of retail rates and tiers alone
  terms-same : (scenario place : ℕ) (held : SubBalance) → terms_held j scenario place held ≡ terms_held k scenario place held
  unfolding terms_held rate_at
  terms-same scenario place held = rw (rates, tiers)

  held-not-up : (ρ : Rounding) (scenario place : ℕ) (held : SubBalance) → value_held ρ j scenario place held ≤ value_held ρ k scenario place held
  unfolding value_held month_yield
  held-not-up ρ scenario place held =
      rw (terms-same scenario place held)
      (value-anti ρ held.balance (terms_held k scenario place held) _ _ (λ month. shifted-mono scenario (h month)))

  pub value-not-up : (ρ : Rounding) (scenario place : ℕ) → value_at ρ j scenario place ≤ value_at ρ k scenario place
  unfolding value_at
  value-not-up ρ scenario place =
      let same : place_at j.cells place ≡ place_at k.cells place = ap (λ (c : List ℕ). place_at c place) cells in
      rw same (held-not-up ρ scenario place (place_at k.cells place))

  pub total-not-up : (ρ : Rounding) (test : ℕ → Bool) (scenario : ℕ) → total_by ρ test j scenario ≤ total_by ρ test k scenario
  unfolding total_by
  total-not-up ρ test scenario = sum_where-mono test (value_at ρ j scenario) (value_at ρ k scenario) sub_balance_count (λ place l. value-not-up ρ scenario place)

-- the borrowings among the same cells, under yields z and yields w that are nowhere lower
module _ (cells : List ℕ) (z w : ℕ → ℕ → ℕ) (h : (scenario month : ℕ) → z scenario month ≤ w scenario month) where
  pub borrowed-not-up : (ρ : Rounding) (scenario i : ℕ) → borrowed_by ρ cells w scenario i ≤ borrowed_by ρ cells z scenario i
  unfolding borrowed_by
  borrowed-not-up ρ scenario i = borrowing-anti ρ (balance_of cells i) (coupon_of cells i) (months_of cells i) (z scenario) (w scenario) (h scenario)

  pub borrowed-total-not-up : (ρ : Rounding) (scenario : ℕ) → borrowed.total_by ρ cells w scenario ≤ borrowed.total_by ρ cells z scenario
  unfolding borrowed.total_by
  borrowed-total-not-up ρ scenario =
      sum_where-mono everywhere (borrowed_by ρ cells w scenario) (borrowed_by ρ cells z scenario) borrowing_count (λ i l. borrowed-not-up ρ scenario i)
