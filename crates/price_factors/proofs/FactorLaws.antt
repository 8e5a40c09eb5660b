-- The factors of the seven scenarios in the list, month by month. Assumes nothing.
use Prim.Native.Nat.{ℕ, zero, suc, ◌+◌, ◌*◌, ◌-◌, ◌/◌, ◌%◌, ◌≤◌, ◌<◌}
use mathlib.Core.Path.{◌≡◌, refl, sym, ap, subst, ◌∙◌}
use mathlib.Core.List.{List, ◌++◌, append_assoc, append-nil}
use native.Mathlib.Nat.{add-zero}
use native.Mathlib.Omega.{arith}
use lib.Dec.{ltb}
use lib.ListN.{length, get_or, drop, replicate, length-replicate, replicate-append-replicate}
use lib.Seq.{drop_at}
use borrow.Author.Tests.{lt-ltb, le-ltb}
use Rattle.lists.specs.Tables.{table, joined}
use Rattle.lists.proofs.TableLaws.{table-length, table-get_or, table-le, joined-get_or, joined-suc, joined-le}
use Rattle.lists.proofs.TestLaws.{either, entries-le}
use Rattle.form.specs.Shift.{shifted_rate, shifted_rates, scenario_count}
use Rattle.form.specs.Limits.{months_limit}
use Rattle.form.specs.Counts.{factor_count}
use Rattle.pricing.specs.Scales.{par}
use Rattle.pricing.specs.Rounding.{Rounding, up}
use Rattle.pricing.specs.Run.{discount_factor_by}
use Rattle.pricing.specs.Inner.Multipliers.{discounts_by, AtMost}
use Rattle.pricing.proofs.FlowWidthLaws.{discount-limit}
use Rattle.pricing.proofs.MultiplierLaws.{discount-pos}
use Rattle.price_factors.specs.Inner.Factors.{sheet_yield, yield_factors, month_factors, factors_by, factor_in, AtMostPar}

-- a rate of the seven scenarios
pub shifted_at : (rate scenario : ℕ) → scenario < scenario_count → get_or (shifted_rates rate) scenario 0 ≡ shifted_rate scenario rate
unfolding shifted_rates
shifted_at rate scenario h = table-get_or scenario_count (λ (s : ℕ). shifted_rate s rate) scenario 0 h

discounts-length : (ρ : Rounding) (rates : List ℕ) (n : ℕ) → length (discounts_by ρ rates n) ≡ scenario_count
unfolding discounts_by
discounts-length ρ rates n = table-length 0 scenario_count _

discounts-at-most : (ρ : Rounding) (rates : List ℕ) (n : ℕ) → AtMost par (discounts_by ρ rates n)
unfolding discounts_by
discounts-at-most ρ rates n = table-le 0 scenario_count _ par (λ i l u. discount-limit _ n ρ)

module _ (ρ : Rounding) (yields : List ℕ) (longest : ℕ) where
  -- a month has seven factors
  pub month-length : (month : ℕ) → length (month_factors ρ yields longest month) ≡ scenario_count
  unfolding month_factors yield_factors
  month-length month = either (λ (l : List ℕ). length l ≡ scenario_count) (ltb month longest) (discounts-length ρ _ (suc month)) refl

  -- a month within the longest term
  pub month-within : (month : ℕ) → month < longest → yield_factors ρ yields month ≡ month_factors ρ yields longest month
  unfolding month_factors
  month-within month h = rw (lt-ltb month longest h)

  -- a month past the longest term adds seven zeros
  months-past : (month more : ℕ) → longest ≤ month
      → joined (table (month + more) (month_factors ρ yields longest)) ≡ joined (table month (month_factors ρ yields longest)) ++ replicate (scenario_count * more) 0
  unfolding month_factors
  months-past month zero h = rw (add-zero, append-nil)
  months-past month (suc more) h =
      let past : longest ≤ month + more = omega arith in
      let e : month + suc more ≡ (month + more) + 1 = omega arith in
      let n : scenario_count * more + scenario_count ≡ scenario_count * suc more = omega arith in
      ap (λ (i : ℕ). joined (table i (month_factors ρ yields longest))) e
      ∙ joined-suc (month + more) (month_factors ρ yields longest)
      ∙ rw (months-past month more h, le-ltb (month + more) longest past, append_assoc, replicate-append-replicate {A = ℕ} (scenario_count * more) scenario_count 0, n)

  -- from the longest term on the list is left 0: the zeros that are left, 7 for each month behind, are what the months past the longest term add
  pub factors-left : (month : ℕ) → longest ≤ month → month ≤ months_limit
      → joined (table month (month_factors ρ yields longest)) ++ drop (scenario_count * month) (replicate factor_count 0) ≡ factors_by ρ yields longest
  unfolding factors_by
  factors-left month h m =
      let e : month + (months_limit - month) ≡ months_limit = omega arith in
      let n : scenario_count * month + scenario_count * (months_limit - month) ≡ factor_count = omega arith in
      let zeros : replicate {A = ℕ} (scenario_count * month) 0 ++ replicate (scenario_count * (months_limit - month)) 0 ≡ replicate {A = ℕ} factor_count 0 =
      replicate-append-replicate (scenario_count * month) (scenario_count * (months_limit - month)) 0 ∙ ap (λ (i : ℕ). replicate i 0) n in
      let left : drop {A = ℕ} (scenario_count * month) (replicate factor_count 0) ≡ replicate (scenario_count * (months_limit - month)) 0 =
      rw (← zeros) (drop_at (replicate (scenario_count * month) 0) (replicate (scenario_count * (months_limit - month)) 0) (scenario_count * month) (length-replicate (scenario_count * month) 0)) in
      ap (λ (l : List ℕ). joined (table month (month_factors ρ yields longest)) ++ l) left
      ∙ sym (months-past month (months_limit - month) h)
      ∙ ap (λ (i : ℕ). joined (table i (month_factors ρ yields longest))) e

  -- none is above par
  month-at-most : (month : ℕ) → AtMost par (month_factors ρ yields longest month)
  unfolding month_factors yield_factors
  month-at-most month = either (AtMost par) (ltb month longest) (discounts-at-most ρ _ (suc month)) (entries-le (replicate scenario_count 0) par tt)

  pub factors-at-most-par : AtMostPar (factors_by ρ yields longest)
  unfolding factors_by
  factors-at-most-par = joined-le 0 months_limit (month_factors ρ yields longest) par (λ month i l u. month-at-most month i)

  -- the factor of scenario s and month t + 1 within the longest term is the discount factor of the definitions
  pub factor-is : (scenario t : ℕ) → scenario < scenario_count → t < months_limit → t < longest
      → factor_in (factors_by ρ yields longest) scenario (suc t) ≡ discount_factor_by ρ (sheet_yield yields scenario) (suc t)
  unfolding factor_in factors_by month_factors yield_factors discounts_by discount_factor_by sheet_yield
  factor-is scenario t hs ht hl =
      let before : suc t - 1 ≡ t = omega arith in
      rw (before, joined-get_or scenario_count months_limit (month_factors ρ yields longest) month-length t scenario 0 ht hs, lt-ltb t longest hl)
      (table-get_or scenario_count _ scenario 0 hs ∙ rw (shifted_at (get_or yields t 0) scenario hs))

-- an upper factor within the longest term is above 0
pub upper-factor-pos : (yields : List ℕ) (longest i : ℕ) → longest ≤ months_limit → i < scenario_count * longest → 0 < get_or (factors_by up yields longest) i 0
unfolding factor_in discount_factor_by
upper-factor-pos yields longest i hl h =
    let before : suc (i / scenario_count) - 1 ≡ i / scenario_count = omega arith in
    let same : scenario_count * (i / scenario_count) + i % scenario_count ≡ i = omega arith in
    rw same at (rw before at (subst (λ (n : ℕ). 0 < n) (sym (factor-is up yields longest (i % scenario_count) (i / scenario_count) (omega arith) (omega arith) (omega arith)))
    (discount-pos (sheet_yield yields (i % scenario_count) (suc (i / scenario_count))) (suc (i / scenario_count)))))
