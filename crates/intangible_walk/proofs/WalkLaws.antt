-- The walk of a cell in a scenario month by month: its sizes, and where a month of a term, a rollover and the horizon take it. Assumes nothing.
use Prim.Native.Nat.{ℕ, suc, ◌+◌, ◌*◌, ◌-◌, ◌≤◌, ◌<◌}
use mathlib.Core.Path.{◌≡◌, sym, ap, ◌∙◌}
use mathlib.Core.List.{List}
use native.Mathlib.Nat.{le_trans, le_of_lt}
use native.Mathlib.Omega.{arith}
use Rattle.form.specs.Limits.{months_limit}
use Rattle.pricing.specs.Scales.{par}
use Rattle.pricing.specs.Rounding.{down, up}
use Rattle.price_factors.specs.Inner.Factors.{factor_in, AtMostPar}
use Rattle.withdrawal.specs.declared.WithdrawalTiers.{WithdrawalTiers}
use Rattle.intangible.specs.RollingTerms.{RollingTerms, last_month}
use Rattle.intangible.specs.RolledMonths.{term_opened, term_coupon, term_end, month_survival, month_growth}
use Rattle.intangible.specs.Inner.Month.{rolled_at}
use Rattle.intangible.proofs.TermLaws.{later-end, later-coupon, later-within, later-left, same_end, same-coupon, next-opened}
use Rattle.intangible.proofs.RunLaws as run
use Rattle.intangible.proofs.RunLaws.{survival-before}
use Rattle.intangible.proofs.ResultLaws.{opening-limit, sum-limit}
use Rattle.intangible_months.specs.declared.RetailCell.{RetailCell}
use Rattle.intangible_months.specs.declared.Term.{Term}
use Rattle.intangible_months.specs.Rates.{rolling_rate}
use Rattle.intangible_months.specs.Inner.Lent.{lent_survival, lent_terms}
use Rattle.intangible_walk.specs.declared.Walk.{Walk}
use Rattle.intangible_walk.specs.Inner.Walks.{walk_at, term_of, sums_by, early_walk, rolling_walk, last_sums, SmallWalk, Walkable, Standing, InTerm, RollsOver}

-- any terms, with what they are walked by
module _ (k : RollingTerms) (scenario : ℕ) (lower upper : List ℕ) where
  -- a walk after month t stands there
  pub standing-at : {w : Walk} (t : ℕ) → w ≡ walk_at k scenario lower upper t → k.months ≤ t → t < k.horizon → Standing k scenario lower upper w
  unfolding walk_at
  standing-at {w} t e after before =
      let m : w.month ≡ t = ap (λ (x : Walk). x.month) e in
      record { stands = e ∙ ap (walk_at k scenario lower upper) (sym m); after = rw m after; before = rw m before }

  factor-le : (factors : List ℕ) → AtMostPar factors → (t : ℕ) → factor_in factors scenario t ≤ par
  unfolding factor_in
  factor-le factors h t = h _

  -- its sizes
  pub standing-small : {column : ℕ} {rates : List ℕ} {tiers : WithdrawalTiers} (c : ℕ) {w : Walk} → Walkable k column scenario rates tiers lower upper
      → Standing k scenario lower upper w → c ≡ term_coupon k (suc w.month) → SmallWalk c scenario lower upper w
  unfolding walk_at rolled_at
  standing-small c {w} a s e =
      let within : w.month < last_month = rw a.bounded.horizon-is at s.before in
      let at = s.stands in
      record {
        coupon-le = rw e (a.bounded.coupon-limit (suc w.month));
        scenario-lt = a.scenario-lt;
        month-lt = within;
        lower-balance-le = rw (ap (λ (x : Walk). x.runs.lower.balance) at) (opening-limit k a.bounded down w.month (le_of_lt within));
        lower-sum-le =
            rw (ap (λ (x : Walk). x.runs.lower.sum) at)
            (sum-limit k a.bounded down (factor_in lower scenario) (factor-le lower a.lower-par) w.month (le_of_lt within));
        upper-balance-le = rw (ap (λ (x : Walk). x.runs.upper.balance) at) (opening-limit k a.bounded up w.month (le_of_lt within));
        upper-sum-le =
            rw (ap (λ (x : Walk). x.runs.upper.sum) at)
            (sum-limit k a.bounded up (factor_in upper scenario) (factor-le upper a.upper-par) w.month (le_of_lt within));
        lower-par = a.lower-par;
        upper-par = a.upper-par;
      }

-- a cell in a scenario, month t + 1 after the filed term
module _ (cell : RetailCell) (scenario : ℕ) (rates : List ℕ) (tiers : WithdrawalTiers) (lower upper : List ℕ) where
  abbrev k : RollingTerms
  k = lent_terms cell scenario rates tiers

  -- what survives it by the tiers
  abbrev pub survival_in : ℕ → ℕ → ℕ → ℕ
  survival_in c end month = lent_survival tiers c (rolling_rate rates cell.column scenario month) (end - month)

  survives : (t : ℕ) → suc t < term_end k (suc t) → suc t < k.horizon → survival_in (term_coupon k (suc t)) (term_end k (suc t)) (suc t) ≡ month_survival k (suc t)
  unfolding lent_terms
  survives t he hh = sym (survival-before k t he hh)

  early-at : (t : ℕ) → k.months ≤ t → suc t < term_end k (suc t) → suc t < k.horizon
      → early_walk (term_coupon k (suc t)) (month_survival k (suc t)) scenario lower upper (walk_at k scenario lower upper t) ≡ walk_at k scenario lower upper (suc t)
  unfolding lent_terms early_walk walk_at month_growth
  early-at t h he hh = rw (run.early-on down k (factor_in lower scenario) t h he hh, run.early-on up k (factor_in upper scenario) t h he hh)

  rolling-at : (t : ℕ) → k.months ≤ t → suc t ≡ term_end k (suc t) → suc t < k.horizon
      → rolling_walk (term_coupon k (suc t)) cell.share scenario lower upper (walk_at k scenario lower upper t) ≡ walk_at k scenario lower upper (suc t)
  unfolding lent_terms rolling_walk walk_at month_growth
  rolling-at t h he hh = rw (run.rolling-on down k (factor_in lower scenario) t h he hh, run.rolling-on up k (factor_in upper scenario) t h he hh)

  last-at : (t : ℕ) → k.months ≤ t → suc t ≡ k.horizon
      → last_sums (term_coupon k (suc t)) scenario lower upper (walk_at k scenario lower upper t) ≡ sums_by k scenario lower upper
  unfolding lent_terms last_sums walk_at month_growth sums_by
  last-at t h e = rw (run.last_on down k (factor_in lower scenario) t h e, run.last_on up k (factor_in upper scenario) t h e, e)

  -- the term that opens after month t: its coupon is the rate of its first month
  pub opened-term : (t : ℕ) → k.months ≤ t → term_opened k (suc t) ≡ t → {r : Term} → r.coupon ≡ 10 * rolling_rate rates cell.column scenario (suc t)
      → r.end ≡ t + cell.term → r ≡ term_of k (suc t)
  unfolding term_of lent_terms
  opened-term t h o {r} c e = rw (later-coupon k t h, later-end k t h, o, ← c, ← e)

  -- where the walk stands within a term
  module _ (a : Walkable k cell.column scenario rates tiers lower upper) {term : Term} {w : Walk} (i : InTerm k scenario lower upper term w) where
    pub coupon-is : term.coupon ≡ term_coupon k (suc w.month)
    unfolding term_of
    coupon-is = ap (λ (x : Term). x.coupon) i.term_is

    pub end_is : term.end ≡ term_end k (suc w.month)
    unfolding term_of
    end_is = ap (λ (x : Term). x.end) i.term_is

    pub term-small : SmallWalk term.coupon scenario lower upper w
    term-small = standing-small k scenario lower upper term.coupon a i.standing coupon-is

    -- the month is one of the term's, of which at most 120 are left
    pub month-within : suc w.month ≤ term.end
    month-within = rw end_is (later-within k w.month i.standing.after a.term-pos)

    pub left_le : term.end - suc w.month ≤ months_limit
    left_le = rw end_is (le_trans (later-left k w.month i.standing.after) a.term-le)

    pub survival-le : survival_in term.coupon term.end (suc w.month) ≤ par
    unfolding lent_terms
    survival-le = a.bounded.survival-limit _ _ _

    -- a month before the term's last: the walk after it, and the same term
    module _ (he : suc w.month < term.end) (hh : suc w.month < k.horizon) where
      early-end : suc w.month < term_end k (suc w.month)
      early-end = rw end_is at he

      early-is : early_walk term.coupon (survival_in term.coupon term.end (suc w.month)) scenario lower upper w ≡ walk_at k scenario lower upper (suc w.month)
      early-is =
          rw (coupon-is, end_is, survives w.month early-end hh)
          (ap (early_walk _ _ scenario lower upper) i.standing.stands ∙ early-at w.month i.standing.after early-end hh)

      early-standing : {r : Walk} → r ≡ early_walk term.coupon (survival_in term.coupon term.end (suc w.month)) scenario lower upper w
          → Standing k scenario lower upper r
      early-standing e = standing-at k scenario lower upper (suc w.month) (e ∙ early-is) (omega (arith, i.standing.after)) hh

      pub early-month : {r : Walk} → r ≡ early_walk term.coupon (survival_in term.coupon term.end (suc w.month)) scenario lower upper w
          → r.month ≡ suc w.month
      unfolding early_walk
      early-month e = ap (λ (x : Walk). x.month) e

      early-term : {r : Walk} → r ≡ early_walk term.coupon (survival_in term.coupon term.end (suc w.month)) scenario lower upper w
          → term ≡ term_of k (suc r.month)
      unfolding term_of early_walk
      early-term e =
          rw (ap (λ (x : Walk). x.month) e, same-coupon k w.month i.standing.after a.term-pos early-end, same_end k w.month i.standing.after a.term-pos early-end) i.term_is

      pub early-on : {r : Walk} → r ≡ early_walk term.coupon (survival_in term.coupon term.end (suc w.month)) scenario lower upper w
          → InTerm k scenario lower upper term r
      early-on e = record { standing = early-standing e; term_is = early-term e }

    -- its last: the walk after it, and the next term
    module _ (h : RollsOver k term w) where
      rolling-end : suc w.month ≡ term_end k (suc w.month)
      rolling-end = h.ends ∙ end_is

      rolling-is : rolling_walk term.coupon cell.share scenario lower upper w ≡ walk_at k scenario lower upper (suc w.month)
      rolling-is =
          rw coupon-is (ap (rolling_walk _ cell.share scenario lower upper) i.standing.stands ∙ rolling-at w.month i.standing.after rolling-end h.before)

      rolling-standing : {r : Walk} → r ≡ rolling_walk term.coupon cell.share scenario lower upper w → Standing k scenario lower upper r
      rolling-standing e = standing-at k scenario lower upper (suc w.month) (e ∙ rolling-is) (omega (arith, i.standing.after)) h.before

      pub rolling-month : {r : Walk} → r ≡ rolling_walk term.coupon cell.share scenario lower upper w → r.month ≡ suc w.month
      unfolding rolling_walk
      rolling-month e = ap (λ (x : Walk). x.month) e

      rolling-term : {r : Walk} → r ≡ rolling_walk term.coupon cell.share scenario lower upper w → {opened : Term}
          → opened.coupon ≡ 10 * rolling_rate rates cell.column scenario (suc r.month) → opened.end ≡ r.month + cell.term
          → opened ≡ term_of k (suc r.month)
      rolling-term {r} e c d =
          let m = rolling-month e in
          opened-term r.month (rw m (omega (arith, i.standing.after))) (rw m (next-opened k w.month i.standing.after a.term-pos rolling-end)) c d

      pub rolling-on : {r : Walk} → r ≡ rolling_walk term.coupon cell.share scenario lower upper w → {opened : Term}
          → opened.coupon ≡ 10 * rolling_rate rates cell.column scenario (suc r.month) → opened.end ≡ r.month + cell.term
          → InTerm k scenario lower upper opened r
      rolling-on e c d = record { standing = rolling-standing e; term_is = rolling-term e c d }

    -- the horizon: all is summed
    pub last-is : suc w.month ≡ k.horizon → last_sums term.coupon scenario lower upper w ≡ sums_by k scenario lower upper
    last-is h = rw coupon-is (ap (last_sums _ scenario lower upper) i.standing.stands ∙ last-at w.month i.standing.after h)

-- a walk within a term, some months after it began
pub record Inside (k : RollingTerms) (scenario : ℕ) (lower upper : List ℕ) (term : Term) (first : ℕ) (w : Walk) : Type 0 where
  pub in-term : InTerm k scenario lower upper term w
  pub from : first ≤ w.month
