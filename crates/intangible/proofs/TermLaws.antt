-- The terms one after the other: a month within a term, the last month of a term and the one after it, and the filed term. Assumes nothing.
use Prim.Native.Nat.{ℕ, suc, ◌+◌, ◌*◌, ◌-◌, ◌/◌, ◌≤◌, ◌<◌}
use mathlib.Core.Path.{◌≡◌, refl, sym, ◌∙◌}
use mathlib.Core.Bool.{true, false, ◌||◌}
use native.Mathlib.Nat.{div-eq_of_lt-le, lt-div-mul-add, div-mul-le_self, zero-div, le_refl, mul_comm}
use native.Mathlib.Omega.{arith}
use lib.Dec.{eqb}
use borrow.Author.Tests.{le-leb, lt-leb, eq-eqb, ne_eqb}
use Rattle.lists.proofs.TestLaws.{either}
use Rattle.pricing.specs.Scales.{par}
use Rattle.intangible.specs.RollingTerms.{RollingTerms}
use Rattle.intangible.specs.RolledMonths.{term_opened, term_end, term_coupon, ends_term, month_survival}

module _ (k : RollingTerms) where
  -- the filed term: months up to T
  module _ (t : ℕ) (h : t ≤ k.months) where
    pub filed-end : term_end k t ≡ k.months
    unfolding term_end
    filed-end = rw (le-leb t k.months h)

    pub filed-coupon : term_coupon k t ≡ k.coupon
    unfolding term_coupon
    filed-coupon = rw (le-leb t k.months h)

  pub filed-within : (t : ℕ) → t < k.months → ends_term k t ≡ false
  unfolding ends_term
  filed-within t h = rw (filed-end t (omega arith)) (ne_eqb t k.months (λ e. omega (arith, e)))

  pub filed-ends : ends_term k k.months ≡ true
  unfolding ends_term
  filed-ends = rw (filed-end k.months (le_refl k.months)) (eq-eqb k.months k.months refl)

  -- month t + 1 of a term that a rollover opened
  module _ (t : ℕ) (h : k.months ≤ t) where
    opened-is : term_opened k (suc t) ≡ k.months + k.term * ((t - k.months) / k.term)
    unfolding term_opened
    opened-is =
        let e : suc t - suc k.months ≡ t - k.months = omega arith in
        rw (lt-leb (suc t) k.months (omega arith), e)

    pub later-end : term_end k (suc t) ≡ term_opened k (suc t) + k.term
    unfolding term_end
    later-end = rw (lt-leb (suc t) k.months (omega arith))

    pub later-coupon : term_coupon k (suc t) ≡ 10 * k.rate (suc (term_opened k (suc t)))
    unfolding term_coupon
    later-coupon = rw (lt-leb (suc t) k.months (omega arith))

    -- it lies within its term
    pub later-within : 0 < k.term → suc t ≤ term_end k (suc t)
    later-within pos =
        rw (later-end, opened-is) (omega (arith, lt-div-mul-add {a = t - k.months} pos, mul_comm k.term ((t - k.months) / k.term)))

    -- and its term has at most so many months left
    pub later-left : term_end k (suc t) - suc t ≤ k.term
    later-left = rw (later-end, opened-is) (omega (arith, div-mul-le_self (t - k.months) k.term, mul_comm k.term ((t - k.months) / k.term)))

  -- the first term after T begins in month T + 1
  pub first-opened : term_opened k (suc k.months) ≡ k.months
  first-opened =
      let e : k.months - k.months ≡ 0 = omega arith in
      rw (opened-is k.months (le_refl k.months), e, zero-div) (omega arith)

  module _ (t : ℕ) (h : k.months ≤ t) (pos : 0 < k.term) where
    -- a month that is not the last of its term: the next is in the same term. With n = t - T and j = n / TR: TR j ≤ n + 1 < TR (j + 1)
    same-opened : suc t < term_end k (suc t) → term_opened k (suc (suc t)) ≡ term_opened k (suc t)
    same-opened l =
        let e : suc t - k.months ≡ suc (t - k.months) = omega arith in
        let below = rw (later-end t h, opened-is t h) at l in
        let j = (t - k.months) / k.term in
        let q : suc (t - k.months) / k.term ≡ j =
        div-eq_of_lt-le k.term (omega (arith, div-mul-le_self (t - k.months) k.term)) (omega (arith, below)) in
        opened-is (suc t) (omega arith) ∙ rw (e, q) (sym (opened-is t h))

    pub same_end : suc t < term_end k (suc t) → term_end k (suc (suc t)) ≡ term_end k (suc t)
    same_end l = later-end (suc t) (omega arith) ∙ rw (same-opened l) (sym (later-end t h))

    pub same-coupon : suc t < term_end k (suc t) → term_coupon k (suc (suc t)) ≡ term_coupon k (suc t)
    same-coupon l = later-coupon (suc t) (omega arith) ∙ rw (same-opened l) (sym (later-coupon t h))

    -- the last month of a term: the next term begins in the month after it
    pub next-opened : suc t ≡ term_end k (suc t) → term_opened k (suc (suc t)) ≡ suc t
    next-opened l =
        let e : suc t - k.months ≡ suc (t - k.months) = omega arith in
        let at = rw (later-end t h, opened-is t h) at l in
        let j = (t - k.months) / k.term in
        let q : suc (t - k.months) / k.term ≡ suc j = div-eq_of_lt-le k.term (omega (arith, at)) (omega (arith, at)) in
        opened-is (suc t) (omega arith) ∙ rw (e, q) (omega (arith, at))

  -- what survives: all of it in the last month of a term and at the horizon
  pub survival-limit : ((c r n : ℕ) → k.survival c r n ≤ par) → (t : ℕ) → month_survival k t ≤ par
  unfolding month_survival
  survival-limit h t = either (λ (n : ℕ). n ≤ par) (eqb t k.horizon || ends_term k t) (le_refl par) (h _ _ _)
