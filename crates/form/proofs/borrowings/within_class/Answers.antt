-- `within_class` meets its contract: each arm has the coupons of the definition's class, and past the last there is none. Assumes nothing.
use Prim.Native.Nat.{ℕ, ◌≤◌}
use native.Mathlib.Omega.{arith}
use mathlib.Core.Path.{sym, ap, ◌∙◌}
use mathlib.Core.List.{[], ◌∷◌}
use lib.ListN.{get_or-eq_default}
use Rattle.form.specs.Limits.{filed_coupon_limit}
use Rattle.form.specs.Borrowings.{within_class}
use Rattle.form.proofs.borrowings.within_class.Goals as goal

pub returns-in-0 : goal.returns-in-0
unfolding within_class
returns-in-0 c = c.within.ensures ∙ ap (λ (class : ℕ). within_class class c.args.coupon) (sym c.in-0.is)

pub returns-in-1 : goal.returns-in-1
unfolding within_class
returns-in-1 c = c.within-in-1.ensures ∙ ap (λ (class : ℕ). within_class class c.args.coupon) (sym c.in-1.is)

pub returns-in-2 : goal.returns-in-2
unfolding within_class
returns-in-2 c = c.within-in-2.ensures ∙ ap (λ (class : ℕ). within_class class c.args.coupon) (sym c.in-2.is)

pub returns-in-3 : goal.returns-in-3
unfolding within_class
returns-in-3 c = c.within-in-3.ensures ∙ ap (λ (class : ℕ). within_class class c.args.coupon) (sym c.in-3.is)

pub returns-in-4 : goal.returns-in-4
unfolding within_class
returns-in-4 c = c.within-in-4.ensures ∙ ap (λ (class : ℕ). within_class class c.args.coupon) (sym c.in-4.is)

pub returns-in-5 : goal.returns-in-5
unfolding within_class
returns-in-5 c = c.within-in-5.ensures ∙ ap (λ (class : ℕ). within_class class c.args.coupon) (sym c.in-5.is)

pub returns-in-6 : goal.returns-in-6
unfolding within_class
returns-in-6 c = c.within-in-6.ensures ∙ ap (λ (class : ℕ). within_class class c.args.coupon) (sym c.in-6.is)

pub returns-in-7 : goal.returns-in-7
unfolding within_class
returns-in-7 c = c.within-in-7.ensures ∙ ap (λ (class : ℕ). within_class class c.args.coupon) (sym c.in-7.is)

pub returns-in_default : goal.returns-in_default
unfolding within_class
returns-in_default c = let past : 8 ≤ c.args.class = omega arith in
    c.within-in_default.ensures ∙ rw (get_or-eq_default {A = ℕ} (0 ∷ 500 ∷ 600 ∷ 700 ∷ 800 ∷ 900 ∷ 1000 ∷ 1100 ∷ []) 0 past, get_or-eq_default {A = ℕ} (499 ∷ 599 ∷ 699 ∷ 799 ∷ 899 ∷ 999 ∷ 1099 ∷ filed_coupon_limit ∷ []) 0 past)
