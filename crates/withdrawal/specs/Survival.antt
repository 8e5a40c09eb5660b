-- Survival of a month under an annual withdrawal (01:51). Definitions only.
use Rattle.std.specs.Prelude.{ℕ, zero, suc, ◌+◌, ◌*◌, ◌-◌, ◌^◌, Bool, cond, List, leb}
use Rattle.lists.specs.Tables.{table}
use Rattle.form.specs.Limits.{withdrawal_limit}

-- nothing is withdrawn: all survives, billionths
abbrev pub full_survival : ℕ
full_survival = 10 ^ 9

-- the power rule, q in billionths and w in thousandths: q^12 × 1,000 ≤ (1,000 - w) × 10^108
unfoldable pub survives : ℕ → ℕ → Bool
survives w q = leb (q ^ 12 * 1000) ((1000 - w) * 10 ^ 108)

-- q, with each of the lower bits, from the highest on, set where the test still passes
unfoldable pub with_bits : (ℕ → Bool) → ℕ → ℕ → ℕ
with_bits test zero q = q
with_bits test (suc k) q = with_bits test k (cond (test (q + 2 ^ k)) (q + 2 ^ k) q)

-- q of an annual withdrawal w, billionths: the largest whole q that the power rule passes. It is at most 10^9, which 30 bits hold
unfoldable pub survival : ℕ → ℕ
survival w = with_bits (survives w) 30 0

-- the figures of all annual withdrawals, 0 to 600 thousandths
unfoldable pub survival_figures : List ℕ
survival_figures = table (suc withdrawal_limit) survival
