-- The verdict on the certificates in turn (02:CR 5): of each its own faults, then the sum of its cell. Definitions only.
use Rattle.std.specs.Prelude.{ℕ, suc, Bool, List, ltb}
use Rattle.lists.specs.Tables.{table}
use Rattle.form.specs.Limits.{balance_limit}
use Rattle.answers.specs.Verdict.{Verdict, refused_if, first_refusal, first_of}
use Rattle.certificate_calendar.specs.declared.Date.{Date}
use Rattle.certificate_terms.specs.Terms.{certificate_count, certificate_at, position_of}
use Rattle.certificate_terms.specs.Faults.{own_verdict}
use Rattle.certificates.specs.Sums.{balance_of, position_sum}

-- the balances at certificate k's position, up to and with it, are past the limit of a balance
unfoldable pub sum_over_limit : Date → List ℕ → ℕ → Bool
sum_over_limit valuation s k = ltb balance_limit (position_sum valuation s balance_of (position_of valuation (certificate_at s k)) (suc k))

-- certificate k: its own faults, then 5 for the sum of its cell
unfoldable pub certificate_verdict : Date → List ℕ → ℕ → Verdict
certificate_verdict valuation s k = first_refusal (own_verdict valuation k (certificate_at s k)) (refused_if (sum_over_limit valuation s k) 5 k)

-- the certificates in turn
unfoldable pub each_verdict : Date → List ℕ → Verdict
each_verdict valuation s = first_of (table (certificate_count s) (certificate_verdict valuation s))
