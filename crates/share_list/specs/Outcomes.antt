-- The verdict on a filing and a list of places (01:45). Definitions only.
use Rattle.std.specs.Prelude.{ℕ, Bool, List, eqb}
use Rattle.answers.specs.Verdict.{Verdict, first_refusal, list_verdict}
use Rattle.filing.specs.Verdict.{filing_verdict}
use Rattle.form.specs.PlaceOrder.{sub_balance_count}

-- the verdict on a filing and a list of `size` places: a short list comes first
unfoldable pub split_verdict : List ℕ → ℕ → Verdict
split_verdict s size = first_refusal (list_verdict sub_balance_count size) (filing_verdict s)

-- nothing is refused
unfoldable pub split_accepts : List ℕ → ℕ → Bool
split_accepts s size = eqb (split_verdict s size).number 0
