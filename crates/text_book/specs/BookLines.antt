-- The lines that a book prints, as ASCII bytes (02:CR 7). Balances in thousands of dollars, coupons in thousandths of a percent a year, penalties in
-- hundredths of a month, values in dollars. Definitions only.
use Rattle.std.specs.Prelude.{ℕ, cond, List, [], ◌∷◌, ◌++◌, eqb}
use Rattle.answers.specs.Verdict.{Verdict}
use Rattle.form.specs.declared.sub_balances.SubBalance.{SubBalance}
use Rattle.text.specs.Decimal.{decimal}
use Rattle.text.specs.Lines.{rest_of_line, refusal_line}

-- the lines `opened` and `ok`
unfoldable pub opened_line : List ℕ
opened_line = 111 ∷ 112 ∷ 101 ∷ 110 ∷ 101 ∷ 100 ∷ 10 ∷ []

unfoldable pub ok_line : List ℕ
ok_line = 111 ∷ 107 ∷ 10 ∷ []

-- a line where nothing is refused, else the line of the refusal
unfoldable pub answer_line : List ℕ → Verdict → List ℕ
answer_line line v = cond (eqb v.number 0) line (refusal_line v.number v.location)

-- what a place holds: balance, coupon, months, penalty and the fourteen values
unfoldable pub held_line : SubBalance → List ℕ
held_line held = decimal held.balance ++ rest_of_line (held.coupon ∷ held.remaining_months ∷ held.penalty ∷ held.values)
