-- "Yields up, values not up" (02:CR 11): what is read off the lists that two valuing calls leave, dollars. Definitions only.
use Rattle.std.specs.Prelude.{ℕ, ◌≤◌, ◌<◌, ⊤, Result, List, length}
use Rattle.answers.specs.declared.Refusal.{Refusal}
use Rattle.form.specs.Borrowings.{borrowing_count}
use Rattle.form.specs.Counts.{number_count}
use Rattle.form.specs.PlaceOrder.{sub_balance_count}
use Rattle.form.specs.Shift.{scenario_count}
use Rattle.borrowing_numbers.specs.Numbers.{borrowing_number_count}
use Rattle.borrowing_numbers.specs.Promise as borrowed
use Rattle.valuation.specs.Promise.{lower_in, upper_in, total_number, Valued}
use Rattle.theorem_yields.specs.YieldsUp.{CdYieldsUp, LiborYieldsUp}

-- in each scenario every lower and upper value of the second list of certificates is at most the first's, and each of the four totals
pub record CertificatesNotUp (first second : List ℕ) : Type 0 where
  pub lower-not-up : (scenario place : ℕ) → scenario < scenario_count → place < sub_balance_count → lower_in second scenario place ≤ lower_in first scenario place
  pub upper-not-up : (scenario place : ℕ) → scenario < scenario_count → place < sub_balance_count → upper_in second scenario place ≤ upper_in first scenario place
  pub totals-not-up : (scenario r : ℕ) → scenario < scenario_count → r < 4 → total_number second r scenario ≤ total_number first r scenario

-- the same of two lists of borrowings, with two totals in each scenario
pub record BorrowingsNotUp (first second : List ℕ) : Type 0 where
  pub lower-not-up : (scenario i : ℕ) → scenario < scenario_count → i < borrowing_count
      → borrowed.lower_in second scenario i ≤ borrowed.lower_in first scenario i
  pub upper-not-up : (scenario i : ℕ) → scenario < scenario_count → i < borrowing_count
      → borrowed.upper_in second scenario i ≤ borrowed.upper_in first scenario i
  pub totals-not-up : (scenario r : ℕ) → scenario < scenario_count → r < 2
      → borrowed.total_number second r scenario ≤ borrowed.total_number first r scenario

-- a valuing call with filing s: two lists are lent to it that are long enough, and it leaves an answer and these lists as it promises
pub record Call (s : List ℕ) : Type 0 where
  pub list : List ℕ
  pub borrowings : List ℕ
  pub list-fits : number_count ≤ length list
  pub borrowings-fit : borrowing_number_count ≤ length borrowings
  pub answer : Result ⊤ Refusal
  pub list-after : List ℕ
  pub borrowings-after : List ℕ
  pub promised : Valued s list borrowings answer list-after borrowings-after

-- the theorem, about the lists after a call with each of two filings, whatever stood in the lists before: with CD yields nowhere lower no certificate is
-- worth more, and with LIBOR yields nowhere lower no borrowing
pub record ValuesNotUp : Type 0 where
  pub certificates : (s t : List ℕ) → CdYieldsUp s t → (first : Call s) (second : Call t) → CertificatesNotUp first.list-after second.list-after
  pub borrowings : (s t : List ℕ) → LiborYieldsUp s t → (first : Call s) (second : Call t) → BorrowingsNotUp first.borrowings-after second.borrowings-after
