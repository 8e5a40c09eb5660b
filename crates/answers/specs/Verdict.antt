-- The verdict on a filing (01:26-41; the paper's "turned-back filings"): the number of its refusal with the location, or acceptance.
-- Definitions only.
use Rattle.std.specs.Prelude.{ℕ, Bool, cond, List, [], ◌∷◌, ltb, eqb}

-- a refusal number of the table (01:28-39) with its location, the paper's "place"; number 0 and location 0 is acceptance
pub record Verdict : Type 0 where
  pub number : ℕ
  pub location : ℕ

unfoldable pub accepted : Verdict
accepted = record { number = 0; location = 0 }

unfoldable pub refused : ℕ → ℕ → Verdict
refused n at = record { number = n; location = at }

-- one condition of the table: its refusal where it holds
unfoldable pub refused_if : Bool → ℕ → ℕ → Verdict
refused_if holds n at = cond holds (refused n at) accepted

-- the first refusal of two verdicts, in their order (01:41)
unfoldable pub first_refusal : Verdict → Verdict → Verdict
first_refusal v next = cond (eqb v.number 0) next v

-- the first refusal of several
unfoldable pub first_of : List Verdict → Verdict
first_of [] = accepted
first_of (v ∷ vs) = first_refusal v (first_of vs)

-- 10, at the length of a list of `size` entries where `least` are needed
unfoldable pub list_verdict : ℕ → ℕ → Verdict
list_verdict least size = refused_if (ltb size least) 10 size
