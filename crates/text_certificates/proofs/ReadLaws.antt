-- What was read of a text whose lines all have their form. Assumes nothing.
use Prim.Native.Nat.{ℕ, suc, ◌≤◌, ◌<◌}
use native.Mathlib.Omega.{arith}
use mathlib.Core.Path.{◌≡◌, refl, sym, ap, ◌∙◌}
use mathlib.Core.Logic.{⊎_elim}
use mathlib.Core.Bool.{Bool, true, false, not}
use mathlib.Core.List.{List, []}
use borrow.Author.Tests.{lt-ltb, eqb-true, eqb-false}
use lib.Dec.{eqb}
use Rattle.lists.specs.Tables.{table, joined}
use Rattle.lists.proofs.OrderLaws.{lt-or-le}
use Rattle.lists.proofs.RangeLaws.{least-le}
use Rattle.std.specs.Prelude.{Result, Ok, Err}
use Rattle.text_certificates.specs.declared.certificates_input.Unreadable.{Unreadable}
use Rattle.certificate_calendar.specs.declared.Date.{Date}
use Rattle.text_certificates.specs.Texts.{line_count, is_readable, first_unreadable, unreadable_line, line_numbers, valuation_of, certificates_of, read_count, TextRead}

module _ (s : List ℕ) (readable : unreadable_line s ≡ 0) where
  first-most : first_unreadable s ≤ line_count s
  unfolding first_unreadable
  first-most = omega (arith, least-le (λ (l : ℕ). not (is_readable s l)) 0 (line_count s))

  -- no line fails
  all_lines : first_unreadable s ≡ line_count s
  unfolding unreadable_line
  all_lines = ⊎_elim (λ h. absurd (fails h)) (λ h. omega (arith, first-most)) (lt-or-le (first_unreadable s) (line_count s))
    where
      fails : first_unreadable s < line_count s → ⊥
      fails h = let z : suc (first_unreadable s) ≡ 0 = rw (lt-ltb (first_unreadable s) (line_count s) h) at readable in omega arith

  -- the certificates of all lines
  pub certificates-all : joined (table (read_count s) (λ (k : ℕ). line_numbers s (suc k))) ≡ certificates_of s
  unfolding certificates_of read_count
  certificates-all = rw all_lines

-- what is read of a text by whether each line has its form: the valuation date and all certificates, or the first line that has not
module _ (s certificates : List ℕ) (r : Result Date Unreadable) (read : TextRead s [] certificates r) where
  pub text_valued : (valuation : Date) → r ≡ Ok valuation → (unreadable_line s ≡ 0) × ((valuation ≡ valuation_of s) × (certificates ≡ certificates_of s))
  text_valued valuation e = by (eqb (unreadable_line s) 0) refl
    where
      by : (b : Bool) → eqb (unreadable_line s) 0 ≡ b → (unreadable_line s ≡ 0) × ((valuation ≡ valuation_of s) × (certificates ≡ certificates_of s))
      by true t =
          let readable = eqb-true (unreadable_line s) 0 t in
          let same : ◌≡◌ {A = Result Date Unreadable} (Ok valuation) (Ok (valuation_of s)) = sym e ∙ read.result-is ∙ rw t in
          (readable, (cc, read.numbers-are ∙ certificates-all s readable))
      by false t =
          let other : ◌≡◌ {A = Result Date Unreadable} (Ok valuation) (Err (record { line = unreadable_line s })) = sym e ∙ read.result-is ∙ rw t in
          absurd (cc)

  pub text_unreadable : (unreadable : Unreadable) → r ≡ Err unreadable → (unreadable_line s ≡ 0 → ⊥) × (unreadable.line ≡ unreadable_line s)
  text_unreadable unreadable e = by (eqb (unreadable_line s) 0) refl
    where
      by : (b : Bool) → eqb (unreadable_line s) 0 ≡ b → (unreadable_line s ≡ 0 → ⊥) × (unreadable.line ≡ unreadable_line s)
      by true t =
          let other : ◌≡◌ {A = Result Date Unreadable} (Err unreadable) (Ok (valuation_of s)) = sym e ∙ read.result-is ∙ rw t in
          absurd (cc)
      by false t =
          let same : ◌≡◌ {A = Result Date Unreadable} (Err unreadable) (Err (record { line = unreadable_line s })) = sym e ∙ read.result-is ∙ rw t in
          (eqb-false (unreadable_line s) 0 t, ap (λ (u : Unreadable). u.line) (let e : unreadable ≡ record { line = unreadable_line s } = cc in e))
