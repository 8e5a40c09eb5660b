-- What a caller of `read` learns where the filing is accepted: what was lent holds what the filing says, and it is valid. Assumes nothing.
use Prim.Native.Nat.{ℕ}
use mathlib.Core.Path.{◌≡◌, sym, ap, subst, ◌∙◌}
use mathlib.Core.List.{List}
use Rattle.answers.specs.Verdict.{Verdict, accepted}
use Rattle.filing_contents.specs.Contents.{Contents}
use Rattle.filing_decode.specs.Contents.{contents_of}
use Rattle.filing.specs.Verdict.{filing_verdict}
use Rattle.filing.specs.Readings.{read_over}
use Rattle.filing_contents.specs.Valid.{Valid}
use Rattle.filing.proofs.ReadLaws.{accepted-over}
use Rattle.filing.proofs.AcceptedLaws.{accepted-valid}

module _ (s : List ℕ) (k before : Contents) (v : accepted ≡ filing_verdict s) (r : k ≡ read_over s before) where
  number-zero : (filing_verdict s).number ≡ 0
  unfolding accepted
  number-zero = ap (λ (w : Verdict). w.number) (sym v)

  pub reading-says : k ≡ contents_of s
  reading-says = r ∙ sym (accepted-over s before number-zero)

  pub reading-valid : Valid k
  reading-valid = subst Valid (sym reading-says) (accepted-valid s (sym v))

  -- the cells that the sums are of are those that were lent
  pub reading-cells : (contents_of s).cells ≡ k.cells
  reading-cells = ap (λ (c : Contents). c.cells) (sym reading-says)
