-- Cases of the printed text at its limit (02:CR 5), so that a wrong clause of a definition breaks one: 131,072 bytes are read, whatever they are, and 131,073
-- are too long. Assumes nothing.
use Prim.Native.Nat.{ℕ}
use mathlib.Core.Path.{◌≡◌}
use mathlib.Core.Bool.{cond}
use mathlib.Core.List.{List, [], ◌∷◌}
use lib.Dec.{eqb}
use lib.ListN.{length}
use Rattle.text.specs.Lines.{too_long}
use Rattle.text_certificates.specs.CellLines.{unreadable_text}
use Rattle.text_certificates.specs.Texts.{unreadable_line, valuation_of, certificates_of}
use Rattle.text_certificates.specs.Printed.{answer_text, printed_text}

longest-read : (s : List ℕ) → length s ≡ 131072
    → printed_text s ≡ cond (eqb (unreadable_line s) 0) (answer_text (valuation_of s) (certificates_of s)) (unreadable_text (unreadable_line s))
unfolding printed_text
longest-read s h = simp h

too-long-is : (s : List ℕ) → length s ≡ 131073 → printed_text s ≡ 116 ∷ 111 ∷ 111 ∷ 32 ∷ 108 ∷ 111 ∷ 110 ∷ 103 ∷ 10 ∷ []
unfolding printed_text too_long
too-long-is s h = simp h
