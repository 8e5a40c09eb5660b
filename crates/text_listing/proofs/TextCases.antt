-- Cases of the text at its limit, so that a wrong clause of a definition breaks one. Assumes nothing.
use Prim.Native.Nat.{ℕ}
use mathlib.Core.Path.{◌≡◌, refl}
use mathlib.Core.List.{List, [], ◌∷◌}
use lib.ListN.{length, replicate}
use Rattle.filing_decode.specs.Contents.{contents_of}
use Rattle.filing.specs.Verdict.{filing_verdict}
use Rattle.text.specs.Lines.{too_long}
use Rattle.text_listing.specs.Listing.{scenario_lines, verdict_text, filing_text, listing_text}

-- 65,536 bytes are read, whatever they are
longest-read : (s : List ℕ) → length s ≡ 65536 → listing_text s ≡ verdict_text (scenario_lines (contents_of s)) (filing_verdict s)
unfolding listing_text filing_text
longest-read s h = simp h

-- 65,537 bytes: too long
too-long-is : listing_text (replicate 65537 0) ≡ 116 ∷ 111 ∷ 111 ∷ 32 ∷ 108 ∷ 111 ∷ 110 ∷ 103 ∷ 10 ∷ []
unfolding listing_text filing_text too_long
too-long-is = refl
