-- What reading a filing leaves besides its verdict. Definitions only.
use Rattle.std.specs.Prelude.{ℕ, cond, Result, Ok, Err, List, eqb}
use Rattle.filing_contents.specs.Contents.{Contents, contents_in}
use Rattle.filing_decode.specs.Contents.{contents_of}
use Rattle.filing.specs.EmptyContents.{empty_contents}
use Rattle.filing.specs.declared.readings.Reading.{Reading}
use Rattle.filing.specs.Verdict.{filing_verdict}

-- what stands where something stood before: what the filing says where it is accepted; a refusal changes nothing (01:41)
unfoldable pub read_over : List ℕ → Contents → Contents
read_over s before = cond (eqb (filing_verdict s).number 0) (contents_of s) before

-- what is lent for cells and the numbers of all sheets, and no tiers
abbrev pub lent : List ℕ → List ℕ → Contents
lent cells numbers = contents_in cells numbers empty_contents.tiers

-- what stands in the lent arrays after a call, with the tiers that it answers: none on a refusal
abbrev pub left_by : {E : Type 0} → List ℕ → List ℕ → Result Reading E → Contents
left_by cells numbers (Ok r) = contents_in cells numbers r.tiers
left_by cells numbers (Err e) = lent cells numbers

-- what the filing says where it is accepted, else zeros
unfoldable pub read_contents : List ℕ → Contents
read_contents s = read_over s empty_contents
