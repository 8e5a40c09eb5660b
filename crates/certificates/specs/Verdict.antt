-- The verdict on a list of certificates (02:CR 5): the count, then the certificates in turn. Definitions only.
use Rattle.std.specs.Prelude.{ℕ, not, List}
use Rattle.lists.specs.Ranges.{within}
use Rattle.answers.specs.Verdict.{Verdict, refused_if, first_refusal}
use Rattle.certificate_calendar.specs.declared.Date.{Date}
use Rattle.certificate_terms.specs.Terms.{certificate_count}
use Rattle.certificates.specs.EachVerdict.{each_verdict}

-- 5, at index 0: the count is outside 1 to 1,000
unfoldable pub count_verdict : List ℕ → Verdict
count_verdict s = refused_if (not (within 1 1000 (certificate_count s))) 5 0

-- the count before everything, then the certificates
unfoldable pub certificates_verdict : Date → List ℕ → Verdict
certificates_verdict valuation s = first_refusal (count_verdict s) (each_verdict valuation s)
