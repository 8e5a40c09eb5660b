-- `to_cells` meets its contract: the count, then the certificates in turn, then the cells of their sums. Assumes nothing.
use native.Mathlib.Omega.{arith}
use mathlib.Core.Path.{◌≡◌, sym, ap, ◌∙◌}
use mathlib.Core.Bool.{true, false}
use Rattle.std.proofs.lemmas.Grind.{common_steps}
use Rattle.std.proofs.lemmas.Result.{err_from_is_err_and}
use Rattle.lists.specs.Ranges.{within}
use Rattle.answers.specs.Verdict.{Verdict, accepted}
use Rattle.certificate_terms.specs.Terms.{certificate_count}
use Rattle.certificates.proofs.CallLaws.{each-passed, count-refuses, count-passes, totals-bounded, call-refused, call-accepted}
use Rattle.certificates.proofs.to_cells.Goals as goal

pub returns-then-not-contains : goal.returns-then-not-contains
unfolding certificate_count within
returns-then-not-contains c =
    let outside : within 1 1000 (certificate_count c.args.certificates.now) ≡ false = grind (arith, common_steps) in
    record { converted = call-refused _ _ _ (count-refuses _ _ outside) }

pub returns-in_err-totals : goal.returns-in_err-totals
unfolding certificate_count within
returns-in_err-totals c =
    let inside : within 1 1000 (certificate_count c.args.certificates.now) ≡ true = grind (arith, common_steps) in
    let passed = err_from_is_err_and c.from_residual.result c.from_residual.ensures.1 in
    rw (passed.1, passed.2) (record { converted = call-refused _ _ _ (c.in_err-totals.ensures.answer_value ∙ sym (count-passes _ _ inside)) })

pub cells-requires : goal.cells-requires
unfolding accepted
cells-requires c =
    let scanned = c.in_ok-totals.ensures in
    rw scanned.totals_value (totals-bounded _ _ _ (each-passed _ _ (ap (λ (u : Verdict). u.number) (sym scanned.answer_value))))

pub returns : goal.returns
unfolding certificate_count within
returns c =
    let inside : within 1 1000 (certificate_count c.args.certificates.now) ≡ true = grind (arith, common_steps) in
    let scanned = c.in_ok-totals.ensures in
    record { converted = call-accepted _ _ _ (rw scanned.totals_value at c.cells.ensures) (scanned.answer_value ∙ sym (count-passes _ _ inside)) }
