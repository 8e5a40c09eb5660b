-- `read_contents` meets its contract: 18 and the verdict on the contents give the filing's.
-- Assumes nothing.
use mathlib.Core.Path.{refl, sym, ap, subst, ◌∙◌}
use Rattle.std.proofs.lemmas.Result.{err_from_is_err_and}
use Rattle.answers.specs.Verdict.{Verdict, accepted}
use Rattle.answers.proofs.AnswerLaws.{refusal-first}
use Rattle.answers.proofs.VerdictLaws.{accepted-first}
use Rattle.record_checks.proofs.ProgressLaws.{records-passed}
use Rattle.filing_cells.specs.CellVerdicts.{cells_verdict}
use Rattle.filing_cells.specs.Inner.Sums.{BalancesWithin, column_sums}
use Rattle.filing_cells.specs.Inner.Borrowed.{BorrowingsWithin}
use Rattle.filing_decode.proofs.SoundLaws.{balances-within, borrowings-within}
use Rattle.filing.proofs.ReadLaws.{contents-decide, accepted-over, refused-reading}
use Rattle.filing.proofs.read_contents.Goals as goal

pub fill_cells-requires : goal.fill_cells-requires
fill_cells-requires c =
    record { s_value = (records-passed _ c.requires.filing_value.0, c.requires.sheets_value.1); cells_len = refl }

pub check_libor-requires : goal.check_libor-requires
check_libor-requires c = (c.requires.sheets_value.0, c.fill_cells.ensures)

pub check_cells-requires : goal.check_cells-requires
check_cells-requires c =
    let none = records-passed _ c.requires.filing_value.0 in
    let cells = sym c.fill_cells.ensures in
    (subst BalancesWithin cells (balances-within _ none), subst BorrowingsWithin cells (borrowings-within _ none))

pub returns-in_err-check_libor : goal.returns-in_err-check_libor
returns-in_err-check_libor c =
    let p = err_from_is_err_and c.from_residual.result c.from_residual.ensures.1 in
    let answered = refusal-first _ _ c.in_err-check_libor.ensures ∙ contents-decide _ c.requires.filing_value.0 c.requires.filing_value.1 in
    record {
      answered = rw (p.1, p.2) answered;
      said = rw p.1 (refused-reading _ _ _ answered);
      summed = rw p.1 tt;
    }

pub returns-in_err-sums : goal.returns-in_err-sums
returns-in_err-sums c =
    let p = err_from_is_err_and c.from_residual-in_err-sums.result c.from_residual-in_err-sums.ensures.1 in
    let answered = accepted-first _ c.in_ok-check_libor.ensures (c.in_err-sums.ensures.answer_value ∙ ap cells_verdict c.fill_cells.ensures)
    ∙ contents-decide _ c.requires.filing_value.0 c.requires.filing_value.1 in
    record {
      answered = rw (p.1, p.2) answered;
      said = rw p.1 (refused-reading _ _ _ answered);
      summed = rw p.1 tt;
    }

-- the cells pass, and the filing is accepted; the filled cells and sheets are then what it says, whatever the lent arrays held, and the sums are those of the
-- same cells
pub returns : goal.returns
unfolding accepted
returns c =
    let answered = accepted-first _ c.in_ok-check_libor.ensures (c.in_ok-sums.ensures.answer_value ∙ ap cells_verdict c.fill_cells.ensures)
    ∙ contents-decide _ c.requires.filing_value.0 c.requires.filing_value.1 in
    record {
      answered = answered;
      said = rw c.fill_cells.ensures c.fill_sheets-tiers.ensures ∙ accepted-over _ _ (ap (λ (u : Verdict). u.number) (sym answered));
      summed = c.in_ok-sums.ensures.sums_value ∙ ap column_sums c.fill_cells.ensures;
    }
