-- `check_cells` meets its contract: 19, then 7, 8 and 9. Assumes nothing.
use mathlib.Core.Path.{refl}
use Rattle.std.proofs.lemmas.Result.{err_from_is_err_and}
use Rattle.answers.specs.Verdict.{accepted, first_refusal}
use Rattle.answers.proofs.AnswerLaws.{refusal-first}
use Rattle.answers.proofs.VerdictLaws.{accepted-first}
use Rattle.filing_cells.specs.CellVerdicts.{cells_verdict}
use Rattle.filing_cells.proofs.CellVerdictLaws.{cells-in-turn}
use Rattle.filing_cells.proofs.check_cells.Goals as goal

pub check_total-requires : goal.check_total-requires
check_total-requires c =
    (c.requires.0, rw c.column_sums-sums.ensures)

pub check_columns-requires : goal.check_columns-requires
check_columns-requires c = rw c.column_sums-sums.ensures

pub returns-in_err-check_coupons : goal.returns-in_err-check_coupons
unfolding cells_verdict
returns-in_err-check_coupons c =
    let p = err_from_is_err_and c.from_residual.result c.from_residual.ensures.1 in
    record {
      answer_value = rw (p.1, p.2) (refusal-first _ _ c.in_err-check_coupons.ensures);
      sums_value = rw p.1 tt;
    }

pub returns-in_err-check_months : goal.returns-in_err-check_months
unfolding cells_verdict
returns-in_err-check_months c =
    let p = err_from_is_err_and c.from_residual-in_err-check_months.result c.from_residual-in_err-check_months.ensures.1 in
    record {
      answer_value = rw (p.1, p.2)
          (accepted-first _ c.in_ok-check_coupons.ensures
          (refusal-first _ _ c.in_err-check_months.ensures));
      sums_value = rw p.1 tt;
    }

pub returns-in_err-check_terms : goal.returns-in_err-check_terms
unfolding cells_verdict
returns-in_err-check_terms c =
    let p = err_from_is_err_and c.from_residual-in_err-check_terms.result c.from_residual-in_err-check_terms.ensures.1 in
    record {
      answer_value = rw (p.1, p.2)
          (accepted-first _ c.in_ok-check_coupons.ensures
          (accepted-first _ c.in_ok-check_months.ensures
          (refusal-first _ _ c.in_err-check_terms.ensures)));
      sums_value = rw p.1 tt;
    }

pub returns-in_err-check_columns : goal.returns-in_err-check_columns
unfolding cells_verdict
returns-in_err-check_columns c =
    let p = err_from_is_err_and c.from_residual-in_err-check_columns.result c.from_residual-in_err-check_columns.ensures.1 in
    record {
      answer_value = rw (p.1, p.2)
          (accepted-first _ c.in_ok-check_coupons.ensures
          (accepted-first _ c.in_ok-check_months.ensures
          (accepted-first _ c.in_ok-check_terms.ensures
          (refusal-first _ _ c.in_err-check_columns.ensures))));
      sums_value = rw p.1 tt;
    }

pub returns-in_err-check_total : goal.returns-in_err-check_total
unfolding cells_verdict
returns-in_err-check_total c =
    let p = err_from_is_err_and c.from_residual-in_err-check_total.result c.from_residual-in_err-check_total.ensures.1 in
    record {
      answer_value = rw (p.1, p.2)
          (accepted-first _ c.in_ok-check_coupons.ensures
          (accepted-first _ c.in_ok-check_months.ensures
          (accepted-first _ c.in_ok-check_terms.ensures
          (accepted-first _ c.in_ok-check_columns.ensures
          (refusal-first _ _ c.in_err-check_total.ensures)))));
      sums_value = rw p.1 tt;
    }

pub returns-in_err-check_borrowings_total : goal.returns-in_err-check_borrowings_total
unfolding cells_verdict
returns-in_err-check_borrowings_total c =
    let p = err_from_is_err_and c.from_residual-in_err-check_borrowings_total.result c.from_residual-in_err-check_borrowings_total.ensures.1 in
    record {
      answer_value = rw (p.1, p.2)
          (accepted-first _ c.in_ok-check_coupons.ensures
          (accepted-first _ c.in_ok-check_months.ensures
          (accepted-first _ c.in_ok-check_terms.ensures
          (accepted-first _ c.in_ok-check_columns.ensures
          (accepted-first _ c.in_ok-check_total.ensures
          c.in_err-check_borrowings_total.ensures)))));
      sums_value = rw p.1 tt;
    }

pub returns : goal.returns
unfolding first_refusal accepted
returns c =
    record {
      answer_value = cells-in-turn _ c.in_ok-check_borrowings_total.ensures
          c.in_ok-check_total.ensures refl
          c.in_ok-check_columns.ensures refl
          c.in_ok-check_terms.ensures refl
          c.in_ok-check_months.ensures refl
          c.in_ok-check_coupons.ensures refl;
      sums_value = c.column_sums-sums.ensures;
    }
