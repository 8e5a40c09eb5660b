-- `position_of` meets its contract, row by row. Assumes nothing.
use native.Mathlib.Omega.{arith}
use mathlib.Core.Path.{sym}
use Rattle.certificate_terms.specs.Terms.{column_of}
use Rattle.certificate_terms.proofs.PositionLaws.{column-is, row_one, row-two, row-three, row-four}
use Rattle.certificate_terms.proofs.position_of.Goals as goal

pub overflow_sub-result : goal.overflow_sub-result
overflow_sub-result c = omega (arith, (column-is c.args.original).least, c.column_of-column.ensures)

pub overflow_add-result : goal.overflow_add-result
overflow_add-result c = omega (arith, (column-is c.args.original).most, c.column_of-column.ensures)

pub overflow_add-result-in-13-to-36 : goal.overflow_add-result-in-13-to-36
overflow_add-result-in-13-to-36 c = omega (arith, (column-is c.args.original).most, c.column_of-column.ensures)

pub overflow_add-result-in_default : goal.overflow_add-result-in_default
overflow_add-result-in_default c = omega (arith, (column-is c.args.original).most, c.column_of-column.ensures)

pub returns-in-0-to-3 : goal.returns-in-0-to-3
returns-in-0-to-3 c = let a = c.args in
    let j = column-is a.original in
    rw c.column_of-column.ensures (sym (row_one a.remaining (column_of a.original) c.requires.le_remaining.0 (omega arith) j.least j.most))

pub returns-in-4-to-12 : goal.returns-in-4-to-12
returns-in-4-to-12 c = let a = c.args in
    let j = column-is a.original in
    rw c.column_of-column.ensures (sym (row-two a.remaining (column_of a.original) (omega arith) (omega arith) j.least j.most))

pub returns-in-13-to-36 : goal.returns-in-13-to-36
returns-in-13-to-36 c = let a = c.args in
    let j = column-is a.original in
    rw c.column_of-column.ensures (sym (row-three a.remaining (column_of a.original) (omega arith) (omega arith) (j.second (omega arith)) j.most))

pub returns-in_default : goal.returns-in_default
returns-in_default c = let a = c.args in
    let j = column-is a.original in
    rw c.column_of-column.ensures (sym (row-four a.remaining (column_of a.original) (omega arith) c.requires.le_remaining.1 (j.third (omega arith)) j.most))
