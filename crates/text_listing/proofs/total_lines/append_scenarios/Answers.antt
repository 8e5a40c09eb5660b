-- `append_scenarios` has room for each line that remains, and appends 623 bytes at most. Assumes nothing.
use mathlib.Core.Path.{refl, ap}
use native.Mathlib.Omega.{arith}
use lib.ListN.{length, length-append}
use Rattle.std.proofs.Common.{rules}
use Rattle.text_listing.specs.TotalLines.{lines_in}
use Rattle.text_listing.proofs.TotalLineLaws.{lines_next, lines_length}
use Rattle.text_listing.proofs.total_lines.append_scenarios.Goals as goal

pub loop-scenario-init : goal.loop-scenario-init
unfolding lines_in
loop-scenario-init g c = refl

pub append_scenario-requires : goal.append_scenario-requires
append_scenario-requires g c =
    let a = c.args in
    let next = lines_next a.numbers.now a.from a.each c.loop-scenario.scenario (omega arith) in
    let all = lines_length a.numbers.now a.from a.each c.requires.0 (λ i. omega (arith, c.type_inv.numbers i)) in (
      search rules,
      (
        omega (arith, all, simp length-append at (ap length next), simp length-append at (ap length c.loop-scenario.invariant)),
        c.requires.0,
        c.requires.2,
        omega arith,
      ),
    )

pub returns-clause-short : goal.returns-clause-short
returns-clause-short g c =
    let a = c.args in
    let all = lines_length a.numbers.now a.from a.each c.requires.0 (λ i. omega (arith, c.type_inv.numbers i)) in
    omega (arith, all, simp length-append at (ap length c.loop-scenario.invariant))
