-- `scan` meets its contract. The loop's invariant: the certificates before k pass, and the sums are theirs. Assumes nothing.
use Prim.Native.Nat.{ℕ, ◌<◌}
use native.Mathlib.Omega.{arith}
use mathlib.Core.Path.{ap}
use lib.ListN.{get_or}
use Rattle.std.proofs.lemmas.Result.{err_from_is_err_and}
use Rattle.certificate_terms.specs.Terms.{certificate_count}
use Rattle.certificate_terms.proofs.FaultLaws.{remaining-one, remaining-le-original, sound-position}
use Rattle.certificates.proofs.ScanLaws.{scan-start, scan-all, balance-at-le, coupon-at-le, months-at-le, position-same, scan-own, scan-sound, scan-over, scan-next}
use Rattle.certificates.proofs.certificate_sums.scan.Goals as goal

pub loop-k-init : goal.loop-k-init
loop-k-init c = let zeros = c.default-totals.ensures in scan-start _ _ _ zeros.0 zeros.1.0 zeros.1.1

-- certificate k is refused by itself and those before it pass: its refusal is the first of all
pub returns-in_err-check-clause-answer_value : goal.returns-in_err-check-clause-answer_value
unfolding certificate_count
returns-in_err-check-clause-answer_value c =
    let passed = err_from_is_err_and c.from_residual.result c.from_residual.ensures.1 in
    rw (passed.1, passed.2) (scan-own _ _ _ _ c.loop-k.invariant c.loop-k-test.true _ c.of_list-certificate.ensures _ c.in_err-check.ensures)

pub months_to-months-requires-clause-from_value : goal.months_to-months-requires-clause-from_value
unfolding certificate_count
months_to-months-requires-clause-from_value c =
    let sound = scan-sound _ _ _ _ c.loop-k.invariant c.loop-k-test.true _ c.of_list-certificate.ensures c.in_ok-check.ensures in
    sound.valuation-day

pub months_to-months-requires-clause-to_value : goal.months_to-months-requires-clause-to_value
unfolding certificate_count
months_to-months-requires-clause-to_value c =
    let sound = scan-sound _ _ _ _ c.loop-k.invariant c.loop-k-test.true _ c.of_list-certificate.ensures c.in_ok-check.ensures in
    sound.maturity-day

pub months_to-original-requires-clause-from_value : goal.months_to-original-requires-clause-from_value
unfolding certificate_count
months_to-original-requires-clause-from_value c =
    let sound = scan-sound _ _ _ _ c.loop-k.invariant c.loop-k-test.true _ c.of_list-certificate.ensures c.in_ok-check.ensures in
    sound.issue-day

pub months_to-original-requires-clause-to_value : goal.months_to-original-requires-clause-to_value
unfolding certificate_count
months_to-original-requires-clause-to_value c =
    let sound = scan-sound _ _ _ _ c.loop-k.invariant c.loop-k-test.true _ c.of_list-certificate.ensures c.in_ok-check.ensures in
    sound.maturity-day

pub position_of-position-requires-clause-le_remaining : goal.position_of-position-requires-clause-le_remaining
unfolding certificate_count
position_of-position-requires-clause-le_remaining c =
    let sound = scan-sound _ _ _ _ c.loop-k.invariant c.loop-k-test.true _ c.of_list-certificate.ensures c.in_ok-check.ensures in
    rw c.months_to-months.ensures (remaining-one _ _ sound, sound.months-le)

pub position_of-position-requires-clause-remaining_le_original : goal.position_of-position-requires-clause-remaining_le_original
unfolding certificate_count
position_of-position-requires-clause-remaining_le_original c =
    let sound = scan-sound _ _ _ _ c.loop-k.invariant c.loop-k-test.true _ c.of_list-certificate.ensures c.in_ok-check.ensures in
    rw (c.months_to-months.ensures, c.months_to-original.ensures) (remaining-le-original _ _ sound)

pub offset_bounds-totals-position : goal.offset_bounds-totals-position
unfolding certificate_count
offset_bounds-totals-position c =
    let sound = scan-sound _ _ _ _ c.loop-k.invariant c.loop-k-test.true _ c.of_list-certificate.ensures c.in_ok-check.ensures in
    let at = position-same c.args.valuation c.args.certificates.now c.of_list-certificate.result c.position_of-position.ensures c.months_to-months.ensures c.months_to-original.ensures in
    let inside : c.position_of-position.result < 9 = rw at (sound-position _ _ sound) in
    omega arith

pub bounds-totals-position : goal.bounds-totals-position
unfolding certificate_count
bounds-totals-position c =
    let sound = scan-sound _ _ _ _ c.loop-k.invariant c.loop-k-test.true _ c.of_list-certificate.ensures c.in_ok-check.ensures in
    let at = position-same c.args.valuation c.args.certificates.now c.of_list-certificate.result c.position_of-position.ensures c.months_to-months.ensures c.months_to-original.ensures in
    let inside : c.position_of-position.result < 9 = rw at (sound-position _ _ sound) in
    inside

pub overflow_add-totals : goal.overflow_add-totals
unfolding certificate_count
overflow_add-totals c =
    let sound = scan-sound _ _ _ _ c.loop-k.invariant c.loop-k-test.true _ c.of_list-certificate.ensures c.in_ok-check.ensures in
    let at = position-same c.args.valuation c.args.certificates.now c.of_list-certificate.result c.position_of-position.ensures c.months_to-months.ensures c.months_to-original.ensures in
    let inside : c.position_of-position.result < 9 = rw at (sound-position _ _ sound) in
    omega (arith, balance-at-le _ _ _ _ c.loop-k.invariant _ inside, sound.balance-le)

-- certificate k passes by itself, but its position's sum with it is over the limit, and those before it pass: 5 at k
pub returns-then-totals-position-gt-BALANCE_LIMIT-clause-answer_value : goal.returns-then-totals-position-gt-BALANCE_LIMIT-clause-answer_value
unfolding certificate_count
returns-then-totals-position-gt-BALANCE_LIMIT-clause-answer_value c =
    let at = position-same c.args.valuation c.args.certificates.now c.of_list-certificate.result c.position_of-position.ensures c.months_to-months.ensures c.months_to-original.ensures in
    let summed = ap (λ (i : ℕ). get_or c.loop-k.totals.balance i 0) at in
    scan-over _ _ _ _ c.loop-k.invariant c.loop-k-test.true _ c.of_list-certificate.ensures c.in_ok-check.ensures (rw summed at c.if-totals-position-gt-BALANCE_LIMIT.true)

-- a sound certificate's position is one of nine, its coupon and months are within their limits; the weighted sums so far are within those of the balances
pub add-requires-clause-position_bound : goal.add-requires-clause-position_bound
unfolding certificate_count
add-requires-clause-position_bound c =
    let sound = scan-sound _ _ _ _ c.loop-k.invariant c.loop-k-test.true _ c.of_list-certificate.ensures c.in_ok-check.ensures in
    let at = position-same c.args.valuation c.args.certificates.now c.of_list-certificate.result c.position_of-position.ensures c.months_to-months.ensures c.months_to-original.ensures in
    let inside : c.position_of-position.result < 9 = rw at (sound-position _ _ sound) in
    inside

pub add-requires-clause-coupon_le_filed_coupon_limit : goal.add-requires-clause-coupon_le_filed_coupon_limit
unfolding certificate_count
add-requires-clause-coupon_le_filed_coupon_limit c =
    let sound = scan-sound _ _ _ _ c.loop-k.invariant c.loop-k-test.true _ c.of_list-certificate.ensures c.in_ok-check.ensures in
    (sound.coupon-le, rw c.months_to-months.ensures sound.months-le)

pub add-requires-clause-position_bound_2 : goal.add-requires-clause-position_bound_2
unfolding certificate_count
add-requires-clause-position_bound_2 c =
    let sound = scan-sound _ _ _ _ c.loop-k.invariant c.loop-k-test.true _ c.of_list-certificate.ensures c.in_ok-check.ensures in
    let at = position-same c.args.valuation c.args.certificates.now c.of_list-certificate.result c.position_of-position.ensures c.months_to-months.ensures c.months_to-original.ensures in
    let inside : c.position_of-position.result < 9 = rw at (sound-position _ _ sound) in
    coupon-at-le _ _ _ _ c.loop-k.invariant _ inside

pub add-requires-clause-position_bound_3 : goal.add-requires-clause-position_bound_3
unfolding certificate_count
add-requires-clause-position_bound_3 c =
    let sound = scan-sound _ _ _ _ c.loop-k.invariant c.loop-k-test.true _ c.of_list-certificate.ensures c.in_ok-check.ensures in
    let at = position-same c.args.valuation c.args.certificates.now c.of_list-certificate.result c.position_of-position.ensures c.months_to-months.ensures c.months_to-original.ensures in
    let inside : c.position_of-position.result < 9 = rw at (sound-position _ _ sound) in
    months-at-le _ _ _ _ c.loop-k.invariant _ inside

pub loop-k-preserved : goal.loop-k-preserved
unfolding certificate_count
loop-k-preserved c =
    let at = position-same c.args.valuation c.args.certificates.now c.of_list-certificate.result c.position_of-position.ensures c.months_to-months.ensures c.months_to-original.ensures in
    let summed = ap (λ (i : ℕ). get_or c.loop-k.totals.balance i 0) at in
    let next = scan-next _ _ _ _ c.loop-k.invariant c.loop-k-test.true _ c.of_list-certificate.ensures c.in_ok-check.ensures (rw summed at c.if-totals-position-gt-BALANCE_LIMIT.false) in
    rw (c.add.ensures, c.months_to-months.ensures, at) next

pub returns-clause-answer_value : goal.returns-clause-answer_value
unfolding certificate_count
returns-clause-answer_value c = (scan-all _ _ c.loop-k.k c.loop-k.totals c.loop-k.invariant c.loop-k-test.false).0

pub returns-clause-totals_value : goal.returns-clause-totals_value
unfolding certificate_count
returns-clause-totals_value c = (scan-all _ _ c.loop-k.k c.loop-k.totals c.loop-k.invariant c.loop-k-test.false).1
