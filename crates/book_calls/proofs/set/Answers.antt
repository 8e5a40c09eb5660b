-- `set` meets its contract. Assumes nothing.
use mathlib.Core.Path.{◌≡◌, refl, sym, ◌∙◌}
use mathlib.Core.Bool.{true}
use Rattle.book_limits.specs.PlaceLimits.{fits_place}
use Rattle.book_promise.specs.Books.{valued_in}
use Rattle.book_promise.specs.Changes.{set_place, changed_place, fits_change, held_after}
use Rattle.book_promise.proofs.PlaceLaws.{fits-place, fits-balance, fits-limits}
use Rattle.book_promise.proofs.ChangeLaws.{change-refused, change-taken}
use Rattle.book_calls.proofs.set.Goals as goal

pub returns-then-not-fits : goal.returns-then-not-fits
unfolding fits_change changed_place held_after
returns-then-not-fits c =
    let a = c.args in
    record {
      changed = change-refused a.book.now (set_place a.place a.balance a.coupon a.months a.penalty) (sym c.fits.ensures ∙ c.if-not-fits.true) _ refl;
    }

pub values_in-values-requires : goal.values_in-values-requires
values_in-values-requires c =
    let fitting : fits_place c.args.place c.args.balance c.args.coupon
    c.args.months c.args.penalty
    ≡ true = sym c.fits.ensures ∙ c.if-not-fits.false in
    let fit = fitting in
    (fits-place _ _ _ _ _ fit, fits-balance _ _ _ _ _ fit, fits-limits _ _ _ _ _ fit)

pub put_place-requires : goal.put_place-requires
put_place-requires c =
    let fitting : fits_place c.args.place c.args.balance c.args.coupon
    c.args.months c.args.penalty
    ≡ true = sym c.fits.ensures ∙ c.if-not-fits.false in
    fits-place _ _ _ _ _ fitting

pub returns : goal.returns
unfolding fits_change changed_place held_after valued_in
returns c =
    let fitting : fits_place c.args.place c.args.balance c.args.coupon
    c.args.months c.args.penalty
    ≡ true = sym c.fits.ensures ∙ c.if-not-fits.false in
    let a = c.args in
    record {
      changed = change-taken a.book.now (set_place a.place a.balance a.coupon a.months a.penalty) fitting _
          (c.put_place.ensures ∙ rw c.values_in-values.ensures);
    }
