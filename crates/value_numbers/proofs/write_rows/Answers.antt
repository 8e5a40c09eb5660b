-- `value_numbers::write_rows` meets its contract: the rows of the places passed are written. Assumes nothing.
use Prim.Native.Nat.{◌+◌, ◌*◌, ◌<◌}
use mathlib.Core.List.{[]}
use mathlib.Core.Path.{◌≡◌, refl, ap, ◌∙◌}
use native.Mathlib.Omega.{arith}
use Rattle.lists.specs.Tables.{table_from, table, joined}
use Rattle.lists.proofs.RunLaws.{Overwritten, overwritten-none, overwritten-row}
use Rattle.form.specs.PlaceOrder.{sub_balance_count}
use Rattle.form.specs.Counts.{place_number_count}
use Rattle.filing_contents.specs.Contents.{Contents, rates_in, contents_in}
use Rattle.value_numbers.specs.Numbers.{place_numbers}
use Rattle.shares.specs.Places.{places_of}
use Rattle.value_places.specs.Inner.LongestTerm.{longest_term}
use Rattle.withdrawal_filing.proofs.FilingTierLaws.{filed-limits}
use Rattle.value_numbers.proofs.NumberLaws.{row-length}
use Rattle.value_places.proofs.HeldLaws.{yields_within, rates-within}
use Rattle.price_deposits.proofs.LevelLaws.{lent}
use Rattle.value_numbers.proofs.RowLaws.{prepared, longest-limit, held-limits, tables, row_is}
use Rattle.value_numbers.proofs.write_rows.Goals as goal

pub tiers_of-tiers-requires : goal.tiers_of-tiers-requires
tiers_of-tiers-requires c =
    let contents : Contents = contents_in c.args.cells.now c.args.sheets.now c.args.filed in
    filed-limits contents c.requires.0

pub places_of-places-requires : goal.places_of-places-requires
places_of-places-requires c =
    (c.requires.0.of-cells, c.requires.1)

pub discount_tables-requires : goal.discount_tables-requires
discount_tables-requires c =
    let contents : Contents = contents_in c.args.cells.now c.args.sheets.now c.args.filed in
    let longest-is : c.longest_term-longest.result ≡ longest_term (places_of contents.cells) = c.longest_term-longest.ensures ∙ ap longest_term c.places_of-places.ensures in
    (rw c.row_used-yields.ensures.0 (yields_within contents c.requires.0), omega (arith, c.row_used-yields.ensures.1), rw longest-is (longest-limit contents c.requires.0), refl, refl)

pub loop-place-init : goal.loop-place-init
unfolding table_from joined
loop-place-init c = (c.requires.2, λ filed p. overwritten-none _)

pub row_of-row-requires : goal.row_of-row-requires
unfolding rates_in
row_of-row-requires c =
    let contents : Contents = contents_in c.args.cells.now c.args.sheets.now c.args.filed in
    let more : c.loop-place.place < sub_balance_count = omega arith in
    let ready = prepared contents c.requires.0 c.tiers_of-tiers.ensures c.places_of-places.ensures c.row_used-yields.ensures.0 c.longest_term-longest.ensures
    c.discount_tables.ensures.0 c.discount_tables.ensures.1 in
    let held = held-limits _ _ _ _ _ ready c.loop-place.place more in
    record { place_lt_sub_balance_count = (more, held.0, held.1); within_rates = (rates-within _ ready.valid, omega arith, lent _ ready.usable); discounting = tables _ _ _ _ _ ready c.loop-place.place more }

pub write-requires : goal.write-requires
write-requires c =
    let contents : Contents = contents_in c.args.cells.now c.args.sheets.now c.args.filed in
    let ready = prepared contents c.requires.0 c.tiers_of-tiers.ensures c.places_of-places.ensures c.row_used-yields.ensures.0 c.longest_term-longest.ensures
    c.discount_tables.ensures.0 c.discount_tables.ensures.1 in
    let written : Overwritten (joined (table c.loop-place.place (place_numbers contents)))
    (place_number_count * c.loop-place.place) c.args.list.now c.loop-place.list = c.loop-place.invariant.1 _ ready in
    omega (arith, written.as_long)

-- the row of the place is written behind those before it, for every filing that the code is prepared for
pub loop-place-preserved : goal.loop-place-preserved
unfolding rates_in
loop-place-preserved c =
    let state = c.loop-place in
    let more : state.place < sub_balance_count = omega arith in (
      state.invariant.0,
      λ filed p. rw c.write.ensures (overwritten-row [] (place_numbers _) place_number_count (row-length _) state.place (place_number_count * state.place) (place_number_count * (state.place + 1))
          _ state.list c.row_of-row.result (state.invariant.1 filed p)
          (c.row_of-row.ensures.value (lent _ p.usable) ∙ row_is _ _ _ _ _ p state.place more) (omega (arith, more)) (omega (arith, more, state.invariant.0))),
    )

pub shape_of-list : goal.shape_of-list
shape_of-list c =
    let contents : Contents = contents_in c.args.cells.now c.args.sheets.now c.args.filed in
    let ready = prepared contents c.requires.0 c.tiers_of-tiers.ensures c.places_of-places.ensures c.row_used-yields.ensures.0 c.longest_term-longest.ensures
    c.discount_tables.ensures.0 c.discount_tables.ensures.1 in
    let written : Overwritten (joined (table c.loop-place.place (place_numbers contents)))
    (place_number_count * c.loop-place.place) c.args.list.now c.loop-place.list = c.loop-place.invariant.1 _ ready in
    written.as_long

pub returns : goal.returns
returns c =
    let contents : Contents = contents_in c.args.cells.now c.args.sheets.now c.args.filed in
    let ready = prepared contents c.requires.0 c.tiers_of-tiers.ensures c.places_of-places.ensures c.row_used-yields.ensures.0 c.longest_term-longest.ensures
    c.discount_tables.ensures.0 c.discount_tables.ensures.1 in
    let written : Overwritten (joined (table c.loop-place.place (place_numbers contents)))
    (place_number_count * c.loop-place.place) c.args.list.now c.loop-place.list = c.loop-place.invariant.1 _ ready in
    let e : c.loop-place.place ≡ sub_balance_count = omega arith in
    written.is ∙ rw e
