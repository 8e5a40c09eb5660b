-- A book that is set to the thirty-six shares of an accepted filing shows that filing's totals. Assumes nothing.
use Prim.Native.Nat.{ℕ, zero, suc, ◌+◌, ◌*◌, ◌/◌, ◌%◌, ◌≤◌, ◌<◌}
use mathlib.Core.Path.{◌≡◌, refl, sym, ◌∙◌}
use mathlib.Core.Bool.{Bool, true, false, cond}
use mathlib.Core.List.{List, [], ◌∷◌, ◌++◌}
use mathlib.Core.Logic.{inr, ⊎_elim}
use native.Mathlib.Nat.{le_trans, le_refl, le_of_lt, lt-suc_self, lt_of_lt_of_le, pos_of_ne-zero, ne_of_gt, ne_of_lt, eq-or-lt_of_le, le_of_suc-le-suc, not-suc-le-zero}
use native.Mathlib.Omega.{arith}
use borrow.Author.Tests.{lt-ltb, le-leb, eqb-true, eqb-false}
use lib.Dec.{T, eqb, lit<}
use lib.ListN.{get_or, get_or-replicate}
use lib.Seq.{ext_get_or}
use Rattle.lists.specs.Sums.{everywhere}
use Rattle.lists.specs.Tables.{table, joined}
use Rattle.lists.proofs.EachLaws.{each-lt}
use Rattle.lists.proofs.TableLaws.{joined_length, joined-get_or}
use Rattle.lists.proofs.SumLaws.{sum_where-ext}
use Rattle.form.specs.Cells.{within_row, total_cell}
use Rattle.form.specs.Limits.{balance_limit, coupon_limit, penalty_limit}
use Rattle.answers.specs.Verdict.{accepted}
use Rattle.filing_decode.specs.Contents.{contents_of}
use Rattle.filing_contents.specs.Contents.{Contents, cell}
use Rattle.filing.specs.Verdict.{filing_verdict}
use Rattle.filing_contents.specs.Valid.{Valid}
use Rattle.form.specs.declared.sub_balances.SubBalance.{SubBalance}
use Rattle.form.specs.PlaceOrder.{position_of, with_penalty, is_short, is_long, sub_balance_count}
use Rattle.shares.specs.SubBalances.{balance_at, coupon_at, months_at, penalty_at}
use Rattle.form.specs.Places.{no_place}
use Rattle.form.specs.Shift.{scenario_count}
use Rattle.form.specs.Counts.{total_count}
use Rattle.shares.specs.Places.{place_at}
use Rattle.shares.proofs.SubBalanceLaws.{balance_at-le, balance_at-limit, balance_at-total}
use Rattle.pricing.specs.Scales.{value_scale}
use Rattle.pricing.specs.Rounding.{Rounding, down, up}
use Rattle.pricing.specs.Run.{worth_by, value_by}
use Rattle.pricing.proofs.RoundingLaws.{quotient-zero}
use Rattle.value_places.specs.PlaceTerms.{deposit_at, terms_held}
use Rattle.value_places.specs.HeldValues.{value_held}
use Rattle.value_places.proofs.PlaceTermsLaws.{penalty-le}
use Rattle.value_numbers.specs.Run.{value_at, total_by}
use Rattle.value_numbers.specs.Numbers.{scenario_totals}
use Rattle.value_numbers.proofs.NumberLaws.{scenario_totals-length}
use Rattle.book_state.specs.declared.Book.{Book}
use Rattle.book_limits.specs.PlaceLimits.{penalty_within, fits_place}
use Rattle.book_state.specs.BookPlaces.{held_in}
use Rattle.book_promise.specs.Books.{empty_book, opened_book, valued_in}
use Rattle.book_promise.specs.Changes.{Change, unvalued, changed_place, fits_change, held_after, book_after, book_after_all}
use Rattle.book_shares.specs.Shares.{share_set, share_change, share_changes, book_of_shares, ShowsTotals}
use Rattle.book_promise.specs.Promise.{balance_in, lower_in, upper_in, total_in, Kept, BookPromise}
use Rattle.book_promise.specs.Standing.{Holds, Standing}
use Rattle.book_promise.proofs.PlaceLaws.{fits-held}
use Rattle.book_promise.proofs.StandingLaws.{here, elsewhere}
use Rattle.book_promise.proofs.KeptLaws.{lower-is, upper_is}
use Rattle.book_promise.proofs.ChangeLaws.{book-promise}

-- a change behind a sequence
after_more : (b : Book) (cs ds : List Change) → book_after_all b (cs ++ ds) ≡ book_after_all (book_after_all b cs) ds
unfolding book_after_all
after_more b [] ds = refl
after_more b (c ∷ cs) ds = after_more (book_after b c) cs ds

-- what the paper's test says as an equation
true_of : (b : Bool) → T b → b ≡ true
true_of true t = refl
true_of false t = absurd t

none-or-limit : (t : Bool) (p : ℕ) → cond t p 0 ≤ penalty_limit → cond t p 0 ≤ cond t penalty_limit 0
none-or-limit true p l = l
none-or-limit false p l = le_refl 0

-- what a place holds that is set to its share, not valued
abbrev share : Contents → ℕ → SubBalance
share k place = unvalued (balance_at k.cells place) (coupon_at k.cells place) (months_at k.cells place) (penalty_at k.cells place)

-- a place takes its share
module _ (k : Contents) (v : Valid k) (place : ℕ) (h : place < sub_balance_count) (pos : 0 < balance_at k.cells place) where
  penalty-fits : penalty_within place (penalty_at k.cells place) ≡ true
  unfolding penalty_within penalty_at
  penalty-fits = le-leb _ _ (none-or-limit (with_penalty place) _ (penalty-le k v place h))

  months-fit : within_row (position_of place).row (months_at k.cells place) ≡ true
  unfolding months_at position_of
  months-fit =
      let w = v.of-cells in
      true_of _ (w.months-in-row (place / 4) (omega arith) (lt_of_lt_of_le pos (balance_at-le k.cells w.brokered-within w.penalized-within place h)))

  coupon-fits : coupon_at k.cells place ≤ coupon_limit
  unfolding coupon_at position_of
  coupon-fits = v.of-cells.coupon-limit (place / 4) (omega arith)

  -- each test passes: 1 <= share <= balance of its cell <= limit, and coupon, months and penalty are those of a valid filing's cells
  share-fits : fits_place place (balance_at k.cells place) (coupon_at k.cells place) (months_at k.cells place) (penalty_at k.cells place) ≡ true
  unfolding fits_place
  share-fits =
      rw (
        lt-ltb place sub_balance_count h,
        le-leb 1 (balance_at k.cells place) pos,
        le-leb (balance_at k.cells place) balance_limit (balance_at-limit k.cells v.of-cells place h),
        le-leb (coupon_at k.cells place) coupon_limit coupon-fits,
        months-fit,
        penalty-fits,
      )

-- what a place holds has the balance of its share and its values
abbrev Shows : Contents → ℕ → SubBalance → Type 0
Shows k place held = (held.balance ≡ balance_at k.cells place) × ((ρ : Rounding) (scenario : ℕ) → value_held ρ k scenario place held ≡ value_at ρ k scenario place)

-- nothing shows a share without balance
none-shows : (k : Contents) (place : ℕ) → balance_at k.cells place ≡ 0 → Shows k place no_place
unfolding value_at value_held value_by worth_by place_at
none-shows k place e = (sym e, λ ρ scenario. rw e (quotient-zero ρ _ value_scale (lit< tt) ∙ sym (quotient-zero ρ _ value_scale (lit< tt))))

-- a share that is set shows itself
set-shows : (k : Contents) (b : Book) (place : ℕ) → Shows k place (valued_in b place (share k place))
unfolding value_at value_held terms_held deposit_at place_at valued_in
set-shows k b place = (refl, λ ρ scenario. refl)

-- the first n places show their shares, and the others hold nothing
record Shown (k : Contents) (b : Book) (n : ℕ) : Type 0 where
  first : (i : ℕ) → i < n → Shows k i (held_in b i)
  others : (i : ℕ) → n ≤ i → i < sub_balance_count → held_in b i ≡ no_place

module _ (k : Contents) (b : Book) (stands : Standing k b) (n : ℕ) (h : n < sub_balance_count) (shown : Shown k b n) where
  -- no change where the share has no balance
  shown-none : balance_at k.cells n ≡ 0 → Shown k b (suc n)
  shown-none e =
      record {
        first = λ i l. ⊎_elim (λ q. rw q (rw (shown.others n (le_refl n) h) (none-shows k n e))) (λ m. shown.first i m) (eq-or-lt_of_le (le_of_suc-le-suc l));
        others = λ i l u. shown.others i (le_trans (le_of_lt (lt-suc_self n)) l) u;
      }

  -- a share with one is set: it fits, so that its place holds it, valued; the places before it hold their shares, and those behind it nothing,
  -- as before
  shown-set : 0 < balance_at k.cells n → Shown k (book_after b (share_set k.cells n)) (suc n)
  unfolding book_after fits_change changed_place held_after
  shown-set pos =
      rw (share-fits k stands.under.valid n h pos)
      (record {
        first = λ i l. ⊎_elim (λ q. rw q (rw (here k b stands n h held within) (set-shows k b n)))
            (λ m. rw (← elsewhere k b stands n h held within i (ne_of_lt m)) (shown.first i m)) (eq-or-lt_of_le (le_of_suc-le-suc l));
        others = λ i l u. sym (elsewhere k b stands n h held within i (ne_of_gt l)) ∙ shown.others i (le_trans (le_of_lt (lt-suc_self n)) l) u;
      })
    where
      held : SubBalance
      held = valued_in b n (share k n)

      within : Holds k n held
      within = inr (fits-held n _ _ _ _ (share-fits k stands.under.valid n h pos) k b stands.under)

-- an accepted filing
module _ (s : List ℕ) (a : filing_verdict s ≡ accepted) where
  abbrev k : Contents
  k = contents_of s

  -- the book with the first n shares set
  abbrev book : ℕ → Book
  book n = book_after_all (opened_book s) (share_changes k.cells n)

  kept : (n : ℕ) → Kept s (book n)
  unfolding BookPromise
  kept n = book-promise s a (share_changes k.cells n)

  -- one place more at a time: a share of 0 leaves the place as it was, holding nothing; any other is set there
  shown : (n : ℕ) → n ≤ sub_balance_count → Shown k (book n) n
  unfolding share_changes share_change book_after_all opened_book empty_book
  shown zero l = record { first = λ i h. absurd (not-suc-le-zero h); others = λ i h u. get_or-replicate sub_balance_count i no_place _ u }
  shown (suc n) l = rw (after_more (opened_book s) (share_changes k.cells n) (share_change k.cells n)) (by (shown n (le_of_lt l)) (eqb (balance_at k.cells n) 0) refl)
    where
      by : Shown k (book n) n → (t : Bool) → eqb (balance_at k.cells n) 0 ≡ t
          → Shown k (book_after_all (book n) (cond t [] (share_set k.cells n ∷ []))) (suc n)
      by before true e = shown-none k (book n) (kept n).standing n l before (eqb-true _ 0 e)
      by before false e = shown-set k (book n) (kept n).standing n l before (pos_of_ne-zero (eqb-false _ 0 e))

  -- the book with all shares set
  abbrev full : Book
  full = book sub_balance_count

  lower-share : (scenario : ℕ) → scenario < scenario_count → (place : ℕ) → place < sub_balance_count → lower_in full scenario place ≡ value_at down k scenario place
  lower-share scenario h place hp = lower-is k full (kept sub_balance_count).standing scenario h place hp ∙ ((shown sub_balance_count (le_refl sub_balance_count)).first place hp).1 down scenario

  upper-share : (scenario : ℕ) → scenario < scenario_count → (place : ℕ) → place < sub_balance_count → upper_in full scenario place ≡ value_at up k scenario place
  upper-share scenario h place hp = upper_is k full (kept sub_balance_count).standing scenario h place hp ∙ ((shown sub_balance_count (le_refl sub_balance_count)).first place hp).1 up scenario

  -- the four totals of a scenario: each kept total is the sum of the values of its rows' places, and each place has the values of its share
  total-share : (scenario : ℕ) → scenario < scenario_count → (r : ℕ) → r < 4 → total_in full r scenario ≡ get_or (scenario_totals k scenario) r 0
  unfolding scenario_totals total_by
  total-share scenario h =
      let now = kept sub_balance_count in
      each-lt 4 (λ r. total_in full r scenario ≡ get_or (scenario_totals k scenario) r 0) (
        now.short-lower scenario h ∙ sum_where-ext is_short _ _ sub_balance_count (lower-share scenario h),
        (
          now.short-upper scenario h ∙ sum_where-ext is_short _ _ sub_balance_count (upper-share scenario h),
          (
            now.long-lower scenario h ∙ sum_where-ext is_long _ _ sub_balance_count (lower-share scenario h),
            (now.long-upper scenario h ∙ sum_where-ext is_long _ _ sub_balance_count (upper-share scenario h), tt),
          ),
        ),
      )

  totals-shown : full.totals ≡ joined (table scenario_count (scenario_totals k))
  unfolding total_in
  totals-shown =
      ext_get_or 0 full.totals (joined (table scenario_count (scenario_totals k))) ((kept sub_balance_count).standing.totals-size ∙ sym (joined_length 4 0 scenario_count (scenario_totals k) (scenario_totals-length k)))
      (λ i h.
      let small : i < total_count = rw (kept sub_balance_count).standing.totals-size at h in
      let e : 4 * (i / 4) + i % 4 ≡ i = omega arith in
      rw e at (total-share (i / 4) (omega arith) (i % 4) (omega arith) ∙ sym (joined-get_or 4 scenario_count (scenario_totals k) (scenario_totals-length k) (i / 4) (i % 4) 0 (omega arith) (omega arith))))

  balance-shown : full.balance ≡ cell k total_cell
  unfolding balance_in
  balance-shown =
      (kept sub_balance_count).balance-total
      ∙ sum_where-ext everywhere _ (balance_at k.cells) sub_balance_count (λ place hp. ((shown sub_balance_count (le_refl sub_balance_count)).first place hp).0)
      ∙ balance_at-total k.cells (kept sub_balance_count).standing.under.valid.of-cells

pub shows-totals : ShowsTotals
unfolding ShowsTotals book_of_shares
shows-totals s a = (totals-shown s a, balance-shown s a)
