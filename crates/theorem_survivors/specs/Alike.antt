-- "The valuation is that of the filing with only the surviving cells" (02:CR 6): what it says of each call that reads a filing. Definitions only.
use Rattle.std.specs.Prelude.{ℕ, ◌≤◌, ◌≡◌, Result, List, length, get_or}
use Rattle.filing.specs.Verdict.{Accepted}
use Rattle.filing_decode.specs.Contents.{contents_of}
use Rattle.form.specs.declared.sub_balances.SubBalance.{SubBalance}
use Rattle.share_list.specs.Outcomes.{split_verdict}
use Rattle.share_list.specs.Split.{places_after}
use Rattle.valuation.specs.Promise.{verdict_on, list_after, borrowings_after}
use Rattle.book_promise.specs.Books.{opened_book}
use Rattle.book_promise.specs.Changes.{Change, book_after_all}
use Rattle.withdrawal.specs.declared.Incentive.{Incentive}
use Rattle.withdrawal.specs.declared.ReachedTier.{ReachedTier}
use Rattle.withdrawal_filing.specs.declared.tier_search.NoTier.{NoTier}
use Rattle.withdrawal_filing.specs.TierAnswers.{TierAnswered}
use Rattle.text.specs.Lines.{filing_limit}
use Rattle.text_listing.specs.Listing.{listing_text}
use Rattle.text_listing.specs.BorrowingListing.{borrowings_text}
use Rattle.theorem_survivors.specs.Survivors.{Surviving}
use Rattle.theorem_survivors.specs.Composed.{only_survivors}

-- t is accepted, and each call that reads a filing does with t what it does with s
pub record Alike (s t : List ℕ) : Type 0 where
  pub accepted-too : Accepted t
  -- they say the same: cells, CD yields, rates, LIBOR yields and tiers, and so every exact value and exact total, which are made of these
  pub same-contents : contents_of t ≡ contents_of s
  -- valuing: the verdict, and the two lists after the call, that of the certificates and that of the borrowings (02:CR 8), for any two that are lent
  pub same-verdict : (list borrowings : List ℕ) → verdict_on t list borrowings ≡ verdict_on s list borrowings
  pub same-list : (list borrowings : List ℕ) → list_after t list borrowings ≡ list_after s list borrowings
  pub same-borrowings : (list borrowings : List ℕ) → borrowings_after t list borrowings ≡ borrowings_after s list borrowings
  -- splitting: the verdict, by the size of the list, and the places after the call, for any list that is lent
  pub same-split : (size : ℕ) → split_verdict t size ≡ split_verdict s size
  pub same-places : (before : List SubBalance) → places_after t before ≡ places_after s before
  -- the book that is opened, and the book after any sequence of changes
  pub same-opened : opened_book t ≡ opened_book s
  pub same-book : (changes : List Change) → book_after_all (opened_book t) changes ≡ book_after_all (opened_book s) changes
  -- the answer on an incentive, which is a tier of the filing (02:CR 2)
  pub same-tier : (x : Incentive) (answer : Result ReachedTier NoTier) → TierAnswered s x answer → TierAnswered t x answer
  -- the texts that the listing and the program of the borrowings (02:CR 8) print, where neither is too long for them
  pub same_text : length s ≤ filing_limit → length t ≤ filing_limit → listing_text t ≡ listing_text s
  pub same-borrowings-text : length s ≤ filing_limit → length t ≤ filing_limit → borrowings_text t ≡ borrowings_text s

-- an accepted filing and a filing with only its surviving cells are treated alike
unfoldable pub SurvivorsAlike : Type 0
SurvivorsAlike = (s t : List ℕ) → Accepted s → Surviving s t → Alike s t

-- the filing that is composed of the surviving records of s is such a filing; it is no longer than s, and of bytes where s is, so that it can be handed to
-- any call that takes s
pub record ComposedAlike (s : List ℕ) : Type 0 where
  pub surviving : Surviving s (only_survivors s)
  pub alike : Alike s (only_survivors s)
  pub not-longer : length (only_survivors s) ≤ length s
  pub of-bytes : ((i : ℕ) → get_or s i 0 ≤ 255) → (i : ℕ) → get_or (only_survivors s) i 0 ≤ 255

-- for every accepted filing
unfoldable pub OnlySurvivorsAlike : Type 0
OnlySurvivorsAlike = (s : List ℕ) → Accepted s → ComposedAlike s
