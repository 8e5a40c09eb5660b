-- An accepted filing and a filing with only its surviving cells are treated alike by every call that reads a filing. Assumes nothing.
use Prim.Native.Nat.{ℕ, ◌≤◌}
use native.Mathlib.Nat.{le_refl}
use mathlib.Core.Path.{◌≡◌, sym, ap, ◌∙◌}
use mathlib.Core.Bool.{false}
use mathlib.Core.List.{List}
use borrow.Author.Tests.{ltb-false, le-ltb}
use lib.Dec.{leb, ltb, lit<}
use lib.ListN.{length}
use Rattle.std.specs.Prelude.{Result, Ok, Err}
use Rattle.lists.proofs.OrderLaws.{leb-iff}
use Rattle.answers.specs.Verdict.{accepted, refused_if, first_refusal}
use Rattle.record_kinds.specs.Kinds.{yields_kind, flat_rates_kind, rate_path_kind, libor_kind}
use Rattle.record_verdicts.specs.RecordVerdicts.{first_faulty, verdict_by}
use Rattle.filing_decode.specs.Contents.{sheet_offset, contents_of}
use Rattle.filing_contents.specs.Contents.{Contents}
use Rattle.filing.specs.RequiredSheets.{sheet_missing, sheet_verdict, libor_missing, libor_verdict}
use Rattle.filing.specs.Verdict.{contents_verdict, filing_verdict, Accepted}
use Rattle.filing.specs.Readings.{read_over, read_contents}
use Rattle.filing.proofs.VerdictLaws.{accepted-passed}
use Rattle.share_list.specs.Outcomes.{split_verdict, split_accepts}
use Rattle.share_list.specs.Split.{places_after}
use Rattle.valuation.specs.Promise.{verdict_on, list_after, borrowings_after}
use Rattle.book_state.specs.declared.Book.{Book}
use Rattle.book_promise.specs.Books.{opened_book}
use Rattle.book_promise.specs.Changes.{book_after_all}
use Rattle.withdrawal.specs.declared.Incentive.{Incentive}
use Rattle.withdrawal.specs.declared.ReachedTier.{ReachedTier}
use Rattle.withdrawal_filing.specs.declared.tier_search.NoTier.{NoTier}
use Rattle.withdrawal_filing.specs.declared.tier_search.NoTier.TheVariants.{Refused, TooLarge}
use Rattle.withdrawal_filing.specs.TierAnswers.{TierAnswered}
use Rattle.text.specs.Lines.{filing_limit}
use Rattle.text_listing.specs.Listing.{scenario_lines, verdict_text, filing_text, listing_text}
use Rattle.text_listing.specs.BorrowingListing.{borrowing_lines, borrowings_text}
use Rattle.theorem_survivors.specs.Survivors.{Surviving}
use Rattle.theorem_survivors.specs.Alike.{Alike, SurvivorsAlike}
use Rattle.theorem_survivors.proofs.SurvivorLaws.{survivors-say}

-- a test that is the same of two pairs, turned round
turned : (a b c d : ℕ) → ltb a b ≡ ltb c d → leb b a ≡ leb d c
turned a b c d e =
    leb-iff b a d c (λ l. ltb-false c d (sym e ∙ le-ltb a b l)) (λ l. ltb-false a b (e ∙ le-ltb c d l))

-- where no record is faulty, no sheet is missing and no LIBOR sheet is due (02:CR 8), the verdict is that on the cells
on-cells : (s : List ℕ) → first_faulty s ≡ length s → sheet_missing s ≡ false → libor_missing s ≡ false
    → filing_verdict s ≡ contents_verdict (contents_of s)
unfolding filing_verdict verdict_by sheet_verdict libor_verdict refused_if first_refusal accepted
on-cells s none there libor = rw (none, there, libor) (simp (le-ltb (length s) (length s) (le_refl (length s))))

module _ (s t : List ℕ) (a : Accepted s) (u : Surviving s t) where
  -- the same sheets are missing: none
  missing-same : sheet_missing t ≡ sheet_missing s
  unfolding sheet_missing
  missing-same =
      rw (
        turned (sheet_offset t yields_kind) (length t) (sheet_offset s yields_kind) (length s) (u.same-sheets yields_kind (lit< tt)),
        turned (sheet_offset t flat_rates_kind) (length t) (sheet_offset s flat_rates_kind) (length s) (u.same-sheets flat_rates_kind (lit< tt)),
        turned (sheet_offset t rate_path_kind) (length t) (sheet_offset s rate_path_kind) (length s) (u.same-sheets rate_path_kind (lit< tt)),
      )

  says : contents_of t ≡ contents_of s
  says = survivors-say s t u

  -- the LIBOR sheet is missing in both or in neither, and both borrow the same
  libor-same : libor_missing t ≡ libor_missing s
  unfolding libor_missing
  libor-same =
      rw (turned (sheet_offset t libor_kind) (length t) (sheet_offset s libor_kind) (length s) (u.same-sheets libor_kind (lit< tt)), says)

  -- the verdict on t is that on its cells, which are those of s
  also-accepted : Accepted t
  also-accepted =
      let passed = accepted-passed s a in
      on-cells t u.sound (missing-same ∙ passed.none-missing) (libor-same ∙ passed.libor-there)
      ∙ ap (λ (k : Contents). contents_verdict k) says
      ∙ sym (on-cells s passed.none-faulty passed.none-missing passed.libor-there)
      ∙ a

  verdict-same : filing_verdict t ≡ filing_verdict s
  verdict-same = also-accepted ∙ sym a

  opened-same : opened_book t ≡ opened_book s
  unfolding opened_book read_contents read_over
  opened-same = rw (verdict-same, says)

  tier-same : (x : Incentive) (answer : Result ReachedTier NoTier) → TierAnswered s x answer → TierAnswered t x answer
  unfolding TierAnswered
  tier-same x (Ok tier) h = rw (verdict-same, says) h
  tier-same x (Err (Refused r)) h = rw verdict-same h
  tier-same x (Err TooLarge) h = rw verdict-same h

  -- neither is too long, and so each has the text of its verdict and of what it says
  text_same : (lines : Contents → List ℕ) → length s ≤ filing_limit → length t ≤ filing_limit → filing_text lines t ≡ filing_text lines s
  unfolding filing_text verdict_text
  text_same lines l m = rw (le-ltb filing_limit (length t) m, le-ltb filing_limit (length s) l, verdict-same, says)

  -- Each call sees only the verdict on the filing and what the filing says, and these are the same
  alike : Alike s t
  unfolding verdict_on list_after borrowings_after split_verdict split_accepts places_after listing_text borrowings_text
  alike =
      record {
        accepted-too = also-accepted;
        same-contents = says;
        same-verdict = λ list borrowings. rw verdict-same;
        same-list = λ list borrowings. rw (verdict-same, says);
        same-borrowings = λ list borrowings. rw (verdict-same, says);
        same-split = λ size. rw verdict-same;
        same-places = λ before. rw (verdict-same, says);
        same-opened = opened-same;
        same-book = λ changes. ap (λ (b : Book). book_after_all b changes) opened-same;
        same-tier = tier-same;
        same_text = text_same scenario_lines;
        same-borrowings-text = text_same borrowing_lines;
      }

pub survivors-alike : SurvivorsAlike
unfolding SurvivorsAlike
survivors-alike = alike
