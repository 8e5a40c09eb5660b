-- The number, the location and the price of the call on price lines keep the promise of `quote`. Assumes nothing.
use Prim.Native.Nat.{ℕ}
use mathlib.Core.Path.{◌≡◌, sym, ap, ◌∙◌}
use mathlib.Core.List.{List}
use borrow.Author.Tests.{eq-eqb, ne_eqb}
use lib.Ieee.{Float}
use Rattle.std.specs.Prelude.{Ok, Err}
use Rattle.answers.specs.declared.Refusal.{Refusal}
use Rattle.answers.specs.Answers.{number_of, location_of}
use Rattle.answers.specs.Verdict.{Verdict, accepted, refused}
use Rattle.answers.proofs.AnswerLaws.{refusal-refuses}
use Rattle.quote_lines.specs.declared.Reply.{Reply}
use Rattle.quote_lines.specs.declared.Reply.TheVariants.{Listed, Between, Outside}
use Rattle.quote_lines.specs.Lines.{lines_of}
use Rattle.quote_lines.specs.Replies.{reply_number, reply_price}
use Rattle.quote_lines.specs.Promise.{QuotedAs}
use Rattle.exports.specs.Priced.{verdict_on, PricedForC}

-- the number and the price of each reply
module _ (reply : Reply) (price before : Float) where
  pub listed-numbers : reply ≡ Listed price → (0 ≡ reply_number reply) × (price ≡ reply_price reply before)
  unfolding reply_number reply_price
  listed-numbers e = (rw e, rw e)

  pub between-numbers : reply ≡ Between price → (1 ≡ reply_number reply) × (price ≡ reply_price reply before)
  unfolding reply_number reply_price
  between-numbers e = (rw e, rw e)

pub outside-numbers : (reply : Reply) (before : Float) → reply ≡ Outside → (2 ≡ reply_number reply) × (before ≡ reply_price reply before)
unfolding reply_number reply_price
outside-numbers reply before e = (rw e, rw e)

module _ (months : List ℕ) (prices : List Float) (month scenario : ℕ) (before : Float) where
  -- a faulty line
  pub priced-refused : (r : Refusal) (number location : ℕ) → QuotedAs (lines_of months prices) month scenario (Err r) → number ≡ number_of r
      → location ≡ location_of r → PricedForC months prices month scenario before number location before
  unfolding refused
  priced-refused r number location p e f =
      let some : (verdict_on months prices).number ≡ 0 → ⊥ = rw (← p.answer-is) (refusal-refuses r) in
      let stays = ne_eqb (verdict_on months prices).number 0 some in
      record {
        number_is = rw stays (e ∙ ap (λ (v : Verdict). v.number) p.answer-is);
        location-is = f ∙ ap (λ (v : Verdict). v.location) p.answer-is;
        price-is = rw stays;
      }

  -- a reply
  pub priced-replied : (reply : Reply) (number : ℕ) (after : Float) → QuotedAs (lines_of months prices) month scenario (Ok reply)
      → number ≡ reply_number reply → after ≡ reply_price reply before → PricedForC months prices month scenario before number 0 after
  unfolding accepted
  priced-replied reply number after p e f =
      let taken = eq-eqb (verdict_on months prices).number 0 (sym (ap (λ (v : Verdict). v.number) p.answer-is)) in
      record {
        number_is = rw taken (e ∙ ap reply_number p.reply-is);
        location-is = ap (λ (v : Verdict). v.location) p.answer-is;
        price-is = rw taken (f ∙ ap (λ (r : Reply). reply_price r before) p.reply-is);
      }
