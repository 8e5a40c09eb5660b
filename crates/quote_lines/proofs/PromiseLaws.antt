-- The promise of a query: every price that accepted lines reply is sound, and the record of the promise. Assumes nothing.
use Prim.Native.Nat.{ℕ, zero, suc, ◌+◌, ◌-◌, ◌*◌, ◌^◌, ◌<◌}
use native.Mathlib.Omega.{arith}
use mathlib.Core.Path.{◌≡◌, refl, sym, ap, subst}
use mathlib.Core.Logic.{⊎_elim}
use mathlib.Core.Bool.{Bool, true, false}
use mathlib.Core.List.{List}
use borrow.Author.Tests.{eqb-true, eqb-false}
use lib.Dec.{T, eqb}
use lib.Ieee.{Float, nan, binary64, fits}
use lib.ListN.{length, get_or}
use Rattle.lists.proofs.OrderLaws.{lt-or-le}
use Rattle.lists.proofs.TableLaws.{table-get_or}
use Rattle.form.specs.Shift.{scenario_count}
use Rattle.std.specs.Prelude.{Ok, Err}
use Rattle.answers.specs.declared.Refusal.{Refusal}
use Rattle.answers.specs.Verdict.{Verdict, accepted, refused}
use Rattle.answers.specs.Answers.{number_of, location_of}
use Rattle.quote_prices.specs.declared.PriceLine.{PriceLine}
use Rattle.quote_prices.specs.PriceLines.{price_in, faulty_price}
use Rattle.quote_lines.specs.declared.Reply.{Reply}
use Rattle.quote_lines.specs.declared.Reply.TheVariants.{Listed, Between, Outside}
use Rattle.quote_lines.specs.Lines.{line_at, months_at, line_in, lines_of}
use Rattle.quote_lines.specs.Faults.{lines_verdict}
use Rattle.quote_lines.specs.Replies.{reached_line, reply_of}
use Rattle.quote_lines.specs.Accepted.{InFormat}
use Rattle.quote_lines.specs.Promise.{sound_reply, QuotedAs}
use Rattle.quote_lines.proofs.LineLaws.{lines-length, line-is}
use Rattle.quote_lines.proofs.FaultLaws.{accepted-prices}
use Rattle.quote_lines.proofs.ReplyLaws.{Found, reply-no-scenario, reply-past, reply-listed, month-until, reply-before, month-since, reply-between}
use Rattle.quote_lines.proofs.AcceptedLaws.{neighbour-prices}

-- the lines of two lists are in their format where the numbers of the lists are
pub lines-format : (months : List ℕ) (prices : List Float) → ((i : ℕ) → get_or months i 0 < 2 ^ 16) → ((i : ℕ) → T (fits binary64 (get_or prices i nan)))
    → InFormat (lines_of months prices)
unfolding line_in
lines-format months prices m p =
    record {
      months-fit = λ i h. omega (arith, m i, ap (λ (l : PriceLine). l.months) (line-is months prices i (rw (lines-length months prices) at h)));
      prices-fit = λ i scenario h s.
          subst (λ (l : PriceLine). T (fits binary64 (price_in l scenario))) (sym (line-is months prices i (rw (lines-length months prices) at h)))
          (rw (table-get_or scenario_count _ scenario nan s) (p (scenario_count * i + scenario)));
    }

-- ---- the replies of accepted lines
abbrev Sound : Reply → Type 0
Sound r = sound_reply r ≡ true

sound-outside : Sound Outside
unfolding sound_reply
sound-outside = refl

sound-listed : (p : Float) → faulty_price p ≡ false → Sound (Listed p)
unfolding sound_reply
sound-listed p h = rw h

sound-between : (p : Float) → faulty_price p ≡ false → Sound (Between p)
unfolding sound_reply
sound-between p h = rw h

module _ (lines : List PriceLine) (taken : (lines_verdict lines).number ≡ 0) (format : InFormat lines) (month scenario : ℕ) (s : scenario < scenario_count) where
  -- by the line that is reached first, and whether it lists the month
  by-line : (i : ℕ) → Found lines month scenario i (line_at lines i) → (b : Bool) → eqb (months_at lines i) month ≡ b → Sound (reply_of lines month scenario)
  by-line i f true t = subst Sound (reply-listed _ _ _ i _ f (eqb-true _ _ t)) (sound-listed _ (accepted-prices lines taken i f.within scenario s))
  by-line zero f false t = subst Sound (reply-before _ _ _ 0 _ f (eqb-false _ _ t) refl) sound-outside
  by-line (suc i) f false t =
      let e : suc i - 1 ≡ i = omega arith in
      let short = eqb-false _ _ t in
      let later : suc i ≡ 0 → ⊥ = λ z. absurd (omega arith) in
      let since = month-since _ _ _ (suc i) _ f short later (line_at lines i) (rw e) in
      let until = month-until _ _ _ (suc i) _ f short in
      subst Sound (reply-between _ _ _ (suc i) _ f short later (line_at lines i) (rw e))
      (sound-between _ (neighbour-prices lines taken format i month scenario f.within since until s).sound)

  sound-there : Sound (reply_of lines month scenario)
  sound-there =
      let i = reached_line lines month in
      ⊎_elim (λ h. by-line i (record { reached = refl; within = h; there = s; is = refl }) (eqb (months_at lines i) month) refl)
      (λ h. subst Sound (reply-past lines month scenario i refl s h) sound-outside) (lt-or-le i (length lines))

accepted-sound : (lines : List PriceLine) → (lines_verdict lines).number ≡ 0 → InFormat lines → (month scenario : ℕ) → sound_reply (reply_of lines month scenario) ≡ true
accepted-sound lines taken format month scenario =
    ⊎_elim (λ s. sound-there lines taken format month scenario s) (λ h. subst Sound (reply-no-scenario lines month scenario h) sound-outside)
    (lt-or-le scenario scenario_count)

-- ---- the promise
module _ (lines : List PriceLine) (month scenario : ℕ) where
  -- refused lines
  pub quoted-refused : (r : Refusal) → refused (number_of r) (location_of r) ≡ lines_verdict lines → QuotedAs lines month scenario (Err r)
  quoted-refused r e = record { answer-is = e; reply-is = tt; price-is = tt }

  -- accepted lines
  pub quoted-accepted : (reply : Reply) → accepted ≡ lines_verdict lines → InFormat lines → reply ≡ reply_of lines month scenario
      → QuotedAs lines month scenario (Ok reply)
  unfolding accepted
  quoted-accepted reply e format r =
      record { answer-is = e; reply-is = r; price-is = rw r (accepted-sound lines (ap (λ (v : Verdict). v.number) (sym e)) format month scenario) }
