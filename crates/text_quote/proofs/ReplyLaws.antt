-- The lines of the replies: a sound price is a number, and each reply has its line. Assumes nothing.
use mathlib.Core.Path.{◌≡◌, sym, ap, ◌∙◌, subst}
use mathlib.Core.Bool.{true, false, not}
use borrow.Author.Tests.{not-true}
use lib.Dec.{T}
use lib.Ieee.{Float, nan, inf, fin, lt, is_nan, of_int}
use Rattle.quote_prices.specs.PriceLines.{faulty_price}
use Rattle.quote_lines.specs.declared.Reply.{Reply}
use Rattle.quote_lines.specs.declared.Reply.TheVariants.{Listed, Between}
use Rattle.quote_lines.specs.Promise.{sound_reply}

-- a price that is not faulty is a number
pub sound-number : (p : Float) → faulty_price p ≡ false → T (not (is_nan p))
unfolding faulty_price lt of_int is_nan
sound-number nan h = absurd (subst T h tt)
sound-number (inf s) h = tt
sound-number (fin s m e) h = tt

module _ (reply : Reply) (price : Float) (sound : sound_reply reply ≡ true) where
  pub listed-number : reply ≡ Listed price → T (not (is_nan price))
  unfolding sound_reply
  listed-number e = sound-number price (not-true (faulty_price price) (sym (ap sound_reply e) ∙ sound))

  pub between-number : reply ≡ Between price → T (not (is_nan price))
  unfolding sound_reply
  between-number e = sound-number price (not-true (faulty_price price) (sym (ap sound_reply e) ∙ sound))
