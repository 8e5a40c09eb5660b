-- A closed case of what the book's call shows, so that a wrong clause of its definition breaks it: the balance total first, then the totals. Assumes nothing.
use mathlib.Core.Path.{◌≡◌, refl}
use mathlib.Core.List.{[], ◌∷◌}
use Rattle.book_state.specs.declared.Book.{Book}
use Rattle.exports.specs.Changed.{shown_of}

-- a book with a balance total of 7 and the totals 1 to 4
abbrev book : Book
book =
    record {
      places = [];
      balance = 7;
      totals = 1 ∷ 2 ∷ 3 ∷ 4 ∷ [];
      rates = [];
      tiers = record { count = 0; edges = []; withdrawals = [] };
      factors = record { lower = []; upper = [] };
    }

shown-hold : shown_of book ≡ 7 ∷ 1 ∷ 2 ∷ 3 ∷ 4 ∷ []
unfolding shown_of
shown-hold = refl
