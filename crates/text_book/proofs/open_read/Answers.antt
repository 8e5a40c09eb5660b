-- `open_read` meets its contract. Assumes nothing.
use mathlib.Core.Path.{◌≡◌}
use lib.ListN.{take}
use Rattle.std.proofs.lemmas.List.{take_min}
use Rattle.text_book.proofs.open_read.Goals as goal

pub returns : goal.returns
returns c =
    let read : take c.min.result c.args.input.now ≡ take c.args.size c.args.input.now = rw (c.min.ensures, ← c.told-input) (take_min c.args.size c.args.input.now) in
    record { opened = rw read at c.open_book.ensures.opened }
