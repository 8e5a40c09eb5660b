-- A run of elements written into a list. Definitions only.
use Rattle.std.specs.Prelude.{ℕ, ◌+◌, List, ◌++◌, length, take, drop}

-- the list with a run written from an index on: what stands before it, the run, and what stands behind it
unfoldable pub written {ℓ} : {A : Type ℓ} → List A → ℕ → List A → List A
written l at run = take at l ++ run ++ drop (at + length run) l
