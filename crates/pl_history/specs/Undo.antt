-- How a change of numbers at places is undone.
use Rattle.std.specs.Prelude.{ℕ, ◌-◌, List, Option, length, take, slice_set}
use Rattle.pl_history.specs.declared.pairs.Change.{Change}
use Rattle.pl_history.specs.declared.pairs.Change.TheVariants.{Pushed, Set}

abbrev pub undo_one : Change → List (Option ℕ) → List (Option ℕ)
undo_one Pushed numbers = take (length numbers - 1) numbers
undo_one (Set at number) numbers = slice_set numbers at number
