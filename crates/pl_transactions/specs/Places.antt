-- The place of a savepoint by its name.
use Rattle.std.specs.Prelude.{ℕ, List, [], ◌∷◌, Option, None, bytes_eq}
use Rattle.pl_command.specs.pl_world.Sessions.{later}

-- that of the newest one of this name
abbrev pub place_in : (name : List ℕ) → List (List ℕ) → Option ℕ
place_in name [] = None
place_in name (other ∷ others) = later (place_in name others) (bytes_eq other name)
