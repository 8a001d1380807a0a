-- The names that a host or a script in memory was given.
use Rattle.std.specs.Prelude.{◌≡◌, ◌≤◌, ℕ, List, [], ◌∷◌, length}
use Rattle.pl_disk.specs.declared.attached.Attached.{Attached}
use Rattle.pl_disk.specs.declared.attached.Attached.TheVariants.{Nothing, Once, Lost, More}

-- These names, in order, may be all of them.
abbrev pub AreAttached : Attached → List (List ℕ) → Type 0
AreAttached Nothing names = names ≡ []
AreAttached (Once name) names = names ≡ name.items ∷ []
AreAttached Lost names = length names ≡ 1
AreAttached More names = 2 ≤ length names

-- Some name was given: none can't be all.
abbrev pub IsGiven : (List (List ℕ) → Type 0) → Type 0
IsGiven names = names [] → ⊥
