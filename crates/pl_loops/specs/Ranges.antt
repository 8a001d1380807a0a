-- How the code counts the numbers of a FOR; no definition.
use Rattle.std.specs.Prelude.{FitsSigned, ◌≡◌, ℤ, List, [], ◌∷◌, Option, Some, None}
use Rattle.std.specs.Int.{w32}
use Rattle.std.specs.List.{AllByRecursion}
use Rattle.pl_loops.specs.declared.ranges.Counting.{Counting}
use Rattle.pl_engine.specs.pl_world.Control.{counted_from}

abbrev pub numbers_in : Counting → List ℤ
numbers_in r = counted_from r.first r.step r.count

-- each is an integer of PL/pgSQL
abbrev pub AreIntegers : List ℤ → Type 0
AreIntegers zs = AllByRecursion (FitsSigned w32) zs

-- the first of these numbers is given, and the others are left
abbrev pub Gives : List ℤ → Option ℤ → List ℤ → Type 0
Gives zs None left = zs ≡ []
Gives zs (Some z) left = zs ≡ z ∷ left
