-- A variable that was found, if there is one.
use Rattle.std.specs.Prelude.{◌≡◌, ℕ, List, Option, Some, None, Ok, false}
use Rattle.pl_base.specs.declared.types.Ty.{Ty}
use Rattle.pl_base.specs.declared.types.Ty.TheVariants.{Unknown}
use Rattle.pl_catalog.specs.declared.object.Object.{Object}
use Rattle.pl_direct.specs.declared.search.Spot.{Spot}
use Rattle.pl_names.specs.Names.{Name, name_means}
use Rattle.pl_names.specs.declared.found.Meaning.{Meaning}
use Rattle.pl_names.specs.declared.scope.Scope.{Scope}
use Rattle.pl_scope.specs.Resolution.{standing}

abbrev pub column_of : Option Spot → ℕ
column_of (Some s) = s.column
column_of None = 0

abbrev pub ty_of : Option Spot → Ty
ty_of (Some s) = s.seen.now.ty
ty_of None = Unknown

-- what a name means that is this variable's alone
abbrev pub meaning_of : Spot → Meaning
meaning_of s = record { row = 0; column = s.column; ty = s.seen.now.ty; is_barred = false }

-- outside of queries the name means this variable, whatever the catalogue has
abbrev pub StandsFor : Name → Scope → Spot → Type 0
StandsFor x scope s = (objects : List Object) → name_means x (standing objects scope) ≡ Ok (meaning_of s)
