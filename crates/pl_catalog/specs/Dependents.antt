-- What keeps an object from being dropped: PostgreSQL manual, "Dependency Tracking".
use Rattle.std.specs.Prelude.{ℕ, Bool, false, ◌&&◌, ◌||◌, not, if◌then◌else◌}
use Rattle.std.specs.Prelude.{List, [], ◌∷◌, Option, None, Some}
use Rattle.std.specs.List.{list_any}
use Rattle.pl_base.specs.declared.types.Ty.{Ty}
use Rattle.pl_base.specs.declared.types.Ty.TheVariants as ty
use Rattle.pl_tree.specs.declared.command.Param.{Param}
use Rattle.pl_tree.specs.declared.command.ResultType.{ResultType}
use Rattle.pl_tree.specs.declared.command.ResultType.TheVariants as results
use Rattle.pl_catalog.specs.declared.object.Object.{Object}
use Rattle.pl_catalog.specs.declared.object.Object.TheVariants as object
use Rattle.pl_catalog.specs.declared.object.Routine.{Routine}
use Rattle.pl_catalog.specs.declared.object.Rule.{Rule}
use Rattle.pl_catalog.specs.declared.object.RuleKind.{RuleKind}
use Rattle.pl_catalog.specs.declared.object.RuleKind.TheVariants as kind
use Rattle.pl_catalog.specs.declared.object.Which.{Which}
use Rattle.pl_catalog.specs.declared.object.Which.TheVariants as which
use Rattle.pl_catalog.specs.Objects.{is_same, name_of}

abbrev pub is_row_of : List ℕ → Ty → Bool
is_row_of name (ty.Row table) = is_same table name
is_row_of name other = false

abbrev pub refers : List ℕ → RuleKind → Bool
refers name (kind.Foreign columns table targets) = is_same table name
refers name other = false

-- one of the rules is a foreign key to the table of this name
abbrev pub refers_to : List ℕ → List Rule → Bool
refers_to name rules = list_any (λ (r : Rule). refers name r.kind) rules

abbrev pub takes_row_of : List ℕ → List Param → Bool
takes_row_of name params = list_any (λ (p : Param). is_row_of name p.ty) params

abbrev pub gives_row_of : List ℕ → ResultType → Bool
gives_row_of name results.Absent = false
gives_row_of name (results.One t) = is_row_of name t
gives_row_of name (results.Set t) = is_row_of name t
gives_row_of name (results.Columns columns) = takes_row_of name columns

-- the table's row type is the type of a parameter or of the result
abbrev pub has_row_of : List ℕ → Routine → Bool
has_row_of name r = takes_row_of name r.heading.params || gives_row_of name r.heading.result

-- the second needs the first
abbrev pub depends : Which → Object → Bool
depends (which.Table name) (object.Table t) = not (is_same t.name name) && refers_to name t.rules
depends (which.Table name) (object.Routine r) = has_row_of name r
depends (which.Routine name) (object.Trigger t) = is_same t.routine name
depends w o = false

-- the name of the first object that needs this one
abbrev pub first_dependent : Which → List Object → Option (List ℕ)
first_dependent w [] = None
first_dependent w (o ∷ os) = if depends w o then Some (name_of o) else first_dependent w os
