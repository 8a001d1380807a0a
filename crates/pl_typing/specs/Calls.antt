-- Calls: PostgreSQL manual, "Function Type Resolution".
use Rattle.std.specs.Prelude.{List, [], ◌∷◌, ◌++◌, Ok, Bool, true, false, ◌&&◌, bytes_eq}
use Rattle.std.specs.Prelude.{if◌then◌else◌}
use Rattle.pl_base.specs.declared.types.Ty.{Ty}
use Rattle.pl_base.specs.declared.types.Ty.TheVariants.{Unknown, Int, Big, Text, Bool as Boolean}
use Rattle.pl_base.specs.declared.types.Ty.TheVariants.{Row, Rec}
use Rattle.pl_calc.specs.Answer.{undefined_function}
use Rattle.pl_resolved.specs.declared.expression.RExpr.{RExpr}
use Rattle.pl_resolved.specs.declared.expression.RExpr.TheVariants as r
use Rattle.pl_typing.specs.declared.calls.Arguments.{Arguments}
use Rattle.pl_typing.specs.declared.typed.Typed.{Typed}
use Rattle.pl_typing.specs.Headings.{row_heading}
use Rattle.pl_typing.specs.Resolved.{Resolved}
use Rattle.pl_typing.specs.Typing as typing
use Rattle.pl_typing.specs.Typing.{as_text_type, headed}

abbrev pub no_arguments : Arguments
no_arguments = record { list = []; types = [] }

abbrev pub argument_with : Arguments → Typed → Arguments
argument_with done x = record { list = done.list ++ x.tree ∷ []; types = done.types ++ x.ty ∷ [] }

-- ---- ROW

-- behind those there are; a field that has no type is a text
abbrev pub field_types : List Ty → List Ty → List Ty
field_types done [] = done
field_types done (ty ∷ types) = field_types (done ++ as_text_type ty ∷ []) types

unfoldable pub row_of : Arguments → Typed
row_of all = headed (r.Row all.list (field_types [] all.types)) Rec row_heading

-- ---- arguments as they are taken

-- a value of the first type goes as one of the second with no cast written
abbrev pub goes_as : Ty → Ty → Bool
goes_as Unknown to = true
goes_as Int Int = true
goes_as Int Big = true
goes_as Big Big = true
goes_as Text Text = true
goes_as Boolean Boolean = true
goes_as Rec Rec = true
goes_as (Row from) (Row to) = bytes_eq from to
goes_as from to = false

-- one for one
abbrev pub all_go : List Ty → List Ty → Bool
all_go [] [] = true
all_go (ty ∷ types) (to ∷ wanted) = goes_as ty to && all_go types wanted
all_go types wanted = false

abbrev pub as_type : Ty → Ty → RExpr → RExpr
as_type = typing.as_type

-- behind those there are
abbrev pub cast_each : List RExpr → List Ty → List Ty → List RExpr → List RExpr
cast_each done [] wanted list = done
cast_each done (ty ∷ types) [] list = done
cast_each done (ty ∷ types) (to ∷ wanted) [] = done
cast_each done (ty ∷ types) (to ∷ wanted) (x ∷ list) =
    cast_each (done ++ as_type ty to x ∷ []) types wanted list

unfoldable pub fitted : Arguments → List Ty → Resolved (List RExpr)
fitted all wanted =
    if all_go all.types wanted then Ok (cast_each [] all.types wanted all.list)
    else undefined_function
