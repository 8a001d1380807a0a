use Rattle.std.proofs.Common.{◌≡◌, ◌∙◌, refl, sym, ap, List, [], Option, Some, None}
use Rattle.pl_calc.specs.Functions.{function_named}
use Rattle.pl_calc.specs.declared.functions.Builtin.{Builtin}
use Rattle.pl_catalog.specs.Objects.{routine_named}
use Rattle.pl_catalog.specs.declared.object.Routine.{Routine}
use Rattle.pl_names.specs.Names.{Name, Around}
use Rattle.pl_names.specs.Routines.{called, called_by, routine_called}
use Rattle.pl_typing.specs.Functions as typing
use Rattle.pl_typing.specs.Functions.{function_called}
use Rattle.pl_typing.specs.declared.calls.Arguments.{Arguments}
use Rattle.pl_names.proofs.laws.without_routines_a_call_is_built_in.Goals as goal

by_name : (found : Option Builtin) (name : Name) (all : Arguments) (a : Around) → a.routines ≡ []
    → function_called name all ≡ typing.called_by found name all
    → called_by found name all a ≡ function_called name all
by_name (Some f) name all a none same = refl
by_name None name all a none same =
    ap (λ (rs : List Routine). routine_called (routine_named name rs) name all) none ∙ sym same

pub returns : goal.returns
unfolding called function_called
returns c = λ name all a none. by_name (function_named name) name all a none refl
