-- The functions' types: PostgreSQL manual, "Function Type Resolution", "Mathematical Functions and
-- Operators", "String Functions and Operators".
use Rattle.std.specs.Prelude.{List, [], ◌∷◌, Option, Some, None, Ok}
use Rattle.pl_base.specs.declared.operator.Arithmetic.TheVariants.{Remainder}
use Rattle.pl_base.specs.declared.operator.Operator.TheVariants.{Plus, Arithmetic}
use Rattle.pl_base.specs.declared.types.Ty.{Ty}
use Rattle.pl_base.specs.declared.types.Ty.TheVariants.{Int, Text}
use Rattle.pl_calc.specs.Answer.{undefined_function}
use Rattle.pl_calc.specs.Functions.{function_named}
use Rattle.pl_calc.specs.Types.{operator_type}
use Rattle.pl_calc.specs.declared.functions.Builtin.{Builtin}
use Rattle.pl_calc.specs.declared.functions.Builtin.TheVariants.{Abs, Mod, Length, Upper, Lower}
use Rattle.pl_calc.specs.declared.functions.Builtin.TheVariants.{Btrim, Substr, Strpos, Replace}
use Rattle.pl_calc.specs.declared.functions.Builtin.TheVariants.{Repeat}
use Rattle.pl_resolved.specs.declared.expression.Combination.TheVariants.{Function}
use Rattle.pl_resolved.specs.declared.expression.RExpr.TheVariants.{Combined}
use Rattle.pl_typing.specs.declared.calls.Arguments.{Arguments}
use Rattle.pl_typing.specs.declared.functions.Signature.{Signature}
use Rattle.pl_typing.specs.declared.typed.Typed.{Typed}
use Rattle.pl_typing.specs.Calls.{fitted}
use Rattle.pl_typing.specs.Resolved.{Resolved, ◌>>=◌}
use Rattle.pl_typing.specs.Typing.{Name, headed, settled}

abbrev pub taking : List Ty → Ty → Signature
taking takes gives = record { takes = takes; gives = gives }

-- a number of either type
abbrev pub signature_of_abs : List Ty → Resolved Signature
signature_of_abs (ty ∷ []) = operator_type Plus ty ty >>= (λ gives. Ok (taking (gives ∷ []) gives))
signature_of_abs given = undefined_function

-- as the operator %
abbrev pub signature_of_mod : List Ty → Resolved Signature
signature_of_mod (a ∷ b ∷ []) = operator_type (Arithmetic Remainder) a b >>= (λ gives.
    Ok (taking (settled a b ∷ settled b a ∷ []) gives))
signature_of_mod given = undefined_function

-- the count of characters may be left out
abbrev pub signature_of_substr : List Ty → Signature
signature_of_substr (a ∷ b ∷ []) = taking (Text ∷ Int ∷ []) Text
signature_of_substr given = taking (Text ∷ Int ∷ Int ∷ []) Text

-- what a function takes and gives, where arguments of these types are given
abbrev pub signature_of : Builtin → List Ty → Resolved Signature
signature_of Abs given = signature_of_abs given
signature_of Mod given = signature_of_mod given
signature_of Length given = Ok (taking (Text ∷ []) Int)
signature_of Upper given = Ok (taking (Text ∷ []) Text)
signature_of Lower given = Ok (taking (Text ∷ []) Text)
signature_of Btrim given = Ok (taking (Text ∷ []) Text)
signature_of Substr given = Ok (signature_of_substr given)
signature_of Strpos given = Ok (taking (Text ∷ Text ∷ []) Int)
signature_of Replace given = Ok (taking (Text ∷ Text ∷ Text ∷ []) Text)
signature_of Repeat given = Ok (taking (Text ∷ Int ∷ []) Text)

abbrev pub called : Builtin → Name → Arguments → Resolved Typed
called f name all = signature_of f all.types >>= (λ s. fitted all s.takes >>= (λ list.
    Ok (headed (Combined (Function f) list) s.gives name)))

abbrev pub called_by : Option Builtin → Name → Arguments → Resolved Typed
called_by (Some f) name all = called f name all
called_by None name all = undefined_function

unfoldable pub function_called : Name → Arguments → Resolved Typed
function_called name all = called_by (function_named name) name all
