-- The aggregates' types: PostgreSQL manual, "Aggregate Functions".
use Rattle.std.specs.Prelude.{ℕ, List, [], ◌∷◌, Option, Some, None, Ok, codes, bytes_eq}
use Rattle.std.specs.List.{find}
use Rattle.pl_base.specs.declared.types.Ty.{Ty}
use Rattle.pl_base.specs.declared.types.Ty.TheVariants.{Unknown, Int, Big, Text, Bool as Boolean}
use Rattle.pl_calc.specs.Answer.{undefined_function}
use Rattle.pl_resolved.specs.declared.query.Aggregate.{Aggregate}
use Rattle.pl_resolved.specs.declared.query.Aggregate.TheVariants.{CountRows, Count, Sum, Min, Max}
use Rattle.pl_resolved.specs.declared.query.Aggregate.TheVariants.{BoolAnd, BoolOr, StringAgg}
use Rattle.pl_typing.specs.declared.aggregates.TypedAggregate.{TypedAggregate}
use Rattle.pl_typing.specs.declared.calls.Arguments.{Arguments}
use Rattle.pl_typing.specs.declared.functions.Signature.{Signature}
use Rattle.pl_typing.specs.Calls.{fitted}
use Rattle.pl_typing.specs.Functions.{taking}
use Rattle.pl_typing.specs.Resolved.{Resolved, ◌>>=◌}
use Rattle.pl_typing.specs.Typing.{Name, as_text_type}

-- a name and its aggregate
abbrev pub Named : Type 0
Named = List ℕ × Aggregate

abbrev pub aggregates : List Named
aggregates =
    (codes "count", Count) ∷ (codes "sum", Sum) ∷ (codes "min", Min) ∷ (codes "max", Max)
    ∷ (codes "bool_and", BoolAnd) ∷ (codes "bool_or", BoolOr) ∷ (codes "string_agg", StringAgg)
    ∷ []

abbrev pub aggregate_of : Option Named → Option Aggregate
aggregate_of (Some row) = Some row.1
aggregate_of None = None

-- the aggregate of this name
abbrev pub aggregate_named : Name → Option Aggregate
aggregate_named name = aggregate_of (find (λ (row : Named). bytes_eq name row.0) aggregates)

-- a value of any type
abbrev pub signature_of_count : List Ty → Resolved Signature
signature_of_count (ty ∷ []) = Ok (taking (as_text_type ty ∷ []) Big)
signature_of_count given = undefined_function

-- a number of either type
abbrev pub signature_of_sum : List Ty → Resolved Signature
signature_of_sum (Int ∷ []) = Ok (taking (Int ∷ []) Big)
signature_of_sum (Big ∷ []) = Ok (taking (Big ∷ []) Big)
signature_of_sum given = undefined_function

-- a number or a text
abbrev pub signature_of_least : List Ty → Resolved Signature
signature_of_least (Int ∷ []) = Ok (taking (Int ∷ []) Int)
signature_of_least (Big ∷ []) = Ok (taking (Big ∷ []) Big)
signature_of_least (Text ∷ []) = Ok (taking (Text ∷ []) Text)
signature_of_least (Unknown ∷ []) = Ok (taking (Text ∷ []) Text)
signature_of_least given = undefined_function

-- what an aggregate takes and gives, where arguments of these types are given
abbrev pub signature_of : Aggregate → List Ty → Resolved Signature
signature_of CountRows given = Ok (taking [] Big)
signature_of Count given = signature_of_count given
signature_of Sum given = signature_of_sum given
signature_of Min given = signature_of_least given
signature_of Max given = signature_of_least given
signature_of BoolAnd given = Ok (taking (Boolean ∷ []) Boolean)
signature_of BoolOr given = Ok (taking (Boolean ∷ []) Boolean)
signature_of StringAgg given = Ok (taking (Text ∷ Text ∷ []) Text)

unfoldable pub aggregated : Aggregate → Arguments → Resolved TypedAggregate
aggregated kind all = signature_of kind all.types >>= (λ s. fitted all s.takes >>= (λ list.
    Ok (record { aggregate = record { aggregate = kind; arguments = list }; ty = s.gives })))
