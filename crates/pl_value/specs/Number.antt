-- Numbers that are read without a value in between.
use Rattle.std.specs.Prelude.{ℤ, Bool, true, false, Option, Some, None}
use Rattle.pl_base.specs.declared.value.Value.{Value}
use Rattle.pl_base.specs.declared.value.Value.TheVariants as v
use Rattle.pl_value.specs.declared.number.Kind.{Kind}
use Rattle.pl_value.specs.declared.number.Kind.TheVariants.{Nothing, Integer, Bigint}
use Rattle.pl_value.specs.declared.number.Number.{Number}
use Rattle.pl_value.specs.declared.number.Packed.{Packed}

-- an integer or a bigint
abbrev pub typed_value : Bool → ℤ → Value
typed_value true z = v.Int z
typed_value false z = v.Big z

-- a number as a value
abbrev pub number_value : Number → Value
number_value n = typed_value n.is_integer n.whole

abbrev pub of_kind : Kind → ℤ → Option Value
of_kind Nothing z = None
of_kind Integer z = Some (v.Int z)
of_kind Bigint z = Some (v.Big z)

-- a number or none, as a value or none
abbrev pub packed_value : Packed → Option Value
packed_value p = of_kind p.kind p.whole
