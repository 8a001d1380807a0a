-- Numbers and truths that go into variables.
use Rattle.std.specs.Prelude.{◌≡◌, true, false, Ok}
use Rattle.pl_base.specs.declared.types.Ty.{Ty}
use Rattle.pl_base.specs.declared.value.Value.{Value}
use Rattle.pl_calc.specs.Casts.{cast_to, is_assignable}
use Rattle.pl_calc.specs.Logic.{is_null}
use Rattle.pl_direct.specs.Known.{value_of}
use Rattle.pl_direct.specs.declared.known.Known.{Known}

-- an assignment takes it as one of this type; that is this value, and it isn't null
pub record Fits (k : Known) (ty : Ty) (v : Value) : Type 0 where
  pub is_taken : is_assignable (value_of k) ty ≡ true
  pub is_value : cast_to (value_of k) ty ≡ Ok v
  pub not_null : is_null v ≡ false
