-- What is made of values that were read: PostgreSQL manual, "Conditional Expressions", "Row and
-- Array Comparisons", "Comparison Functions and Operators".
use Rattle.std.specs.Prelude.{ℕ, zero, suc, Bool, false, ◌||◌, if◌then◌else◌, List, [], ◌∷◌}
use Rattle.std.specs.Prelude.{Ok, Err}
use Rattle.pl_base.specs.States.{UNDEFINED_FUNCTION}
use Rattle.pl_base.specs.declared.operator.Operator.{Operator}
use Rattle.pl_base.specs.declared.operator.Operator.TheVariants.{Compare}
use Rattle.pl_base.specs.declared.operator.Comparison.{Comparison}
use Rattle.pl_base.specs.declared.operator.Comparison.TheVariants as cmp
use Rattle.pl_base.specs.declared.types.Ty.{Ty}
use Rattle.pl_base.specs.declared.value.Field.{Field, roll-Field}
use Rattle.pl_base.specs.declared.value.Value.{Value}
use Rattle.pl_base.specs.declared.value.Value.TheVariants.{Null, Bool as Truth, Row as RowOf}
use Rattle.pl_calc.specs.Answer.{Answer}
use Rattle.pl_calc.specs.Casts.{cast_to}
use Rattle.pl_calc.specs.Functions.{applied}
use Rattle.pl_calc.specs.Logic.{conjunction, is_null}
use Rattle.pl_calc.specs.Operators.{binary_value, unary_value}
use Rattle.pl_resolved.specs.declared.expression.Combination.{Combination}
use Rattle.pl_resolved.specs.declared.expression.Combination.TheVariants as made

-- what follows a value, if there is one
abbrev pub then_answer : Answer → (Value → Answer) → Answer
then_answer (Ok v) k = k v
then_answer (Err state) k = Err state

-- an operator on one operand, so many times
unfoldable pub repeated : Operator → ℕ → Value → Answer
repeated op zero v = Ok v
repeated op (suc n) v = then_answer (unary_value op v) (repeated op n)

-- a cast to each type in turn
abbrev pub cast_through : List Ty → Value → Answer
cast_through [] v = Ok v
cast_through (ty ∷ types) v = then_answer (cast_to v ty) (cast_through types)

-- a truth passes only if it is true
abbrev pub is_true : Value → Bool
is_true (Truth b) = b
is_true v = false

-- `=`
abbrev pub equals : Value → Value → Answer
equals x y = binary_value (Compare cmp.Equal) x y

-- NULLIF
abbrev pub nullif : Value → Value → Answer
nullif a b = then_answer (equals a b) (λ t. Ok (if is_true t then Null else a))

-- BETWEEN
abbrev pub between : Value → Value → Value → Answer
between x low high =
    then_answer (binary_value (Compare cmp.GreaterOrEqual) x low) (λ a.
    then_answer (binary_value (Compare cmp.LessOrEqual) x high) (λ b. conjunction a b))

-- the one of two values that the comparison prefers; a null is left aside
abbrev pub better : Comparison → Value → Value → Answer
better op a b =
    if is_null b then Ok a else if is_null a then Ok b else
    then_answer (binary_value (Compare op) b a) (λ t. Ok (if is_true t then b else a))

-- GREATEST and LEAST: the best of the values, each cast to the type
abbrev pub best : Comparison → Ty → Value → List Value → Answer
best op to so_far [] = Ok so_far
best op to so_far (v ∷ vs) =
    then_answer (then_answer (cast_to v to) (better op so_far)) (λ b. best op to b vs)

-- IN: true at the first value that equals, each cast to the type; else null if a comparison was
abbrev pub among : Ty → Value → Bool → List Value → Answer
among to x has_null [] = Ok (if has_null then Null else Truth false)
among to x has_null (v ∷ vs) =
    then_answer (then_answer (cast_to v to) (equals x)) (λ t.
    if is_true t then Ok t else among to x (has_null || is_null t) vs)

abbrev pub is_in : Ty → Value → List Value → Answer
is_in to x vs = then_answer (cast_to x to) (λ x. among to x false vs)

-- what is made of the values of all operands
abbrev pub combined : Combination → List Value → Answer
combined (made.Function f) vs = applied f vs
combined (made.Greatest to) vs = best cmp.Greater to Null vs
combined (made.Least to) vs = best cmp.Less to Null vs
combined made.NullIf (a ∷ b ∷ []) = nullif a b
combined made.Between (x ∷ low ∷ high ∷ []) = between x low high
combined (made.In to) (x ∷ vs) = is_in to x vs
combined c vs = Err UNDEFINED_FUNCTION

-- the fields of ROW, which have no names
abbrev pub fields : List Ty → List Value → List Field
fields (ty ∷ types) (v ∷ vs) =
    roll-Field (record { name = []; ty = ty; value = v }) ∷ fields types vs
fields types vs = []

-- ROW
abbrev pub row_value : List Ty → List Value → Value
row_value types vs = RowOf (fields types vs)
