-- Nodes that a key of GROUP BY begins: `a + b` begins `a + b + 1`, `a::text` begins
-- `a::text::integer`, and `- a` begins `- - a`.
use Rattle.std.specs.Prelude.{ℕ, max, nat_le, Bool, true, false, ◌&&◌, ◌||◌, if◌then◌else◌}
use Rattle.std.specs.Prelude.{List, [], ◌∷◌, length, map}
use Rattle.pl_base.specs.declared.operator.Operator.{Operator}
use Rattle.pl_base.specs.declared.types.Ty.{Ty}
use Rattle.pl_resolved.specs.Layers.{ExprLayer}
use Rattle.pl_resolved.specs.declared.expression.RChain.{RChain, out-RChain}
use Rattle.pl_resolved.specs.declared.expression.RExpr.{RExpr, out-RExpr}
use Rattle.pl_resolved.specs.declared.expression.RExpr.TheOpen as l
use Rattle.pl_grouping.specs.Equality.{Is, OverTrees, same, same_step}
use Rattle.pl_grouping.specs.Words.{same_operator, same_type}

-- ---- chains

-- one for one, as far as the first list goes
abbrev pub all_begin : {A : Type 0} → List (Is A) → List A → Bool
all_begin [] xs = true
all_begin (is ∷ more) [] = false
all_begin (is ∷ more) (x ∷ xs) = is x && all_begin more xs

abbrev pub begins_chain : RChain → RChain → Bool
begins_chain key x =
    same (out-RChain key).first (out-RChain x).first
    && all_begin (map same_step (out-RChain key).steps) (out-RChain x).steps

-- how many steps of the chain the key has, where it begins it
abbrev pub steps_of_key : OverTrees ExprLayer → RChain → ℕ
steps_of_key (l.Chain key) x =
    if begins_chain key x then length (out-RChain key).steps else 0
steps_of_key key x = 0

-- the longest of the keys that begin it
abbrev pub steps_begun : List RExpr → RChain → ℕ
steps_begun [] x = 0
steps_begun (key ∷ keys) x = max (steps_of_key (out-RExpr key) x) (steps_begun keys x)

-- ---- casts

abbrev pub types_begin : List Ty → List Ty → Bool
types_begin [] types = true
types_begin (ty ∷ more) [] = false
types_begin (ty ∷ more) (other ∷ types) = same_type ty other && types_begin more types

abbrev pub begins_cast : OverTrees ExprLayer → RExpr → List Ty → Bool
begins_cast (l.Cast key types) x types' = types_begin types types' && same key x
begins_cast key x types' = false

abbrev pub is_begun_cast : List RExpr → RExpr → List Ty → Bool
is_begun_cast [] x types = false
is_begun_cast (key ∷ keys) x types =
    begins_cast (out-RExpr key) x types || is_begun_cast keys x types

-- ---- operators on one operand

abbrev pub begins_unary : OverTrees ExprLayer → Operator → ℕ → RExpr → Bool
begins_unary (l.Unary op n key) op' n' x = same_operator op op' && (nat_le n n' && same key x)
begins_unary key op' n' x = false

abbrev pub is_begun_unary : List RExpr → Operator → ℕ → RExpr → Bool
is_begun_unary [] op n x = false
is_begun_unary (key ∷ keys) op n x =
    begins_unary (out-RExpr key) op n x || is_begun_unary keys op n x
