-- Aggregates: PostgreSQL manual, "Aggregate Functions". They skip nulls, and over none all but
-- count are null.
use Rattle.std.specs.Prelude.{ℤ, pos, ◌+ℤ◌, Bool, true, false, not, if◌then◌else◌, ℕ, List, [], ◌∷◌, ◌++◌}
use Rattle.std.specs.Prelude.{Ok, filter, fold, length}
use Rattle.std.specs.List.{flat_map, list_all, list_any, zip}
use Rattle.std.specs.Ordering.{is_lt}
use Rattle.std.specs.declared.cmp.Ordering.{Ordering}
use Rattle.pl_base.specs.declared.value.Value.{Value}
use Rattle.pl_base.specs.declared.value.Value.TheVariants.{Null, Int, Big, Text, Bool as Truth}
use Rattle.pl_calc.specs.Answer.{Answer}
use Rattle.pl_calc.specs.Casts.{text_within}
use Rattle.pl_calc.specs.Logic.{is_null}
use Rattle.pl_calc.specs.Numbers.{bigint}
use Rattle.pl_keys.specs.Order.{turned}
use Rattle.pl_resolved.specs.declared.query.Aggregate.{Aggregate}
use Rattle.pl_resolved.specs.declared.query.Aggregate.TheVariants.{CountRows, Count, Sum, Min, Max}
use Rattle.pl_resolved.specs.declared.query.Aggregate.TheVariants.{BoolAnd, BoolOr, StringAgg}

abbrev pub is_given : Value → Bool
is_given v = not (is_null v)

-- the values that are not null
abbrev pub given : List Value → List Value
given values = filter is_given values

-- a number; 0 of what is none
abbrev pub number : Value → ℤ
number (Int z) = z
number (Big z) = z
number v = pos 0

-- the sum without bound
abbrev pub total : List Value → ℤ
total values = fold (λ sum v. sum +ℤ number v) (pos 0) values

-- a truth; false of what is none
abbrev pub truth : Value → Bool
truth (Truth b) = b
truth v = false

-- a text; the empty one of what is none
abbrev pub text : Value → List ℕ
text (Text t) = t
text v = []

-- the first of two by an order
abbrev pub earlier : (Value → Value → Ordering) → Value → Value → Value
earlier order best v = if is_lt (order v best) then v else best

-- texts, each but the first behind its separator
abbrev pub joined : List (Value × Value) → List ℕ
joined [] = []
joined (p ∷ pairs) = text p.0 ++ flat_map (λ (q : Value × Value). text q.1 ++ text q.0) pairs

-- what is made of some, and null of none
abbrev pub of_some : {A : Type 0} → (A → List A → Answer) → List A → Answer
of_some f [] = Ok Null
of_some f (x ∷ xs) = f x xs

abbrev pub sum_of : List Value → Answer
sum_of values = of_some (λ v vs. bigint (total (v ∷ vs))) values

abbrev pub extreme : Bool → List Value → Answer
extreme is_greatest values =
    of_some (λ v vs. Ok (fold (earlier (turned is_greatest)) v vs)) values

abbrev pub all_of : List Value → Answer
all_of values = of_some (λ v vs. Ok (Truth (list_all truth (v ∷ vs)))) values

abbrev pub any_of : List Value → Answer
any_of values = of_some (λ v vs. Ok (Truth (list_any truth (v ∷ vs)))) values

abbrev pub join : List (Value × Value) → Answer
join pairs = of_some (λ p rest. text_within (joined (p ∷ rest))) pairs

-- what is made of values that are not null
abbrev pub of_given : Aggregate → List Value → Answer
of_given Count values = bigint (pos (length values))
of_given Sum values = sum_of values
of_given Min values = extreme false values
of_given Max values = extreme true values
of_given BoolAnd values = all_of values
of_given BoolOr values = any_of values
of_given kind values = Ok Null

-- what an aggregate gives over the values of its arguments
abbrev pub aggregated : Aggregate → List Value → List Value → Answer
aggregated CountRows values others = bigint (pos (length values))
aggregated StringAgg values others =
    join (filter (λ (pair : Value × Value). is_given pair.0) (zip values others))
aggregated kind values others = of_given kind (given values)
