-- How the code keeps what aggregates made so far, and finds the groups of rows; no definition.
use Rattle.std.specs.Prelude.{ℕ, suc, ℤ, pos, ◌+◌, ◌-◌, ◌+ℤ◌, Bool, true, false, ◌&&◌, ◌||◌, List, [], ◌∷◌, ◌++◌}
use Rattle.std.specs.Prelude.{if◌then◌else◌, Option, Some, None, Ok, fold, length, map, nat_lt, slice_get, slice_index_or}
use Rattle.std.specs.Prelude.{slice_set, take, unwrap_or}
use Rattle.pl_base.specs.declared.value.Value.{Value}
use Rattle.pl_base.specs.declared.value.Value.TheVariants.{Null, Bool as Truth}
use Rattle.pl_calc.specs.Answer.{Answer}
use Rattle.pl_calc.specs.Casts.{text_limit, text_within}
use Rattle.pl_calc.specs.Logic.{is_null}
use Rattle.pl_calc.specs.Numbers.{bigint}
use Rattle.pl_groups.specs.Aggregates.{earlier, number, text, truth}
use Rattle.pl_groups.specs.declared.column.Column.{Column}
use Rattle.pl_groups.specs.declared.tally.Tally.{Tally}
use Rattle.pl_groups.specs.declared.tally.Tally.TheVariants as t
use Rattle.pl_keys.specs.Order.{turned}
use Rattle.pl_keys.specs.Same.{place_of, same}
use Rattle.pl_resolved.specs.declared.query.Aggregate.{Aggregate}
use Rattle.pl_resolved.specs.declared.query.Aggregate.TheVariants.{CountRows, Count, Sum, Min, Max}
use Rattle.pl_resolved.specs.declared.query.Aggregate.TheVariants.{BoolAnd, BoolOr, StringAgg}

-- ---- one aggregate

abbrev pub start : Aggregate → Tally
start CountRows = t.Rows 0
start Count = t.Values 0
start Sum = t.Sum None
start Min = t.Least None
start Max = t.Greatest None
start BoolAnd = t.All None
start BoolOr = t.Any None
start StringAgg = t.Texts None

abbrev pub sum_with : Option ℤ → Value → ℤ
sum_with None v = number v
sum_with (Some sum) v = sum +ℤ number v

abbrev pub best_with : Bool → Option Value → Value → Value
best_with is_greatest None v = v
best_with is_greatest (Some best) v = earlier (turned is_greatest) best v

abbrev pub all_with : Option Bool → Value → Bool
all_with None v = truth v
all_with (Some b) v = b && truth v

abbrev pub any_with : Option Bool → Value → Bool
any_with None v = truth v
any_with (Some b) v = b || truth v

-- how many bytes of a joined text are kept: one more than a text may have
abbrev pub most : ℕ
most = suc text_limit

abbrev pub longer : List ℕ → List ℕ → List ℕ
longer text more = text ++ take (most - length text) more

abbrev pub text_with : Option (List ℕ) → Value → Value → List ℕ
text_with None v separator = longer [] (text v)
text_with (Some joined) v separator = longer (longer joined (text separator)) (text v)

abbrev pub with_value : Tally → Value → Value → Tally
with_value (t.Rows n) v separator = t.Rows (n + 1)
with_value (t.Values n) v separator = t.Values (n + 1)
with_value (t.Sum sum) v separator = t.Sum (Some (sum_with sum v))
with_value (t.Least best) v separator = t.Least (Some (best_with false best v))
with_value (t.Greatest best) v separator = t.Greatest (Some (best_with true best v))
with_value (t.All b) v separator = t.All (Some (all_with b v))
with_value (t.Any b) v separator = t.Any (Some (any_with b v))
with_value (t.Texts joined) v separator = t.Texts (Some (text_with joined v separator))

-- a null is passed over, but for the number of rows
abbrev pub is_passed_over : Tally → Value → Bool
is_passed_over (t.Rows n) v = false
is_passed_over tally v = is_null v

-- the values of one row more, which are the first and the second argument
abbrev pub added : Tally → Value × Value → Tally
added tally p = if is_passed_over tally p.0 then tally else with_value tally p.0 p.1

abbrev pub tally_of : Aggregate → List (Value × Value) → Tally
tally_of kind pairs = fold added (start kind) pairs

abbrev pub or_null : Option Value → Value
or_null None = Null
or_null (Some v) = v

abbrev pub truth_or_null : Option Bool → Value
truth_or_null None = Null
truth_or_null (Some b) = Truth b

abbrev pub sum_or_null : Option ℤ → Answer
sum_or_null None = Ok Null
sum_or_null (Some sum) = bigint sum

abbrev pub text_or_null : Option (List ℕ) → Answer
text_or_null None = Ok Null
text_or_null (Some joined) = text_within joined

abbrev pub finished : Tally → Answer
finished (t.Rows n) = bigint (pos n)
finished (t.Values n) = bigint (pos n)
finished (t.Sum sum) = sum_or_null sum
finished (t.Least best) = Ok (or_null best)
finished (t.Greatest best) = Ok (or_null best)
finished (t.All b) = Ok (truth_or_null b)
finished (t.Any b) = Ok (truth_or_null b)
finished (t.Texts joined) = text_or_null joined

-- ---- an aggregate for each group

abbrev pub shown : Column → Aggregate × List Tally
shown c = (c.aggregate, c.tallies.items)

-- one thing more at the place, or behind the others where the place isn't there
abbrev pub put : {A B : Type 0} → (B → A → B) → B → ℕ → A → List B → List B
put add fresh place x made =
    if nat_lt place (length made)
    then slice_set made place (add (slice_index_or made place fresh) x)
    else made ++ add fresh x ∷ []

abbrev pub with_added : ℕ → Value × Value → Aggregate × List Tally → Aggregate × List Tally
with_added place p c = (c.0, put added (start c.0) place p c.1)

-- an aggregate over what it takes of each member of the groups
abbrev pub column : {X : Type 0} → (X → Value × Value) → Aggregate → List (List X)
    → Aggregate × List Tally
column arguments kind groups = (kind, map (λ ms. tally_of kind (map arguments ms)) groups)

abbrev pub tally_at : ℕ → Aggregate × List Tally → Tally
tally_at place c = unwrap_or (slice_get c.1 place) (start c.0)

abbrev pub answer_at : ℕ → Aggregate × List Tally → Answer
answer_at place c = finished (tally_at place c)

-- ---- groups

-- the number of the group of a row with this key
abbrev pub place_in : List (List Value) → List Value → ℕ
place_in known key = unwrap_or (place_of (same key) known) (length known)

-- one member more in the group at the place
abbrev pub with_member : {A : Type 0} → ℕ → A → List (List A) → List (List A)
with_member place m made = put (λ ms m. ms ++ m ∷ []) [] place m made
