-- LIMIT and OFFSET: PostgreSQL manual, "LIMIT and OFFSET".
use Rattle.std.specs.Prelude.{ℕ, ℤ, pos, negsuc, List, Option, Some, None, Result, Ok, Err, take}
use Rattle.std.specs.Prelude.{drop}
use Rattle.pl_base.specs.States.{DATATYPE_MISMATCH}
use Rattle.pl_base.specs.declared.state.State.{State}
use Rattle.pl_base.specs.declared.value.Value.{Value}
use Rattle.pl_base.specs.declared.value.Value.TheVariants.{Null, Int, Big}

-- a number that isn't negative
abbrev pub natural : State → ℤ → Result (Option ℕ) State
natural negative (pos n) = Ok (Some n)
natural negative (negsuc n) = Err negative

-- the number of rows that a value says, none for null
abbrev pub count_of : State → Value → Result (Option ℕ) State
count_of negative Null = Ok None
count_of negative (Int z) = natural negative z
count_of negative (Big z) = natural negative z
count_of negative v = Err DATATYPE_MISMATCH

module _ {A : Type 0} where
  -- OFFSET: so many of the first rows are left out
  abbrev pub skipped : Option ℕ → List A → List A
  skipped (Some n) rows = drop n rows
  skipped None rows = rows

  -- LIMIT: at most so many rows
  abbrev pub limited : Option ℕ → List A → List A
  limited (Some n) rows = take n rows
  limited None rows = rows

  -- OFFSET and then LIMIT
  abbrev pub cut : Option ℕ → Option ℕ → List A → List A
  cut offset limit rows = limited limit (skipped offset rows)
