-- Conditions, by name and by code, and the errors that they match: PostgreSQL manual, "PL/pgSQL",
-- "Trapping Errors"; "PostgreSQL Error Codes".
use Rattle.std.specs.Prelude.{ℕ, Bool, true, false, not, ◌&&◌, ◌||◌, if◌then◌else◌, List, [], ◌∷◌}
use Rattle.std.specs.Prelude.{Option, Some, None, bytes_eq, codes, drop, length, nat_eq, take}
use Rattle.std.specs.List.{list_all, list_any}
use Rattle.std.specs.Option.{option_or}
use Rattle.std.specs.Char.{is_ascii_digit, is_ascii_uppercase}
use Rattle.pl_base.specs.Condition.{Row, conditions}
use Rattle.pl_base.specs.States.{ASSERT_FAILURE, QUERY_CANCELED}
use Rattle.pl_base.specs.declared.fail.Fail.{Fail}
use Rattle.pl_base.specs.declared.fail.Origin.{Origin}
use Rattle.pl_base.specs.declared.fail.Origin.TheVariants.{Engine, Raise}
use Rattle.pl_base.specs.declared.state.State.{State}
use Rattle.pl_bodies.specs.declared.simple.Condition.{Condition}
use Rattle.pl_bodies.specs.declared.simple.Condition.TheVariants as condition
use Rattle.pl_bodies.specs.declared.statement.Caught.{Caught}
use Rattle.pl_bodies.specs.declared.statement.Caught.TheVariants as caught

-- ---- the code of a condition

-- the code that the table gives a name
abbrev pub code_in : List Row → List ℕ → Option State
code_in [] name = None
code_in (row ∷ rows) name =
    if bytes_eq row.1 name then Some (record { code = row.0 }) else code_in rows name

abbrev pub code_named : List ℕ → Option State
code_named name = code_in conditions name

-- five digits or capital letters, and not that of success
abbrev pub is_code : List ℕ → Bool
is_code text =
    nat_eq (length text) 5 && list_all (λ c. is_ascii_digit c || is_ascii_uppercase c) text
    && not (bytes_eq text (codes "00000"))

abbrev pub code_spelled : List ℕ → Option State
code_spelled text = if is_code text then Some (record { code = text }) else None

-- as it is written in a body
abbrev pub code_of : Condition → Option State
code_of (condition.Name name) = code_named name
code_of (condition.Code text) = code_spelled text

-- a text that is a code or a name
abbrev pub code_or_name : List ℕ → Option State
code_or_name text = option_or (code_spelled text) (code_named text)

-- ---- what a condition matches

abbrev pub is_state : State → State → Bool
is_state s t = bytes_eq s.code t.code

abbrev pub is_engine : Origin → Bool
is_engine Engine = true
is_engine Raise = false

-- no step is left: nothing matches that
abbrev pub is_out_of_steps : Fail → Bool
is_out_of_steps f = is_engine f.origin && is_state f.state QUERY_CANCELED

-- a code that ends in 000 stands for its class
abbrev pub is_class : State → Bool
is_class s = bytes_eq (drop 2 s.code) (codes "000")

abbrev pub is_in_class : State → State → Bool
is_in_class s t = is_class s && bytes_eq (take 2 s.code) (take 2 t.code)

abbrev pub covers : Option State → State → Bool
covers None t = false
covers (Some s) t = is_state s t || is_in_class s t

-- OTHERS matches all but a cancelled query and a failed assertion
abbrev pub is_other : State → Bool
is_other s = not (is_state s QUERY_CANCELED || is_state s ASSERT_FAILURE)

unfoldable pub matches : Caught → Fail → Bool
matches caught.Others f = is_other f.state
matches (caught.Condition c) f = not (is_out_of_steps f) && covers (code_of c) f.state

abbrev pub matches_one : List Caught → Fail → Bool
matches_one list f = list_any (λ c. matches c f) list
