-- Which conditions can be raised: PostgreSQL manual, "PostgreSQL Error Codes"; PL/pgSQL, "Trapping
-- Errors".
use Rattle.std.specs.Char.{is_ascii_digit, is_ascii_uppercase}
use Rattle.std.specs.Prelude.{ℕ, ◌==◌, ◌&&◌, ◌||◌, not, Bool, true, if◌then◌else◌, bytes_eq, codes}
use Rattle.std.specs.Prelude.{List, length, Option, Some, None}
use Rattle.std.specs.List.{list_all, list_any}
use Rattle.pl_base.specs.Condition.{conditions}
use Rattle.pl_base.specs.States.{UNDEFINED_OBJECT}
use Rattle.pl_base.specs.declared.state.State.{State}
use Rattle.pl_bodies.specs.declared.simple.Condition.TheVariants as condition
use Rattle.pl_bodies.specs.declared.simple.Condition.{Condition}
use Rattle.pl_bodies.specs.declared.statement.Caught.TheVariants as caught
use Rattle.pl_bodies.specs.declared.statement.Caught.{Caught}

-- a name of the table of conditions
abbrev pub is_condition : List ℕ → Bool
is_condition x = list_any (λ row. bytes_eq row.1 x) conditions

abbrev pub is_of_code : ℕ → Bool
is_of_code c = is_ascii_digit c || is_ascii_uppercase c

-- five digits or capital letters, but not those of success
abbrev pub is_code : List ℕ → Bool
is_code text =
    (length text == 5) && (not (bytes_eq text (codes "00000")) && list_all is_of_code text)

abbrev pub is_known : Condition → Bool
is_known (condition.Name x) = is_condition x
is_known (condition.Code text) = is_code text

abbrev pub is_caught : Caught → Bool
is_caught caught.Others = true
is_caught (caught.Condition c) = is_known c

-- what a handler catches
abbrev pub caught_state : List Caught → Option State
caught_state cs = if list_all is_caught cs then None else Some UNDEFINED_OBJECT
