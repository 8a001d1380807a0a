-- What the words of a command line mean: `plpg STORE SCRIPT [--steps N] [--on-error-stop]`.
use Rattle.std.specs.Prelude.{◌==◌, ◌&&◌, ℕ, zero, suc, List, [], ◌∷◌, Bool, true, false, not, Option, Some, None, codes, length, drop, slice_index, nat_le, nat_lt, if◌then◌else◌, option_map, option_and_then}
use Rattle.std.specs.Char.{digit_value}
use Rattle.std.specs.List.{after_first, before_first, list_all, list_any}
use Rattle.std.specs.Str.{bytes_eq}
use Rattle.std.specs.Str.Parse.{digits_value}

abbrev pub Word : Type 0
Word = List ℕ

-- What the words behind the program's own name give.
pub record Given : Type 0 where
  -- the words that are no option, in order
  pub names : List Word
  -- each value of `--steps`
  pub steps : List Word
  -- how often `--on-error-stop` is given
  pub stops : ℕ

abbrev pub names_alone : List Word → Given
names_alone names = record { names = names; steps = []; stops = 0 }

abbrev pub with_name : Word → Given → Given
with_name name g = record g { names = name ∷ g.names }

abbrev pub with_steps : Word → Given → Given
with_steps steps g = record g { steps = steps ∷ g.steps }

abbrev pub with_stop : Given → Given
with_stop g = record g { stops = suc g.stops }

-- a word that begins with a dash
abbrev pub has_dash : Word → Bool
has_dash word = slice_index word 0 == 45

-- an option is `--NAME` or `--NAME=VALUE`
abbrev pub is_equals : ℕ → Bool
is_equals byte = byte == 61

abbrev pub option_name : Word → Word
option_name word = before_first is_equals (drop 2 word)

abbrev pub option_value : Word → Option Word
option_value word = if list_any is_equals (drop 2 word) then Some (after_first is_equals (drop 2 word)) else None

-- the two options, before what the other words give; the second of these is for `--steps` alone, whose value is the next word
abbrev pub given_option : (name : Word) → Option Word → (rest after_value : Option Given) → Option Given
given_option name None rest after_value =
    if bytes_eq (codes "steps") name then after_value else (if bytes_eq (codes "on-error-stop") name then option_map with_stop rest else None)
given_option name (Some value) rest after_value = if bytes_eq (codes "steps") name then option_map (with_steps value) rest else None

-- What words give; None where one of them isn't known, or `--steps` has no value. The first one is the value of `--steps` where that
-- stands before it. All words behind `--` are names.
abbrev pub given : (is_value : Bool) → List Word → Option Given
given true [] = None
given true (value ∷ rest) = option_map (with_steps value) (given false rest)
given false [] = Some (names_alone [])
given false (word ∷ rest) =
    if not (has_dash word) then option_map (with_name word) (given false rest)
    else (if not (has_dash (drop 1 word)) then None
    else (if bytes_eq word (codes "--") then Some (names_alone rest)
    else given_option (option_name word) (option_value word) (given false rest) (given true rest)))

-- the number of steps: decimal digits, from 1 to 1,000,000,000
abbrev pub is_number : Word → Bool
is_number text = list_all (λ digit. nat_lt (digit_value digit) 10) text && nat_lt 0 (length text)

abbrev pub steps_read : Word → Option ℕ
steps_read text =
    if is_number text && (nat_le 1 (digits_value 10 text) && nat_le (digits_value 10 text) 1000000000) then Some (digits_value 10 text) else None

abbrev pub steps_of : List Word → Option ℕ
steps_of [] = Some 10000000
steps_of (text ∷ []) = steps_read text
steps_of (text ∷ again ∷ more) = None

abbrev pub stops_of : ℕ → Option Bool
stops_of zero = Some false
stops_of (suc zero) = Some true
stops_of (suc (suc more)) = None

-- What a valid line asks for.
pub record Asked : Type 0 where
  pub store : Word
  pub script : Word
  pub steps : ℕ
  pub stops_on_error : Bool

abbrev pub asked_by : (names : List Word) → Option ℕ → Option Bool → Option Asked
asked_by (store ∷ script ∷ []) (Some steps) (Some stops) = Some (record { store = store; script = script; steps = steps; stops_on_error = stops })
asked_by names steps stops = None

abbrev pub asked_of : Given → Option Asked
asked_of g = asked_by g.names (steps_of g.steps) (stops_of g.stops)

-- what the words of a line ask for; None where they are no valid line
unfoldable pub asked : List Word → Option Asked
asked [] = None
asked (own_name ∷ words) = option_and_then asked_of (given false words)
