-- What the rows hold that clap makes of the words: the names, the value of `--steps`, and `--on-error-stop`.
use Rattle.std.proofs.Common.{◌≡◌, ◌∙◌, ◌||◌, ℕ, Bool, cond, codes, true, false, refl, ap, List, [], ◌∷◌, ◌++◌, Option, Some, None, is_some, find, fold}
use Rattle.std.proofs.lemmas.List.{append-nil}
use Rattle.std.specs.Prelude.{if◌then◌else◌, slice_get, option_map}
use Rattle.std.specs.List.{list_any}
use Rattle.std.specs.Str.{bytes_eq}
use Rattle.clap.specs.Walk.{Held, Row, Rule, Text, Waiting, Walk, settled, finished, has_row, walked, with_values, without, more_values, at_row}
use Rattle.clap.specs.Simple.{Shape, built}
use Rattle.clap.specs.Kinds.{Kinds, or_else}
use Rattle.clap.specs.Faults.{check_fault, defaults_fault, settle_fault, walk_fault}
use Rattle.clap.specs.declared.builder.value_parser.Reading.TheVariants as reading
use Rattle.clap.specs.declared.parser.matches.ValueSource.TheVariants.{CommandLine}
use Rattle.pl_cli.specs.Command.{plpg_app}
use Rattle.pl_cli.specs.Line.{Word}

abbrev pub shape : Shape
shape = (built plpg_app).top

abbrev pub rules : List Rule
rules = shape.rules

abbrev pub Pending : Type 0
Pending = Option (Text × List Text)

abbrev pub held : List Row → Pending → Held
held rows pending = record { rows = rows; pending = pending; skip = 0 }

abbrev pub state : List Row → Pending → Waiting → ℕ → Bool → Walk
state rows pending waiting position is_trailing = record { held = held rows pending; waiting = waiting; position = position; is_trailing = is_trailing; stopped = None }

abbrev pub row : Text → Text → Row
row id value = record { id = id; values = value ∷ []; count = None; source = Some CommandLine; reading = reading.AsWritten }

abbrev pub row_by : Text → List Row → Option Row
row_by id rows = find (λ r. bytes_eq r.id id) rows

abbrev pub rest_fault : Held → Kinds
rest_fault h = or_else (settle_fault rules false h) (or_else (defaults_fault (settled rules h).rows rules) (check_fault shape (finished rules h) false))

abbrev pub faults : Walk → List Word → Kinds
faults w words = or_else (walk_fault shape [] w words) (rest_fault (fold (walked rules []) w words).held)

abbrev pub last_rows : Walk → List Word → List Row
last_rows w words = finished rules (fold (walked rules []) w words).held

-- rows
any_find : (p : Row → Bool) (rows : List Row) → list_any p rows ≡ is_some (find p rows)
any_find p [] = refl
any_find p (r ∷ rows) = go (p r) (any_find p rows)
  where
    go : (b : Bool) → list_any p rows ≡ is_some (find p rows) → (b || list_any p rows) ≡ is_some (cond b (Some r) (find p rows))
    go true rest = refl
    go false rest = rest

pub find_new : (p : Row → Bool) (rows : List Row) (r : Row) → find p rows ≡ None → p r ≡ true → find p (rows ++ r ∷ []) ≡ Some r
find_new p [] r none is = rw is refl
find_new p (x ∷ rows) r none is = go (p x) (λ rest. find_new p rows r rest is) none
  where
    go : (b : Bool) → (find p rows ≡ None → find p (rows ++ r ∷ []) ≡ Some r) → cond b (Some x) (find p rows) ≡ None → cond b (Some x) (find p (rows ++ r ∷ [])) ≡ Some r
    go true rest bad = cc
    go false rest none = rest none

pub find_other : (p : Row → Bool) (rows : List Row) (r : Row) → p r ≡ false → find p (rows ++ r ∷ []) ≡ find p rows
find_other p [] r is = rw is refl
find_other p (x ∷ rows) r is = ap (cond (p x) (Some x)) (find_other p rows r is)

pub at_new : (id : Text) (change : Row → List Row) (missing rows : List Row) → row_by id rows ≡ None → at_row id change missing rows ≡ rows ++ missing
at_new id change missing [] none = refl
at_new id change missing (r ∷ rows) none = go (bytes_eq r.id id) (at_new id change missing rows) none
  where
    go : (b : Bool) → (row_by id rows ≡ None → at_row id change missing rows ≡ rows ++ missing) → cond b (Some r) (row_by id rows) ≡ None → cond b (change r ++ rows) (r ∷ at_row id change missing rows) ≡ r ∷ (rows ++ missing)
    go true rest bad = cc
    go false rest none = ap (λ (l : List Row). r ∷ l) (rest none)

-- what the rows hold, where these names, this value of `--steps` and `--on-error-stop` or not were given so far
pub record Holds (rows : List Row) (names : List Word) (steps : Option Word) (stop : Bool) : Type 0 where
  pub store_row : row_by (codes "store") rows ≡ option_map (row (codes "store")) (slice_get names 0)
  pub script_row : row_by (codes "script") rows ≡ option_map (row (codes "script")) (slice_get names 1)
  pub steps_row : row_by (codes "steps") rows ≡ option_map (row (codes "steps")) steps
  pub stop_row : row_by (codes "on-error-stop") rows ≡ (if stop then Some (row (codes "on-error-stop") (codes "true")) else None)

-- one more use
pub set_used : (id value : Text) (rows : List Row) → row_by id rows ≡ None
    → with_values id reading.AsWritten CommandLine (value ∷ []) (without id rows) ≡ rows ++ row id value ∷ []
set_used id value rows none = ap (λ (l : List Row). with_values id reading.AsWritten CommandLine (value ∷ []) l) (at_new id (λ r. []) [] rows none ∙ append-nil rows) ∙ at_new id (more_values CommandLine (value ∷ [])) (row id value ∷ []) rows none

pub not_there : (id : Text) (rows : List Row) → row_by id rows ≡ None → has_row id rows ≡ false
not_there id rows none = any_find (λ r. bytes_eq r.id id) rows ∙ ap is_some none

pub is_there : (id : Text) (rows : List Row) (r : Row) → row_by id rows ≡ Some r → has_row id rows ≡ true
is_there id rows r is = any_find (λ r. bytes_eq r.id id) rows ∙ ap is_some is

pub holds_store : (rows : List Row) (name : Word) (steps : Option Word) (stop : Bool) → Holds rows [] steps stop → Holds (rows ++ row (codes "store") name ∷ []) (name ∷ []) steps stop
holds_store rows name steps stop was = record {
  store_row = find_new (λ r. bytes_eq r.id (codes "store")) rows (row (codes "store") name) was.store_row refl;
  script_row = find_other (λ r. bytes_eq r.id (codes "script")) rows (row (codes "store") name) refl ∙ was.script_row;
  steps_row = find_other (λ r. bytes_eq r.id (codes "steps")) rows (row (codes "store") name) refl ∙ was.steps_row;
  stop_row = find_other (λ r. bytes_eq r.id (codes "on-error-stop")) rows (row (codes "store") name) refl ∙ was.stop_row;
}

pub holds_script : (rows : List Row) (store name : Word) (steps : Option Word) (stop : Bool) → Holds rows (store ∷ []) steps stop → Holds (rows ++ row (codes "script") name ∷ []) (store ∷ name ∷ []) steps stop
holds_script rows store name steps stop was = record {
  store_row = find_other (λ r. bytes_eq r.id (codes "store")) rows (row (codes "script") name) refl ∙ was.store_row;
  script_row = find_new (λ r. bytes_eq r.id (codes "script")) rows (row (codes "script") name) was.script_row refl;
  steps_row = find_other (λ r. bytes_eq r.id (codes "steps")) rows (row (codes "script") name) refl ∙ was.steps_row;
  stop_row = find_other (λ r. bytes_eq r.id (codes "on-error-stop")) rows (row (codes "script") name) refl ∙ was.stop_row;
}

pub holds_steps : (rows : List Row) (names : List Word) (value : Word) (stop : Bool) → Holds rows names None stop → Holds (rows ++ row (codes "steps") value ∷ []) names (Some value) stop
holds_steps rows names value stop was = record {
  store_row = find_other (λ r. bytes_eq r.id (codes "store")) rows (row (codes "steps") value) refl ∙ was.store_row;
  script_row = find_other (λ r. bytes_eq r.id (codes "script")) rows (row (codes "steps") value) refl ∙ was.script_row;
  steps_row = find_new (λ r. bytes_eq r.id (codes "steps")) rows (row (codes "steps") value) was.steps_row refl;
  stop_row = find_other (λ r. bytes_eq r.id (codes "on-error-stop")) rows (row (codes "steps") value) refl ∙ was.stop_row;
}

pub holds_stop : (rows : List Row) (names : List Word) (steps : Option Word) → Holds rows names steps false → Holds (rows ++ row (codes "on-error-stop") (codes "true") ∷ []) names steps true
holds_stop rows names steps was = record {
  store_row = find_other (λ r. bytes_eq r.id (codes "store")) rows (row (codes "on-error-stop") (codes "true")) refl ∙ was.store_row;
  script_row = find_other (λ r. bytes_eq r.id (codes "script")) rows (row (codes "on-error-stop") (codes "true")) refl ∙ was.script_row;
  steps_row = find_other (λ r. bytes_eq r.id (codes "steps")) rows (row (codes "on-error-stop") (codes "true")) refl ∙ was.steps_row;
  stop_row = find_new (λ r. bytes_eq r.id (codes "on-error-stop")) rows (row (codes "on-error-stop") (codes "true")) was.stop_row refl;
}
