-- What clap makes of the rows at the end of the words, against what a line means.
use Rattle.std.proofs.Common.{◌≡◌, ◌∙◌, ◌≤◌, ◌||◌, ◌⊎◌, Bool, cond, codes, true, false, not, refl, sym, ap, subst, arith, List, [], ◌∷◌, ◌++◌, length, Option, Some, None, inl, inr, fold}
use Rattle.std.specs.Prelude.{if◌then◌else◌, slice_get, option_map, option_and_then}
use Rattle.std.specs.Str.{bytes_eq}
use Rattle.clap.specs.Walk.{Row, Rule, Text, settled_rows, finished, first_of, one_of, row_text, has_row, with_default, default_rows, reading_by, is_empty, with_values, more_values}
use Rattle.clap.specs.Simple.{filled, with_index}
use Rattle.clap.specs.Facts.{explicit_source}
use Rattle.std.specs.Option.{option_map_or}
use Rattle.clap.proofs.FaultLemmas.{past}
use Rattle.clap.specs.Kinds.{Kinds, check_kinds, or_else}
use Rattle.clap.specs.Faults.{check_fault, default_fault, given_default_fault, defaults_fault, settle_fault}
use Rattle.clap.specs.declared.error.kind.ErrorKind.{ErrorKind}
use Rattle.clap.specs.declared.builder.value_parser.Reading.TheVariants as reading
use Rattle.clap.specs.declared.parser.matches.ValueSource.TheVariants.{DefaultValue}
use Rattle.pl_cli.specs.Command.{store_rule, script_rule, steps_rule, stop_rule}
use Rattle.pl_cli.specs.Line.{Word, Given, asked_of}
use Rattle.pl_cli.proofs.Rows.{Holds, Pending, at_new, find_new, find_other, held, is_there, not_there, rest_fault, row, row_by, rules, shape}
use Rattle.pl_cli.proofs.Given.{so_far}

-- one word more
pub has_fault : (kinds : Kinds) (k : ErrorKind) (ks : Kinds) → kinds ≡ k ∷ ks → kinds ≡ [] → ⊥
has_fault kinds k ks is none = cc

pub or_none : (a b : Kinds) → or_else a b ≡ [] → a ≡ []
or_none [] b is = refl
or_none (k ∷ ks) b is = is

-- the end of the words
abbrev default_row : Row
default_row = record { id = codes "on-error-stop"; values = codes "false" ∷ []; count = None; source = Some DefaultValue; reading = reading.AsWritten }

abbrev pub first_rule : Rule
first_rule = with_index 1 (filled store_rule)

abbrev pub second_rule : Rule
second_rule = with_index 2 (filled script_rule)

abbrev pub third_rule : Rule
third_rule = with_index 3 (filled steps_rule)

abbrev pub fourth_rule : Rule
fourth_rule = with_index 3 (filled stop_rule)

four_rules : rules ≡ first_rule ∷ second_rule ∷ third_rule ∷ fourth_rule ∷ []
four_rules = refl

no_default : (rows : List Row) (a : Rule) → a.defaults ≡ [] → with_default rows a ≡ rows
no_default rows a none = go (has_row a.id rows) ∙ refl
  where
    go : (b : Bool) → cond b rows (default_rows a.id (reading_by a) a.defaults rows) ≡ rows
    go true = refl
    go false = ap (λ (l : List Text). default_rows a.id (reading_by a) l rows) none

no_default_fault : (rows : List Row) (a : Rule) → a.defaults ≡ [] → default_fault rows a ≡ []
no_default_fault rows a none = go (has_row a.id rows)
  where
    go : (b : Bool) → cond (b || is_empty a.defaults) [] (given_default_fault a a.defaults) ≡ []
    go true = refl
    go false = ap (λ (l : List Text). cond (is_empty l) [] (given_default_fault a a.defaults)) none

last_default : (rows : List Row) (stop : Bool) → has_row (codes "on-error-stop") rows ≡ stop → (default_fault rows fourth_rule ≡ [])
    × (with_default rows fourth_rule ≡ (if stop then rows else with_values (codes "on-error-stop") reading.AsWritten DefaultValue (codes "false" ∷ []) rows))
last_default rows true is = (rw is refl, rw is refl)
last_default rows false is = (rw is refl, rw is refl)

skip_default : (rows : List Row) (a : Rule) (rest : List Rule) → a.defaults ≡ [] → defaults_fault rows (a ∷ rest) ≡ defaults_fault rows rest
unfolding defaults_fault
skip_default rows a rest none = past _ _ (no_default_fault rows a none) ∙ ap (λ (l : List Row). defaults_fault l rest) (no_default rows a none)

last_fault : (rows : List Row) → defaults_fault rows (fourth_rule ∷ []) ≡ default_fault rows fourth_rule
unfolding defaults_fault
last_fault rows = or_nothing (default_fault rows fourth_rule)
  where
    or_nothing : (k : Kinds) → or_else k [] ≡ k
    or_nothing [] = refl
    or_nothing (x ∷ xs) = refl

all_faults : (rows : List Row) → defaults_fault rows rules ≡ default_fault rows fourth_rule
all_faults rows =
    skip_default rows first_rule (second_rule ∷ third_rule ∷ fourth_rule ∷ []) refl ∙ skip_default rows second_rule (third_rule ∷ fourth_rule ∷ []) refl ∙ skip_default rows third_rule (fourth_rule ∷ []) refl
    ∙ last_fault rows

all_defaults : (rows : List Row) → fold with_default rows rules ≡ with_default rows fourth_rule
all_defaults rows =
    let one = no_default rows first_rule refl in
    let two = no_default rows second_rule refl in
    let three = no_default rows third_rule refl in
    ap (λ (l : List Row). with_default (with_default (with_default l second_rule) third_rule) fourth_rule) one ∙ ap (λ (l : List Row). with_default (with_default l third_rule) fourth_rule) two ∙ ap (λ (l : List Row). with_default l fourth_rule) three

-- the rows in the end
record Ends (rows : List Row) (names : List Word) (steps : Option Word) (stop : Bool) : Type 0 where
  pub store_row : row_by (codes "store") rows ≡ option_map (row (codes "store")) (slice_get names 0)
  pub script_row : row_by (codes "script") rows ≡ option_map (row (codes "script")) (slice_get names 1)
  pub steps_row : row_by (codes "steps") rows ≡ option_map (row (codes "steps")) steps
  pub stop_text : one_of (codes "on-error-stop") rows ≡ Some (if stop then codes "true" else codes "false")

ending : (rows : List Row) (names : List Word) (steps : Option Word) (stop : Bool) → Holds rows names steps stop
    → (defaults_fault rows rules ≡ []) × Ends (fold with_default rows rules) names steps stop
ending rows names steps true holds =
    let there = is_there (codes "on-error-stop") rows (row (codes "on-error-stop") (codes "true")) holds.stop_row in
    let last = last_default rows true there in (
      all_faults rows ∙ last.0,
      subst (λ (l : List Row). Ends l names steps true) (sym (all_defaults rows ∙ last.1)) (record {
        store_row = holds.store_row;
        script_row = holds.script_row;
        steps_row = holds.steps_row;
        stop_text = ap (option_and_then row_text) holds.stop_row;
      }),
    )
ending rows names steps false holds =
    let last = last_default rows false (not_there (codes "on-error-stop") rows holds.stop_row) in
    let added : fold with_default rows rules ≡ rows ++ default_row ∷ [] =
    all_defaults rows ∙ last.1 ∙ at_new (codes "on-error-stop") (more_values DefaultValue (codes "false" ∷ [])) (default_row ∷ []) rows holds.stop_row in (
      all_faults rows ∙ last.0,
      subst (λ (l : List Row). Ends l names steps false) (sym added) (record {
        store_row = find_other (λ r. bytes_eq r.id (codes "store")) rows default_row refl ∙ holds.store_row;
        script_row = find_other (λ r. bytes_eq r.id (codes "script")) rows default_row refl ∙ holds.script_row;
        steps_row = find_other (λ r. bytes_eq r.id (codes "steps")) rows default_row refl ∙ holds.steps_row;
        stop_text = ap (option_and_then row_text) (find_new (λ r. bytes_eq r.id (codes "on-error-stop")) rows default_row holds.stop_row refl);
      }),
    )

abbrev check_of : Option Row → Option Row → Kinds
check_of store script = check_kinds false false (not (option_map_or (λ r. explicit_source r.source) store false) || (not (option_map_or (λ r. explicit_source r.source) script false) || false))

checked : (rows : List Row) → check_fault shape rows false ≡ check_of (row_by (codes "store") rows) (row_by (codes "script") rows)
checked rows = refl

abbrev pub Reads : List Row → Given → Type 0
Reads rows g = (store script : Word) × (steps : Option Word) × (stop : Bool) × (g ≡ so_far (store ∷ script ∷ []) steps stop) × (first_of (codes "store") rows ≡ Some store)
    × (first_of (codes "script") rows ≡ Some script) × (first_of (codes "steps") rows ≡ steps) × (one_of (codes "on-error-stop") rows ≡ Some (if stop then codes "true" else codes "false"))

-- Either clap takes the words, and the rows say what was given; or it doesn't, and the words are no valid line.
abbrev pub Verdict : Kinds → List Row → Option Given → Type 0
Verdict kinds rows o = ((kinds ≡ []) × ((g : Given) × (o ≡ Some g) × Reads rows g)) ⊎ ((kinds ≡ [] → ⊥) × (option_and_then asked_of o ≡ None))

abbrev pub IsAt : List Word → Option Word → Bool → List Row → Pending → Type 0
IsAt names steps stop rows pending = (settle_fault rules false (held rows pending) ≡ []) × Holds (settled_rows rules pending rows) names steps stop

steps_text : (steps : Option Word) → option_and_then (λ (r : Row). slice_get r.values 0) (option_map (row (codes "steps")) steps) ≡ steps
steps_text None = refl
steps_text (Some v) = refl

pub done : (names : List Word) (steps : Option Word) (stop : Bool) (rows : List Row) (pending : Pending) → length names ≤ 2 → IsAt names steps stop rows pending
    → Verdict (rest_fault (held rows pending)) (finished rules (held rows pending)) (Some (so_far names steps stop))
done names steps stop rows pending few at =
    let end = ending (settled_rows rules pending rows) names steps stop at.1 in
    let kinds : rest_fault (held rows pending) ≡ check_of (option_map (row (codes "store")) (slice_get names 0)) (option_map (row (codes "script")) (slice_get names 1)) =
    past _ _ at.0 ∙ past _ _ end.0 ∙ (λ i. check_of (end.1.store_row i) (end.1.script_row i)) in
    go names few end.1 kinds
  where
    go : (names : List Word) → length names ≤ 2 → Ends (finished rules (held rows pending)) names steps stop
        → rest_fault (held rows pending) ≡ check_of (option_map (row (codes "store")) (slice_get names 0)) (option_map (row (codes "script")) (slice_get names 1))
        → Verdict (rest_fault (held rows pending)) (finished rules (held rows pending)) (Some (so_far names steps stop))
    go [] few ends kinds = inr (has_fault _ _ _ kinds, refl)
    go (a ∷ []) few ends kinds = inr (has_fault _ _ _ kinds, refl)
    go (a ∷ b ∷ []) few ends kinds = inl (
      kinds,
      (
        so_far (a ∷ b ∷ []) steps stop,
        refl,
        (
          a,
          b,
          steps,
          stop,
          refl,
          ap (option_and_then (λ (r : Row). slice_get r.values 0)) ends.store_row,
          ap (option_and_then (λ (r : Row). slice_get r.values 0)) ends.script_row,
          ap (option_and_then (λ (r : Row). slice_get r.values 0)) ends.steps_row ∙ steps_text steps,
          ends.stop_text,
        ),
      ),
    )
    go (a ∷ b ∷ c ∷ more) few ends kinds = absurd (omega (arith, few))
