-- What `read_words` says, by what clap makes of the words.
use Rattle.std.proofs.Common.{◌≡◌, ◌∙◌, Bool, codes, true, false, refl, sym, ap, subst, arith, List, [], ◌∷◌, Option, Some, None, ⊎_elim}
use Rattle.std.specs.Prelude.{if◌then◌else◌, option_and_then}
use Rattle.clap.specs.Walk.{Text, idle, first_of, one_of, rows_of, nothing_held}
use Rattle.clap.specs.Simple.{built, matches_of}
use Rattle.clap.proofs.FaultLemmas.{leaf_fault}
use Rattle.clap.specs.Kinds.{Kinds}
use Rattle.clap.specs.Faults.{fault_of}
use Rattle.pl_cli.specs.Command.{plpg_app, any_one_dash}
use Rattle.pl_cli.specs.Lines.{option_items, line_by, matched_line}
use Rattle.clap.specs.Matches.{first_value, one_text}
use Rattle.clap.specs.declared.parser.matches.Found.{Found}
use Rattle.clap.proofs.WalkLemmas.{first_value-rows, one_text-rows}
use Rattle.pl_cli.specs.Line.{Word, Given, asked, asked_by, asked_of, given, steps_of, stops_of}
use Rattle.pl_cli.proofs.Rows.{faults, last_rows, state}
use Rattle.pl_cli.proofs.Ends.{Reads, Verdict}
use Rattle.pl_cli.proofs.Walks.{at_start, both, joined_nothing}

pub verdict : (own_name : Word) (words : List Word) → any_one_dash words ≡ false → Verdict (fault_of plpg_app (own_name ∷ words)) (matches_of plpg_app (own_name ∷ words)) (given false words)
verdict own_name words dash =
    let it = (both words).0 [] None false [] None (omega arith) at_start dash in
    subst (λ (k : Kinds). Verdict k (matches_of plpg_app (own_name ∷ words)) (given false words)) (sym (leaf_fault (built plpg_app) nothing_held words refl))
    (subst (λ (o : Option Given). Verdict (faults (state [] None idle 1 false) words) (last_rows (state [] None idle 1 false) words) o) (joined_nothing (given false words)) it)

-- what `read_words` says, by the verdict
stops_once : (stop : Bool) → stops_of (if stop then 1 else 0) ≡ Some stop
stops_once true = refl
stops_once false = refl

pub on_taken : (own_name : Word) (words : List Word) (f : Found) → any_one_dash words ≡ false → fault_of plpg_app (own_name ∷ words) ≡ [] → rows_of f ≡ matches_of plpg_app (own_name ∷ words)
    → (stop : Bool) × (one_text f (codes "on-error-stop") ≡ Some (if stop then codes "true" else codes "false")) × (asked (own_name ∷ words) ≡ matched_line f stop)
unfolding asked
on_taken own_name words f dash none rows = ⊎_elim fits (λ bad. absurd (bad.0 none)) (verdict own_name words dash)
  where
    fits : ((fault_of plpg_app (own_name ∷ words) ≡ []) × ((g : Given) × (given false words ≡ Some g) × Reads (matches_of plpg_app (own_name ∷ words)) g))
        → (stop : Bool) × (one_text f (codes "on-error-stop") ≡ Some (if stop then codes "true" else codes "false")) × (asked (own_name ∷ words) ≡ matched_line f stop)
    fits is =
        let reads = is.1.2 in
        let store = reads.0 in
        let script = reads.1 in
        let steps = reads.2 in
        let stop = reads.3 in
        let first : (id : Text) → first_value f id ≡ first_of id (matches_of plpg_app (own_name ∷ words)) = λ id. first_value-rows f id ∙ ap (first_of id) rows in (
          stop,
          one_text-rows f (codes "on-error-stop") ∙ ap (one_of (codes "on-error-stop")) rows ∙ reads.8,
          ap (option_and_then asked_of) (is.1.1 ∙ ap (λ (g : Given). Some g) reads.4) ∙ ap (asked_by (store ∷ script ∷ []) (steps_of (option_items steps))) (stops_once stop)
              ∙ sym (λ i. line_by ((first (codes "store") ∙ reads.5) i) ((first (codes "script") ∙ reads.6) i) ((first (codes "steps") ∙ reads.7) i) stop),
        )

pub on_refused : (own_name : Word) (words : List Word) → any_one_dash words ≡ false → (fault_of plpg_app (own_name ∷ words) ≡ [] → ⊥) → asked (own_name ∷ words) ≡ None
unfolding asked
on_refused own_name words dash bad = ⊎_elim (λ fits. absurd (bad fits.0)) (λ fails. fails.1) (verdict own_name words dash)
