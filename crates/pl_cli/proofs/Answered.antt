-- What `read_words` answers.
use Rattle.std.proofs.Common.{◌≡◌, ◌∙◌, ◌-◌, take, Bool, true, false, codes, if◌then◌else◌, refl, sym, ap, subst, arith, List, [], ◌∷◌, map, length, drop, Some, None, Result, Ok, Err, IfOk, MatchResult, string_bytes, String, Global, ⊎_elim}
use Rattle.std.proofs.lemmas.List.{take_all}
use Rattle.clap.specs.Faults.{fault_of, is_simple_and_free}
use Rattle.clap.specs.Kinds.{HasKind, Kinds}
use Rattle.clap.specs.Simple.{HasMatchesOf}
use Rattle.clap.specs.Words.{App, found_of, kind_of, one_text}
use Rattle.clap.specs.declared.error.Error.{Error}
use Rattle.clap.specs.declared.error.kind.ErrorKind.TheVariants as kind
use Rattle.clap.specs.declared.parser.matches.ArgMatches.{ArgMatches}
use Rattle.pl_cli.specs.Command.{any_one_dash, plpg_app}
use Rattle.pl_cli.specs.Line.{Word, asked}
use Rattle.pl_cli.specs.Lines.{asked_in, matched_line}
use Rattle.pl_cli.specs.declared.line.Line.{Line}
use Rattle.pl_cli.specs.declared.line.WordsFail.{WordsFail}
use Rattle.pl_cli.proofs.Dashes.{on_nothing, on_one_dash}
use Rattle.pl_cli.proofs.Words.{on_refused, on_taken}

abbrev spelled : List (String Global) → List Word
spelled = map string_bytes

pub rest_is : (ws : List (String Global)) → take (length ws - 1) (drop 1 ws) ≡ drop 1 ws
rest_is [] = refl
rest_is (w ∷ ws) = take_all (length (w ∷ ws) - 1) ws (omega arith)

pub at_err : {T E : Type 0} (r : Result T E) (e : E) (P : T → Type 0) (Q : E → Type 0) → r ≡ Err e → MatchResult r P Q → Q e
at_err (Ok x) e P Q is holds = cc
at_err (Err d) e P Q is holds = let same : d ≡ e = cc in subst Q same holds

pub when_ok : {T E : Type 0} (r : Result T E) (P : T → Type 0) (Q : E → Type 0) → MatchResult r P Q → IfOk r P
when_ok (Ok x) P Q holds = holds
when_ok (Err d) P Q holds = tt

pub same_fail : (a b : WordsFail) → (let r : Result Line WordsFail = Err a in r) ≡ Err b → a ≡ b
same_fail a b is = cc

pub no_words : (ws : List (String Global)) → length ws ≡ 0 → asked (spelled ws) ≡ None
no_words [] none = on_nothing
no_words (w ∷ ws) none = absurd (omega (arith, none))

pub one_dash : (ws : List (String Global)) → (length ws ≡ 0 → ⊥) → any_one_dash (spelled (drop 1 ws)) ≡ true → asked (spelled ws) ≡ None
one_dash [] some is = absurd (some refl)
one_dash (w ∷ ws) some is = on_one_dash (string_bytes w) (spelled ws) is

pub refused : (ws : List (String Global)) (app : App) (e : Error) → (length ws ≡ 0 → ⊥) → any_one_dash (spelled (drop 1 ws)) ≡ false → app ≡ plpg_app → (is_simple_and_free app ≡ true → HasKind (fault_of app (spelled ws)) e)
    → (kind_of e ≡ kind.OutOfMemory → ⊥) → asked (spelled ws) ≡ None
refused [] app e some dash is kinds other = absurd (some refl)
refused (w ∷ ws) app e some dash is kinds other =
    on_refused (string_bytes w) (spelled ws) dash (λ none. none_among (fault_of plpg_app (spelled (w ∷ ws))) none (subst (λ (a : App). HasKind (fault_of a (spelled (w ∷ ws))) e) is (kinds (ap is_simple_and_free is))))
  where
    none_among : (ks : Kinds) → ks ≡ [] → HasKind ks e → ⊥
    none_among [] none has = ⊎_elim other (λ bad. bad) has
    none_among (k ∷ ks) none has = cc

pub taken : (ws : List (String Global)) (app : App) (m : ArgMatches) (r : Result Line WordsFail) → (length ws ≡ 0 → ⊥) → any_one_dash (spelled (drop 1 ws)) ≡ false → app ≡ plpg_app → (is_simple_and_free app ≡ true → fault_of app (spelled ws) ≡ [])
    → HasMatchesOf app (spelled ws) m
    → MatchResult r (λ line. matched_line (found_of m) line.stops_on_error ≡ Some (asked_in line)) (λ _. (stop : Bool) → matched_line (found_of m) stop ≡ None)
    → IfOk r (λ line. (stop : Bool) → one_text (found_of m) (codes "on-error-stop") ≡ Some (if stop then codes "true" else codes "false") → line.stops_on_error ≡ stop)
    → MatchResult r (λ line. asked (spelled ws) ≡ Some (asked_in line)) (λ _. asked (spelled ws) ≡ None)
taken [] app m r some dash is kinds matches line flag = absurd (some refl)
taken (w ∷ ws) app m r some dash is kinds matches line flag =
    let fine : fault_of plpg_app (spelled (w ∷ ws)) ≡ [] = subst (λ (a : App). fault_of a (spelled (w ∷ ws)) ≡ []) is (kinds (ap is_simple_and_free is)) in
    let has : HasMatchesOf plpg_app (spelled (w ∷ ws)) m = subst (λ (a : App). HasMatchesOf a (spelled (w ∷ ws)) m) is matches in
    let it = on_taken (string_bytes w) (spelled ws) (found_of m) dash fine (has refl).0 in
    go r it.0 it.1 it.2 line flag
  where
    go : (r : Result Line WordsFail) (stop : Bool) → one_text (found_of m) (codes "on-error-stop") ≡ Some (if stop then codes "true" else codes "false") → asked (spelled (w ∷ ws)) ≡ matched_line (found_of m) stop
        → MatchResult r (λ line. matched_line (found_of m) line.stops_on_error ≡ Some (asked_in line)) (λ _. (stop : Bool) → matched_line (found_of m) stop ≡ None)
        → IfOk r (λ line. (stop : Bool) → one_text (found_of m) (codes "on-error-stop") ≡ Some (if stop then codes "true" else codes "false") → line.stops_on_error ≡ stop)
        → MatchResult r (λ line. asked (spelled (w ∷ ws)) ≡ Some (asked_in line)) (λ _. asked (spelled (w ∷ ws)) ≡ None)
    go (Ok l) stop text is line flag = is ∙ ap (matched_line (found_of m)) (sym (flag stop text)) ∙ line
    go (Err e) stop text is line flag = is ∙ line stop
