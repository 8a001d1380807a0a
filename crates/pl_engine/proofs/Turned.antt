-- Lists whose newest comes last, turned: calls of which each is a command, and changes that run.
use Rattle.std.proofs.Common.{◌≡◌, ◌+◌, ◌-◌, ◌∙◌, ◌&&◌, ◌||◌, ℕ, Bool, true, false, List, [], ◌∷◌, ◌++◌, Option, Some, None, ap, append-nil, drop, map, refl, reverse, sym, take}
use Rattle.std.specs.Prelude.{MatchOption, bytes_eq}
use Rattle.std.specs.Option.{option_to_list}
use Rattle.std.specs.List.{list_all, list_any}
use Rattle.std.proofs.lemmas.List.{reverse-append}
use Rattle.std.proofs.lemmas.List.Folds.{list_all-append, list_all-map, list_any-append}
use Rattle.pl_engine.specs.Engines.{frame_of, is_command}
use Rattle.pl_engine.specs.declared.call.Call.{Call}
use Rattle.pl_world.specs.pl_names.Names.{Name}
use Rattle.pl_variables.specs.declared.frames.Frame.{Frame as Held}
use Rattle.pl_world.specs.Commands.{is_changing}
use Rattle.pl_world.specs.Transactions.{are_commands}
use Rattle.pl_world.specs.World.{Frame}

-- ---- whichever comes first

both_turned : (a b : Bool) → (a && (b && true)) ≡ (b && a)
both_turned true true = refl
both_turned true false = refl
both_turned false true = refl
both_turned false false = refl

all_turned : {A : Type 0} (p : A → Bool) (xs : List A) → list_all p (reverse xs) ≡ list_all p xs
all_turned p [] = refl
all_turned p (x ∷ xs) =
    ap (list_all p) (reverse-append (x ∷ []) xs)
    ∙ (list_all-append p (reverse xs) (x ∷ [])
    ∙ (ap (λ (b : Bool). b && (p x && true)) (all_turned p xs) ∙ both_turned (list_all p xs) (p x)))

commands_turned : (calls : List (Held Call)) → are_commands (map frame_of (reverse calls)) ≡ list_all is_command calls
commands_turned calls = list_all-map (λ (f : Frame). f.is_command) frame_of (reverse calls) ∙ all_turned is_command calls

-- the newest call, and those below it, the newest of them last
pub each_command : (newest : Held Call) (calls below : List (Held Call)) → reverse calls ≡ below → (is_command newest && list_all is_command calls) ≡ are_commands (frame_of newest ∷ map frame_of below)
each_command newest calls below same =
    ap (λ (b : Bool). is_command newest && b) (sym (commands_turned calls) ∙ ap (λ (fs : List (Held Call)). are_commands (map frame_of fs)) same)

either_turned : (a b : Bool) → (a || (b || false)) ≡ (b || a)
either_turned true true = refl
either_turned true false = refl
either_turned false true = refl
either_turned false false = refl

any_turned : {A : Type 0} (p : A → Bool) (xs : List A) → list_any p (reverse xs) ≡ list_any p xs
any_turned p [] = refl
any_turned p (x ∷ xs) =
    ap (list_any p) (reverse-append (x ∷ []) xs)
    ∙ (list_any-append p (reverse xs) (x ∷ [])
    ∙ (ap (λ (b : Bool). b || (p x || false)) (any_turned p xs) ∙ either_turned (list_any p xs) (p x)))

pub changing_turned : (table : Name) (tables : List Name) → is_changing (Some table) (reverse tables) ≡ list_any (λ (t : Name). bytes_eq t table) tables
changing_turned table tables = any_turned (λ (t : Name). bytes_eq t table) tables

-- ---- the newest

pub with_last : {A : Type 0} (x : A) (xs : List A) → reverse (xs ++ x ∷ []) ≡ x ∷ reverse xs
with_last x xs = reverse-append xs (x ∷ [])

pub without_last : {A : Type 0} (old new : List A) (o : Option A) (n m : ℕ) → old ≡ new ++ option_to_list o → MatchOption o ((n ≡ 0) × (m ≡ 0)) (λ x. m + 1 ≡ n) → new ≡ take (n - 1) old → drop 1 (reverse old) ≡ reverse new
without_last {A} old new (Some x) n m is cases rest = ap (λ (xs : List A). drop 1 (reverse xs)) is ∙ ap (λ (xs : List A). drop 1 xs) (reverse-append new (x ∷ []))
without_last {A} old new None n m is cases rest =
    let none : new ≡ [] = rest ∙ ap (λ (k : ℕ). take (k - 1) old) cases.0 in
    let nothing : old ≡ [] = is ∙ (append-nil new ∙ none) in
    ap (λ (xs : List A). drop 1 (reverse xs)) nothing ∙ sym (ap (λ (xs : List A). reverse xs) none)
