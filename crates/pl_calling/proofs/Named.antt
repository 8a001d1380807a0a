-- The name that a failure of an evaluation has as the error of a statement.
use Rattle.std.proofs.Common.{◌≡◌, Bool, false, List, [], ◌∷◌, ap, if◌then◌else◌, refl, sym}
use Rattle.std.specs.List.{list_any}
use Rattle.std.specs.Prelude.{bytes_eq}
use Rattle.pl_base.specs.States.{INTERNAL_ERROR}
use Rattle.pl_base.specs.declared.state.State.{State}
use Rattle.pl_engine.specs.pl_world.Errors.{as_run_state, decided_by_types}

-- none of them passes
abbrev pub NonePasses : (State → Bool) → List State → Type 0
NonePasses p [] = Unit {0}
NonePasses p (x ∷ xs) = (p x ≡ false) × NonePasses p xs

none_any : (p : State → Bool) (xs : List State) → NonePasses p xs → list_any p xs ≡ false
none_any p [] all = refl
none_any p (x ∷ xs) all = rw all.0 (none_any p xs all.1)

-- what types alone don't decide goes on as it is
pub as_it_is : (s : State) → NonePasses (λ x. bytes_eq x.code s.code) decided_by_types → s ≡ as_run_state s
as_it_is s all = ap (λ (b : Bool). if b then INTERNAL_ERROR else s) (sym (none_any (λ x. bytes_eq x.code s.code) decided_by_types all))
