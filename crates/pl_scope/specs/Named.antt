-- Proofs about the columns of a name, one after the other.
use Rattle.std.proofs.Common.{◌≡◌, ◌+◌, ◌∙◌, ℕ, List, ◌∷◌, Bool, true, false, Option, Some, None, Ok, Err, refl, ap, bytes_eq}
use Rattle.std.specs.List.{list_all}
use Rattle.std.specs.Prelude.{slice_get, ◌&&◌, if◌then◌else◌}
use Rattle.pl_base.specs.States.{AMBIGUOUS_COLUMN}
use Rattle.pl_base.specs.declared.state.State.{State}
use Rattle.pl_names.specs.Names.{Name}
use Rattle.pl_resolved.specs.declared.expression.RExpr.{RExpr}
use Rattle.pl_resolved.specs.declared.query.Head.{Head}
use Rattle.pl_scope.specs.Steps.{alike, one_of, places_named}
use Rattle.pl_typing.specs.Resolved.{Resolved, ◌>>=◌}

-- one more column: if it has the name, it is the same expression as the first one that has
abbrev pub with_named : Bool → ℕ → List RExpr → Option ℕ → Resolved (Option ℕ)
with_named false at values found = Ok found
with_named true at values None = Ok (Some at)
with_named true at values (Some place) =
    if alike (slice_get values place) (slice_get values at) then Ok (Some place)
    else Err AMBIGUOUS_COLUMN

-- the first place was found already, or none
abbrev pub beside : Option ℕ → List ℕ → List ℕ
beside None places = places
beside (Some at) places = at ∷ places

abbrev next : List RExpr → List ℕ → Option ℕ → Resolved (Option ℕ)
next values places found = one_of values (beside found places)

step : (is : Bool) (at : ℕ) (values : List RExpr) (found : Option ℕ) (places : List ℕ)
    → one_of values (beside found (if is then at ∷ places else places)) ≡ (with_named is at values found >>= next values places)
step false at values found places = refl
step true at values None places = refl
step true at values (Some place) places =
    let P = λ (p : ℕ). alike (slice_get values place) (slice_get values p) in
    (elim (P at) as (λ (b : Bool). (let r : Resolved (Option ℕ) = if b && list_all P places then Ok (Some place) else Err AMBIGUOUS_COLUMN in r)
    ≡ ((let r : Resolved (Option ℕ) = if b then Ok (Some place) else Err AMBIGUOUS_COLUMN in r) >>= next values places))
    [ true ↦ refl | false ↦ refl ])

pub one_more : (x : Name) (at : ℕ) (h : Head) (hs : List Head) (values : List RExpr) (found next_found : Option ℕ) → with_named (bytes_eq h.name x) at values found ≡ Ok next_found
    → one_of values (beside found (places_named x at (h ∷ hs))) ≡ one_of values (beside next_found (places_named x (at + 1) hs))
one_more x at h hs values found next_found is =
    step (bytes_eq h.name x) at values found (places_named x (at + 1) hs)
    ∙ ap (λ (r : Resolved (Option ℕ)). r >>= next values (places_named x (at + 1) hs)) is

pub another : (x : Name) (at : ℕ) (h : Head) (hs : List Head) (values : List RExpr) (found : Option ℕ) (state : State) → with_named (bytes_eq h.name x) at values found ≡ Err state
    → one_of values (beside found (places_named x at (h ∷ hs))) ≡ Err state
another x at h hs values found state is =
    step (bytes_eq h.name x) at values found (places_named x (at + 1) hs)
    ∙ ap (λ (r : Resolved (Option ℕ)). r >>= next values (places_named x (at + 1) hs)) is
