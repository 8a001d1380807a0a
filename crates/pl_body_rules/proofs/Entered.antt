-- A variable that is declared goes behind the others.
use Rattle.std.proofs.Common.{◌≡◌, ◌∙◌, [], ◌∷◌, ◌++◌, Option, None, Some, Bool, true, false, true≢false, refl, ap, sym}
use Rattle.std.specs.Prelude.{bytes_eq, is_some, if◌then◌else◌}
use Rattle.std.specs.HashMap.{HashMap}
use Rattle.indexmap.specs.IndexMap.{insert_entry}
use Rattle.indexmap.proofs.CallerLemmas.{insert_entry-new}
use Rattle.pl_body_rules.specs.Frames.{Name, Variables, variable_in, with_variable}
use Rattle.pl_body_rules.specs.declared.variables.Variable.{Variable}

-- one that is there stays
pub known : (x : Name) (v : Variable) (vs : Variables) → is_some (variable_in x vs) ≡ true → with_variable x v vs ≡ vs
known x v vs is = ap (λ (b : Bool). if b then vs else vs ++ (x, v) ∷ []) is

absent : {A : Type 0} (o : Option A) → is_some o ≡ false → o ≡ None
absent None e = refl
absent (Some x) e = absurd (true≢false e)

pub added : {S : Type 0} (m : HashMap Name Variable S) (x : Name) (v : Variable) → is_some (variable_in x m.entries) ≡ false → insert_entry bytes_eq m.entries x v ≡ with_variable x v m.entries
added m x v none =
    insert_entry-new bytes_eq m x v (absent (variable_in x m.entries) none)
    ∙ sym (ap (λ (b : Bool). if b then m.entries else m.entries ++ (x, v) ∷ []) none)
