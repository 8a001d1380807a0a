-- Lists that are seen backwards.
use Rattle.std.proofs.Common.{◌≡◌, ◌∙◌, ap, sym, List, []}
use Rattle.std.specs.Prelude.{reverse}
use Rattle.std.proofs.lemmas.List.{reverse-reverse}

pub none_turned : {A : Type 0} (xs : List A) → reverse xs ≡ [] → xs ≡ []
none_turned xs h = sym (reverse-reverse xs) ∙ ap reverse h

pub turned_none : {A : Type 0} (xs : List A) → xs ≡ [] → reverse xs ≡ []
turned_none xs h = ap reverse h

pub ruleset turned = (none_turned, turned_none)
