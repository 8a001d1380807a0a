use Rattle.std.proofs.Common.{◌≡◌, ◌∙◌, ℕ, Bool, true, false, List, Option, None, Some, refl, sym, ap, subst}
use Rattle.std.specs.Prelude.{IsSome}
use Rattle.std.specs.Option.{option_copied}
use Rattle.pl_unique.specs.declared.key.Part.{Part}
use Rattle.pl_unique.specs.RowKeys.{key_given, IsTakenIn}
use Rattle.pl_unique.proofs.row_keys.change_key.Goals as goal

are_there : (o : Option (List Part)) → IsSome o → (parts : List Part) × (o ≡ Some parts)
are_there (Some parts) some = (parts, refl)
are_there None some = absurd (let e : (let b : Bool = false in b ≡ true) = some in cc)

pub returns-in-Some-clause-taken : goal.returns-in-Some-clause-taken
returns-in-Some-clause-taken c at e =
    let here = c.in-Some.at in
    let same : here ≡ at = cc in
    let parts = are_there c.in-Ok.parts (c.holder.ensures.given here c.in-Some.is) in
    subst (λ (p : ℕ). IsTakenIn c.args.place (option_copied c.args.row) c.args.key.now p) same (record {
      parts = parts.0;
      has = ap (λ (columns : List ℕ). key_given columns (option_copied c.args.row)) (sym c.as_slice.ensures.value) ∙ (sym c.in-Ok.ensures ∙ parts.1);
      stands = c.holder.ensures.has here c.in-Some.is ∙ ap (λ (o : Option (List Part)). let r : Option (Option (List Part)) = Some o in r) parts.1;
      other = c.holder.ensures.some here c.in-Some.is;
    })
