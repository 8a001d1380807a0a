use Rattle.std.proofs.Common.{◌++◌, ◌∷◌, [], ◌∙◌, List, sym, ap, ℕ}
use Rattle.std.specs.List.{slice_get}
use Rattle.std.proofs.lemmas.Option.{slice_get_within}
use Rattle.pl_unique.specs.declared.key.Part.{Part}
use Rattle.pl_unique.proofs.Numbers.{before_end, at_end}
use Rattle.pl_unique.proofs.key_map.number_for.Goals as goal

pub returns-in-Some-number_of-clause-within : goal.returns-in-Some-number_of-clause-within
returns-in-Some-number_of-clause-within c n is =
    slice_get_within c.args.keys.now n c.as_slice.result.now ((c.number_of.ensures n).0 (c.in-Some-number_of.is ∙ is))

pub returns-clause-kept : goal.returns-clause-kept
returns-clause-kept c n lt =
    ap (λ (l : List (List Part)). slice_get l n) c.in_ok-number.ensures.ok ∙ before_end c.args.keys.now c.in-Some.key n lt

pub returns-clause-is : goal.returns-clause-is
returns-clause-is c =
    ap (λ (l : List (List Part)). slice_get l c.in_ok-number.number) c.in_ok-number.ensures.ok
    ∙ (ap (λ (n : ℕ). slice_get (c.args.keys.now ++ c.in-Some.key ∷ []) n) c.in_ok-number.ensures.number
    ∙ (at_end c.args.keys.now c.in-Some.key ∙ sym c.in-Some.is))
