-- Parts that were read, and those of the columns that are left.
use Rattle.std.proofs.Common.{◌≡◌, List, [], ◌∷◌, ◌++◌, Option, None, Some, refl, ap}
use Rattle.std.specs.Option.{option_map}
use Rattle.std.proofs.lemmas.List.{append_assoc}
use Rattle.pl_unique.specs.declared.key.Part.{Part}
use Rattle.pl_unique.specs.Key.{before}

abbrev pub behind : List Part → Option (List Part) → Option (List Part)
behind ps more = option_map (λ (qs : List Part). ps ++ qs) more

pub behind_more : (ps : List Part) (p : Part) (more : Option (List Part)) → behind (ps ++ p ∷ []) more ≡ behind ps (before (Some p) more)
behind_more ps p None = refl
behind_more ps p (Some qs) = ap (λ (l : List Part). let o : Option (List Part) = Some l in o) (append_assoc ps (p ∷ []) qs)
