-- Parts that are the same.
use Rattle.std.proofs.Common.{◌≡◌, true, List, refl, ap}
use Rattle.std.specs.Bool.{Decides}
use Rattle.std.specs.Cmp.{signed_Decides, booleans_Decides}
use Rattle.std.proofs.lemmas.Bool.Decides.{Decides-eqb}
use Rattle.std.proofs.lemmas.Slice.Eq.{slice_eq-Decides}
use Rattle.pl_unique.specs.declared.key.Part.{Part}
use Rattle.pl_unique.specs.declared.key.Part.TheVariants.{Number, Text, Truth}
use Rattle.pl_unique.specs.contracts.key.PartPartialEq.TheImpl as parts
use Rattle.pl_unique.specs.Fed.{fed_key}
use Rattle.pl_unique.specs.Numbered.{same_key}

pub part_decides : (a b : Part) → Decides ((parts.ghosts).eq a b) (a ≡ b)
part_decides (Number x) (Number y) = (λ e. ap Number ((signed_Decides x y).0 e), λ e. (signed_Decides x y).1 cc)
part_decides (Number x) (Text y) = (λ e. absurd cc, λ e. absurd cc)
part_decides (Number x) (Truth y) = (λ e. absurd cc, λ e. absurd cc)
part_decides (Text x) (Number y) = (λ e. absurd cc, λ e. absurd cc)
part_decides (Text x) (Text y) = (λ e. ap Text ((slice_eq-Decides Decides-eqb x y _ refl).0 e), λ e. (slice_eq-Decides Decides-eqb x y _ refl).1 cc)
part_decides (Text x) (Truth y) = (λ e. absurd cc, λ e. absurd cc)
part_decides (Truth x) (Number y) = (λ e. absurd cc, λ e. absurd cc)
part_decides (Truth x) (Text y) = (λ e. absurd cc, λ e. absurd cc)
part_decides (Truth x) (Truth y) = (λ e. ap Truth ((booleans_Decides x y).0 e), λ e. (booleans_Decides x y).1 cc)

pub told : (a b : List Part) → same_key a b ≡ true → a ≡ b
told a b is = (slice_eq-Decides part_decides a b (same_key a b) refl).0 is

pub holds : (a b : List Part) → a ≡ b → same_key a b ≡ true
holds a b is = (slice_eq-Decides part_decides a b (same_key a b) refl).1 is

pub fed_alike : (a b : List Part) → same_key a b ≡ true → fed_key a ≡ fed_key b
fed_alike a b is = ap fed_key (told a b is)
