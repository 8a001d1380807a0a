-- What a key feeds the hasher of its map.
use Rattle.std.specs.Prelude.{ℤ, List, [], ◌∷◌, Option, None, Some}
use Rattle.std.specs.Hash as fed
use Rattle.std.specs.Hash.{HashWrites}
use Rattle.pl_unique.specs.declared.key.Part.{Part}
use Rattle.pl_unique.specs.declared.key.Part.TheVariants.{Number, Text, Truth}
use Rattle.pl_unique.specs.contracts.key.PartHash.TheImpl as hashed

abbrev pub number_in : Part → Option ℤ
number_in (Number n) = Some n
number_in (Text t) = None
number_in (Truth b) = None

-- the number of a key that has no other part
abbrev pub alone : List Part → Option ℤ
alone [] = None
alone (p ∷ []) = number_in p
alone (p ∷ q ∷ ps) = None

-- a number that is alone feeds what numbers feed
abbrev pub fed_by : Option ℤ → List Part → HashWrites
fed_by None parts = fed.slice (hashed.ghosts).hash_input parts
fed_by (Some n) parts = fed.i64 n

abbrev pub fed_key : List Part → HashWrites
fed_key parts = fed_by (alone parts) parts
