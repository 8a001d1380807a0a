-- The parts of a key by how they are kept.
use Rattle.std.specs.Prelude.{List}
use Rattle.pl_unique.specs.declared.key.Part.{Part}
use Rattle.pl_unique.specs.declared.key_parts.Kept.{Kept}
use Rattle.pl_unique.specs.declared.key_parts.Kept.TheVariants.{One, Several}

abbrev pub parts_of : Kept → List Part
parts_of (One part) = part
parts_of (Several parts) = parts.items
