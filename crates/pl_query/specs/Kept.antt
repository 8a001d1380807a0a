-- The tables that are kept while a statement runs; no definition.
use Rattle.std.specs.Prelude.{◌≡◌, List, [], ◌∷◌}
use Rattle.pl_query.specs.Sources.{Tables, alone, frames}
use Rattle.pl_query.specs.declared.cache.KeptTable.{KeptTable}

-- what is kept are the rows of the table of its name
abbrev pub IsKept : Tables → KeptTable → Type 0
IsKept tables k = k.bundles ≡ frames (alone (tables k.name))

abbrev pub AreKept : Tables → List KeptTable → Type 0
AreKept tables [] = Unit {0}
AreKept tables (k ∷ kept) = IsKept tables k × AreKept tables kept
