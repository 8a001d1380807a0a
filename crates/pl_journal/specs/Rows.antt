-- The rows of a database as queries read them.
use Rattle.std.specs.Prelude.{ℕ, List, map}
use Rattle.pl_query.specs.Sources.{Tables}
use Rattle.pl_tables.specs.Named.{Named, rows_named}
use Rattle.pl_value.specs.Frames.{Row}

-- the rows of each table, by their ids; none where there is no such table
abbrev pub tables_of : List Named → Tables
tables_of ts name = map (λ (entry : ℕ × Row). entry.1) (rows_named name ts)
