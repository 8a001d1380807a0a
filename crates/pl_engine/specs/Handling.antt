-- The marks that protected blocks go back to: PostgreSQL manual, "PL/pgSQL", "Trapping Errors".
use Rattle.std.specs.Prelude.{ℕ, ◌+◌, [], ◌∷◌, ◌++◌, get_or, take}
use Rattle.pl_engine.specs.Engines.{Kept, kept, world}
use Rattle.pl_engine.specs.declared.engine.Engine.{Engine}
use Rattle.pl_undo.specs.Database.{Database}
use Rattle.pl_world.specs.World.{World}

-- with one more mark, which keeps this database
abbrev pub with_mark : Database → Kept → Kept
with_mark db k = record k { marks = k.marks ++ db ∷ [] }

-- with the first so many marks
abbrev pub with_marks : ℕ → Kept → Kept
with_marks n k = record k { marks = take n k.marks }

-- what the mark of this number keeps of the world that it was set in
abbrev pub kept_at : ℕ → Engine → World
kept_at n e = record (world e) {
  database = get_or (kept e).marks n (world e).database;
  depth = n;
}

-- the same, where that mark stays
abbrev pub returned_to : ℕ → Engine → World
returned_to n e = record (kept_at n e) { depth = n + 1 }
