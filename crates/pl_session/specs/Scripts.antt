-- What is left of a script.
use Rattle.std.specs.Prelude.{◌≡◌, ℕ, List, [], ◌∷◌, Option, Some, None}
use Rattle.pl_lex.specs.Characters.{Text}
use Rattle.pl_lex.specs.Lexemes.{Cuts}
use Rattle.pl_lex.specs.declared.token.Piece.{Piece}
use Rattle.pl_reading.specs.Computed.{readings_of}
use Rattle.pl_reading.specs.declared.reading.Reading.{Reading}
use Rattle.pl_session.specs.declared.script.Next.{Next}

-- the readings of the pieces from a place on
abbrev pub Left : Text → ℕ → List Reading → Type 0
Left text at readings = (pieces : List Piece) × Cuts text at pieces × (readings ≡ readings_of text pieces)

-- the first of them, and the place from which the others stand
abbrev pub IsNextReading : Text → List Reading → Option Next → Type 0
IsNextReading text readings None = readings ≡ []
IsNextReading text readings (Some next) = (rest : List Reading) × (readings ≡ next.reading ∷ rest) × Left text next.after rest
