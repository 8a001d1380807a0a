-- The line that `read_words` answers.
use Rattle.std.specs.Prelude.{List, [], ◌∷◌, Bool, Option, Some, None, codes}
use Rattle.clap.specs.Words.{first_value}
use Rattle.clap.specs.declared.parser.matches.Found.{Found}
use Rattle.pl_cli.specs.Line.{Asked, Word, asked_by, steps_of}
use Rattle.pl_cli.specs.declared.line.Line.{Line}

-- what it asks for
abbrev pub asked_in : Line → Asked
asked_in line = record { store = line.store.now; script = line.script.now; steps = line.steps; stops_on_error = line.stops_on_error }

-- The rest serves the proof alone: what clap's matches ask for, where they stop at an error or don't.
abbrev pub option_items : Option Word → List Word
option_items None = []
option_items (Some v) = v ∷ []

abbrev pub line_by : Option Word → Option Word → Option Word → Bool → Option Asked
line_by (Some store) (Some script) steps stop = asked_by (store ∷ script ∷ []) (steps_of (option_items steps)) (Some stop)
line_by None script steps stop = None
line_by (Some store) None steps stop = None

abbrev pub matched_line : Found → Bool → Option Asked
matched_line f stop = line_by (first_value f (codes "store")) (first_value f (codes "script")) (first_value f (codes "steps")) stop
