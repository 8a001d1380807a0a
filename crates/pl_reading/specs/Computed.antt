-- Readings, definitions and the pieces of a script, computed. What has to be believed is the relations: a piece's reading is the one of
-- `IsPieceRead` by the law `one_reading`, a text's definition the one of `Defines` by `one_definition`, and a script's readings those of
-- `Readings` by `one_trace`.
use Rattle.std.specs.Prelude.{◌≡◌, ◌||◌, List, [], ◌∷◌, length, map, Bool, false, Option, Some, None, Result, Ok, Err, nat_lt, if◌then◌else◌}
use Rattle.pl_base.specs.States.{SYNTAX_ERROR, FEATURE_NOT_SUPPORTED, STATEMENT_TOO_COMPLEX}
use Rattle.pl_codec.specs.Spelling.{is_define_text}
use Rattle.pl_lex.specs.Characters.{Text}
use Rattle.pl_lex.specs.Computed.{lexemes}
use Rattle.pl_lex.specs.Lexemes.{Lexeme, first_bad, tokens_of, pieces_from}
use Rattle.pl_lex.specs.declared.token.Bad.{Bad}
use Rattle.pl_lex.specs.declared.token.Piece.{Piece}
use Rattle.pl_lex.specs.declared.token.Token.{Token}
use Rattle.pl_tree.specs.declared.command.Command.{Command}
use Rattle.pl_tree.specs.declared.command.Command.TheVariants as command
use Rattle.pl_tree.specs.declared.command.Definition.{Definition}
use Rattle.pl_grammar.specs.Marks.{Tokens, kinds}
use Rattle.pl_grammar.specs.Deep.{State as Parts, step, start, max_parts}
use Rattle.pl_sql_parse.specs.LeftOut.{is_left_out}
use Rattle.pl_sql_parse.specs.Computed.{command_in}
use Rattle.pl_reading.specs.Defining.{definition_of, stored_by, is_text_of}
use Rattle.pl_reading.specs.declared.reading.Reading.{Reading}
use Rattle.pl_reading.specs.declared.reading.Reading.TheVariants.{Nothing, Refused, Spelled}

-- ---- readings

abbrev pub deep_from : Parts → Tokens → Bool
deep_from parts [] = false
deep_from parts (t ∷ ts) = nat_lt max_parts (length (step parts t).parts) || deep_from (step parts t) ts

abbrev pub spelled : Option Command → Reading
spelled None = Refused SYNTAX_ERROR
spelled (Some command) = Spelled command

abbrev pub command_reading : Text → List Token → Reading
command_reading text tokens =
    if is_left_out (kinds tokens) then Refused FEATURE_NOT_SUPPORTED
    else (if deep_from start (kinds tokens) then Refused STATEMENT_TOO_COMPLEX else spelled (command_in text tokens))

unfoldable pub reading_of : Text → List Token → Reading
reading_of text [] = Nothing
reading_of text (token ∷ tokens) = command_reading text (token ∷ tokens)

abbrev pub outcome_reading : Text → Result (List Token) Bad → Reading
outcome_reading text (Err bad) = Refused bad.state
outcome_reading text (Ok tokens) = reading_of text tokens

abbrev pub piece_reading : Text → Piece → Reading
piece_reading text piece = outcome_reading text piece.tokens

-- ---- the definition that a text is

abbrev pub defined_by : Text → Reading → Option Definition
defined_by text (Spelled command) = if is_text_of text command then definition_of command else None
defined_by text reading = None

abbrev pub defined_unless : Option Bad → Text → List Token → Option Definition
defined_unless None text tokens = defined_by text (reading_of text tokens)
defined_unless (Some bad) text tokens = None

abbrev pub defined_in : Text → List Lexeme → Option Definition
defined_in text all = defined_unless (first_bad all) text (tokens_of all)

unfoldable pub definition_in : Text → Option Definition
definition_in text = if is_define_text text then defined_in text (lexemes 0 text) else None

abbrev pub CommandMeansAlike : Command → Type 0
CommandMeansAlike (command.Define x source) = definition_in source ≡ stored_by x source
CommandMeansAlike (command.Query query) = Unit {0}
CommandMeansAlike (command.Insert insert) = Unit {0}
CommandMeansAlike (command.Update update) = Unit {0}
CommandMeansAlike (command.Delete delete) = Unit {0}
CommandMeansAlike (command.Do language body) = Unit {0}
CommandMeansAlike (command.Call name arguments) = Unit {0}
CommandMeansAlike command.Begin = Unit {0}
CommandMeansAlike command.StartTransaction = Unit {0}
CommandMeansAlike command.Commit = Unit {0}
CommandMeansAlike command.Rollback = Unit {0}
CommandMeansAlike (command.Savepoint name) = Unit {0}
CommandMeansAlike (command.Release name) = Unit {0}
CommandMeansAlike (command.RollbackTo name) = Unit {0}

-- a definition means by its own text, read by itself, what it means where it was read
abbrev pub MeansAlike : Reading → Type 0
MeansAlike Nothing = Unit {0}
MeansAlike (Refused state) = Unit {0}
MeansAlike (Spelled command) = CommandMeansAlike command

-- ---- a script

abbrev pub pieces_in : Text → List Piece
pieces_in text = pieces_from (length text) 0 [] (lexemes 0 text)

abbrev pub readings_of : Text → List Piece → List Reading
readings_of text pieces = map (λ piece. piece_reading text piece) pieces

unfoldable pub script_readings : Text → List Reading
script_readings text = readings_of text (pieces_in text)
