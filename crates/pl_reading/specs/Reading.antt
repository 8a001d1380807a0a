-- What the tokens of a command are read as, in the order in which its refusals come.
use Rattle.std.specs.Prelude.{◌≡◌, ℕ, List, [], ◌∷◌, true, false, Result, Ok, Err}
use Rattle.pl_base.specs.States.{SYNTAX_ERROR, FEATURE_NOT_SUPPORTED, STATEMENT_TOO_COMPLEX}
use Rattle.pl_lex.specs.Characters.{Text}
use Rattle.pl_lex.specs.declared.token.Bad.{Bad}
use Rattle.pl_lex.specs.declared.token.Piece.{Piece}
use Rattle.pl_lex.specs.declared.token.Token.{Token}
use Rattle.pl_tree.specs.declared.command.Command.{Command}
use Rattle.pl_grammar.specs.Marks.{kinds}
use Rattle.pl_grammar.specs.Deep.{Deep, IsShallow}
use Rattle.pl_sql_parse.specs.LeftOut.{is_left_out}
use Rattle.pl_sql_parse.specs.Spells.{SpellsCommand}
use Rattle.pl_reading.specs.declared.reading.Reading.{Reading}
use Rattle.pl_reading.specs.declared.reading.Reading.TheVariants.{Nothing, Refused, Spelled}

-- the tokens of a command, of which there is at least one
pub data IsCommandRead (text : Text) (tokens : List Token) (reading : Reading) : Type 0 where
  -- its first words are those of a command that is left out
  left_out : is_left_out (kinds tokens) ≡ true
      → reading ≡ Refused FEATURE_NOT_SUPPORTED → IsCommandRead text tokens reading
  -- its parts stand inside one another too deep
  too_deep : is_left_out (kinds tokens) ≡ false → (at : ℕ) → Deep (kinds tokens) at
      → reading ≡ Refused STATEMENT_TOO_COMPLEX → IsCommandRead text tokens reading
  -- no tree is spelled so
  no_command : is_left_out (kinds tokens) ≡ false → IsShallow (kinds tokens) → ((command : Command) → SpellsCommand text command tokens → ⊥)
      → reading ≡ Refused SYNTAX_ERROR → IsCommandRead text tokens reading
  -- a tree is
  a_command : is_left_out (kinds tokens) ≡ false → IsShallow (kinds tokens) → (command : Command) → SpellsCommand text command tokens
      → reading ≡ Spelled command → IsCommandRead text tokens reading

abbrev pub IsRead : Text → List Token → Reading → Type 0
IsRead text [] reading = reading ≡ Nothing
IsRead text (token ∷ tokens) reading = IsCommandRead text (token ∷ tokens) reading

-- a piece of a script: its first bad lexeme comes before all
abbrev pub IsOutcomeRead : Text → Result (List Token) Bad → Reading → Type 0
IsOutcomeRead text (Err bad) reading = reading ≡ Refused bad.state
IsOutcomeRead text (Ok tokens) reading = IsRead text tokens reading

abbrev pub IsPieceRead : Text → Piece → Reading → Type 0
IsPieceRead text piece reading = IsOutcomeRead text piece.tokens reading
