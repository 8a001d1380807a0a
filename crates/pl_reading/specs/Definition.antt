-- The definition that a stored text is.
use Rattle.std.specs.Prelude.{◌≡◌, List, true}
use Rattle.pl_lex.specs.Characters.{Text}
use Rattle.pl_lex.specs.Lexemes.{Lexemes}
use Rattle.pl_lex.specs.declared.token.Token.{Token}
use Rattle.pl_tree.specs.declared.command.Command.TheVariants as command
use Rattle.pl_tree.specs.declared.command.Definition.{Definition}
use Rattle.pl_codec.specs.Spelling.{is_define_text}
use Rattle.pl_reading.specs.Reading.{IsRead}
use Rattle.pl_reading.specs.declared.reading.Reading.TheVariants.{Spelled}

-- the text can be stored, and is one command from its first byte to its last: this definition
pub record Defines (text : Text) (definition : Definition) : Type 0 where
  pub fits : is_define_text text ≡ true
  pub tokens : List Token
  pub lexed : Lexemes tokens text
  pub read : IsRead text tokens (Spelled (command.Define definition text))
