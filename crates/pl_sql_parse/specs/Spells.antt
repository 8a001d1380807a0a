-- Which tokens of a text spell a command.
use Rattle.std.specs.Prelude.{◌≡◌, ◌≤◌, ◌||◌, ℕ, length, Bool, true, false, List, Result, Ok, Err}
use Rattle.pl_lex.specs.Characters.{Text}
use Rattle.pl_lex.specs.Slices.{slice_of}
use Rattle.pl_lex.specs.Lexemes.{StandIn}
use Rattle.pl_lex.specs.declared.token.Token.{Token}
use Rattle.pl_tree.specs.declared.command.Command.{Command}
use Rattle.pl_tree.specs.declared.command.Command.TheVariants as c
use Rattle.pl_tree.specs.declared.command.Definition.{Definition}
use Rattle.pl_grammar.specs.Marks.{Tokens, kinds, sees}
use Rattle.pl_grammar.specs.Rule.{SpelledBy}
use Rattle.pl_grammar.specs.Deep.{Deep, IsShallow}
use Rattle.pl_grammar.specs.declared.fail.ParseFail.{ParseFail}
use Rattle.pl_grammar.specs.declared.fail.ParseFail.TheVariants as fail
use Rattle.pl_sql_parse.specs.Grammar.{Command as ACommand, Definition as ADefinition, rule}
use Rattle.pl_sql_parse.specs.LeftOut.{is_left_out}
use Rattle.pl_sql_parse.specs.Words.{CREATE, DROP}

-- CREATE or DROP comes first
abbrev pub begins_definition : Tokens → Bool
begins_definition ts = sees CREATE ts || sees DROP ts

-- the tokens stand in the text, in order
abbrev pub Placed : Text → List Token → Type 0
Placed text ts = (from : ℕ) × (end : ℕ) × (end ≤ length text) × StandIn text from end ts

-- the tokens spell the command; a definition has its text too
pub data SpellsCommand (text : Text) : Command → List Token → Type 0 where
  command : {x : Command} {ts : List Token} → SpelledBy rule ACommand x (kinds ts) → SpellsCommand text x ts
  definition : {x : Definition} {ts : List Token} → SpelledBy rule ADefinition x (kinds ts) → SpellsCommand text (c.Define x (slice_of text ts)) ts

abbrev pub NoneSpells : Text → List Token → Type 0
NoneSpells text ts = (x : Command) → SpellsCommand text x ts → ⊥

-- NotSupported comes exactly where the first words are of a command that is left out, TooDeep otherwise exactly where the tokens are deep, and
-- Syntax otherwise exactly where they spell no command
abbrev pub Answers : Text → Result Command ParseFail → List Token → Type 0
Answers text (Ok x) ts = (is_left_out (kinds ts) ≡ false) × IsShallow (kinds ts)
Answers text (Err fail.NotSupported) ts = is_left_out (kinds ts) ≡ true
Answers text (Err (fail.TooDeep at)) ts = (is_left_out (kinds ts) ≡ false) × Deep (kinds ts) at
Answers text (Err fail.Syntax) ts = (is_left_out (kinds ts) ≡ false) × IsShallow (kinds ts) × NoneSpells text ts
Answers text (Err fail.Memory) ts = Unit {0}
