-- The command that tokens spell, computed: `one_command` proves that it is the one that `SpellsCommand` gives.
use Rattle.std.specs.Prelude.{List, [], Option, Some, None, option_map, if◌then◌else◌}
use Rattle.pl_lex.specs.Characters.{Text}
use Rattle.pl_lex.specs.declared.token.Token.{Token}
use Rattle.pl_tree.specs.declared.command.Command.{Command}
use Rattle.pl_tree.specs.declared.command.Command.TheVariants as c
use Rattle.pl_tree.specs.declared.command.Definition.{Definition}
use Rattle.pl_grammar.specs.Marks.{kinds}
use Rattle.pl_grammar.specs.Parser.{Outcome}
use Rattle.pl_sql_parse.specs.Grammar.{Command as ACommand, Definition as ADefinition}
use Rattle.pl_sql_parse.specs.FirstFollow.{reads_part}
use Rattle.pl_sql_parse.specs.Spells.{begins_definition}
use Rattle.pl_lex.specs.Slices.{slice_of}

-- what is read, if no token is left
abbrev pub all_read : {A : Type 0} → Outcome A → Option A
all_read (Some (a, [])) = Some a
all_read outcome = None

unfoldable pub command_in : Text → List Token → Option Command
command_in text ts =
    if begins_definition (kinds ts)
    then option_map (λ (x : Definition). c.Define x (slice_of text ts)) (all_read (reads_part ADefinition (kinds ts)))
    else all_read (reads_part ACommand (kinds ts))
