-- The definition that a command is, and its text.
use Rattle.std.specs.Prelude.{Bool, false, Option, Some, None, if◌then◌else◌}
use Rattle.std.specs.Str.{bytes_eq}
use Rattle.pl_codec.specs.Spelling.{is_define_text}
use Rattle.pl_lex.specs.Characters.{Text}
use Rattle.pl_tree.specs.declared.command.Command.{Command}
use Rattle.pl_tree.specs.declared.command.Command.TheVariants as command
use Rattle.pl_tree.specs.declared.command.Definition.{Definition}

-- the definition that a command is
abbrev pub definition_of : Command → Option Definition
definition_of (command.Define definition source) = Some definition
definition_of (command.Query query) = None
definition_of (command.Insert insert) = None
definition_of (command.Update update) = None
definition_of (command.Delete delete) = None
definition_of (command.Do language body) = None
definition_of (command.Call name arguments) = None
definition_of command.Begin = None
definition_of command.StartTransaction = None
definition_of command.Commit = None
definition_of command.Rollback = None
definition_of (command.Savepoint name) = None
definition_of (command.Release name) = None
definition_of (command.RollbackTo name) = None

-- the command is a definition whose text this is: from its first token's first byte to its last token's last byte
abbrev pub is_text_of : Text → Command → Bool
is_text_of text (command.Define definition source) = bytes_eq source text
is_text_of text (command.Query query) = false
is_text_of text (command.Insert insert) = false
is_text_of text (command.Update update) = false
is_text_of text (command.Delete delete) = false
is_text_of text (command.Do language body) = false
is_text_of text (command.Call name arguments) = false
is_text_of text command.Begin = false
is_text_of text command.StartTransaction = false
is_text_of text command.Commit = false
is_text_of text command.Rollback = false
is_text_of text (command.Savepoint name) = false
is_text_of text (command.Release name) = false
is_text_of text (command.RollbackTo name) = false

-- the definition, if its text can be stored
abbrev pub stored_by : Definition → Text → Option Definition
stored_by definition source = if is_define_text source then Some definition else None
