use Rattle.std.proofs.Common.{rules, ◌≡◌, ◌∙◌, sym, [], Some, None}
use Rattle.pl_grammar.specs.Marks.{kinds}
use Rattle.pl_grammar.specs.declared.fail.Fail.TheVariants.{Syntax}
use Rattle.pl_sql_parse.specs.Grammar.{Definition}
use Rattle.pl_sql_parse.specs.FirstFollow.{reads_part}
use Rattle.pl_sql_parse.specs.Computed.{command_in}
use Rattle.pl_lex.specs.Slices.{slice_of}
use Rattle.pl_sql_parse.proofs.OneCommand.{command_made, definition_made, no_definition_made}
use Rattle.pl_sql_parse.proofs.parse.shallow_command.Goals as goal

pub returns-then-not-begins_definition : goal.returns-then-not-begins_definition
returns-then-not-begins_definition c =
    command_made c.args.text.now c.args.tokens.now (sym c.begins_definition.ensures ∙ c.if-not-begins_definition.true) c.whole_command.result c.whole_command.ensures

pub returns-in_err-whole_definition : goal.returns-in_err-whole_definition
returns-in_err-whole_definition c =
    let none : c.in_err-whole_definition.field-0.0 ≡ Syntax → command_in c.args.text.now c.args.tokens.now ≡ None =
    λ e. no_definition_made c.args.text.now c.args.tokens.now (sym c.begins_definition.ensures ∙ c.if-not-begins_definition.false) c.in_err-whole_definition.field-0.0 c.in_err-whole_definition.ensures e in
    search rules

pub returns : goal.returns
returns c =
    let read : reads_part Definition (kinds c.args.tokens.now) ≡ Some (c.into_inner.result, []) = search rules in
    let is : c.in_ok-source.source ≡ slice_of c.args.text.now c.args.tokens.now = search rules in
    definition_made c.args.text.now c.args.tokens.now (sym c.begins_definition.ensures ∙ c.if-not-begins_definition.false) c.into_inner.result c.in_ok-source.source read is
