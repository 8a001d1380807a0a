use Rattle.std.proofs.Common.{rules, ◌≡◌, false}
use Rattle.pl_grammar.specs.Marks.{kinds}
use Rattle.pl_grammar.specs.Deep.{IsShallow}
use Rattle.pl_sql_parse.specs.LeftOut.{is_left_out}
use Rattle.pl_sql_parse.proofs.OneCommand.{made_spells, made_alone, none_made}
use Rattle.pl_sql_parse.proofs.parse.parse_command.Goals as goal

pub returns-in-Ok-clause-found : goal.returns-in-Ok-clause-found
returns-in-Ok-clause-found c = made_spells c.args.text.now c.args.tokens.now c.in-Ok.x c.in-Ok.ensures

pub returns-in-Ok-clause-only : goal.returns-in-Ok-clause-only
returns-in-Ok-clause-only c other spells = made_alone c.args.text.now c.args.tokens.now c.in-Ok.x other c.in-Ok.ensures spells

pub returns-in-Err-Syntax-clause-exact : goal.returns-in-Err-Syntax-clause-exact
returns-in-Err-Syntax-clause-exact c =
    let supported : is_left_out (kinds c.args.tokens.now) ≡ false = search rules in
    let shallow : IsShallow (kinds c.args.tokens.now) = search rules in
    (supported, shallow, none_made c.args.text.now c.args.tokens.now (c.in-Err-Syntax.ensures c.in-Err-Syntax.field-0-is))
