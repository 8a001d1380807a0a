use Rattle.std.proofs.Common.{rules}
use Rattle.pl_grammar.specs.Marks.{kinds}
use Rattle.pl_grammar.specs.Deep.{IsShallow}
use Rattle.pl_body_parse.proofs.Rows.{made_spells, made_alone, none_made}
use Rattle.pl_body_parse.proofs.parse.parse_body.Goals as goal

pub returns-in-Ok-clause-found : goal.returns-in-Ok-clause-found
returns-in-Ok-clause-found c = made_spells c.args.text.now c.args.tokens.now c.in-Ok.body c.in-Ok.ensures

pub returns-in-Ok-clause-only : goal.returns-in-Ok-clause-only
returns-in-Ok-clause-only c other spells = made_alone c.args.text.now c.args.tokens.now c.in-Ok.body other c.in-Ok.ensures spells

pub returns-in-Err-Syntax-clause-exact : goal.returns-in-Err-Syntax-clause-exact
returns-in-Err-Syntax-clause-exact c =
    let shallow : IsShallow (kinds c.args.tokens.now) = search rules in
    (shallow, none_made c.args.text.now c.args.tokens.now (c.in-Err-Syntax.ensures c.in-Err-Syntax.field-0-is))
