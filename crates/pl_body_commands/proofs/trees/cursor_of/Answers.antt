use Rattle.std.proofs.Common.{◌∙◌, sym, ap, subst, Option, rules}
use Rattle.pl_grammar.specs.Parser.{Makes}
use Rattle.pl_body_grammar.specs.Trees.{cursor_of}
use Rattle.pl_body_grammar.specs.declared.parts.ForSource.{ForSource}
use Rattle.pl_body_commands.proofs.Called.{name_is, call_is}
use Rattle.pl_body_commands.proofs.trees.cursor_of.Goals as goal

pub returns-in-Name : goal.returns-in-Name
returns-in-Name c =
    let e = ap cursor_of c.in-Name.is ∙ name_is c.in-Name.cursor in
    first_of (search rules, cc)

pub returns-in-Call : goal.returns-in-Call
returns-in-Call c =
    let e = ap cursor_of c.in-Call.is ∙ call_is c.in-Call.name c.in-Call.arguments in
    subst (λ (o : Option ForSource). Makes o c.called_cursor.result) (sym e) c.called_cursor.ensures
