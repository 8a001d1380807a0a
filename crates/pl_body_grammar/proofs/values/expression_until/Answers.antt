use Rattle.pl_body_grammar.proofs.values.expression_until.Goals as goal

pub returns : goal.returns
returns c = c.until.ensures _ c.read_expression-value.ensures
