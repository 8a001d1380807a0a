use Rattle.pl_body_control.proofs.statements.before_semicolon.Goals as goal

pub returns : goal.returns
returns c = c.until.ensures _ c.boxed_expression-value.ensures
