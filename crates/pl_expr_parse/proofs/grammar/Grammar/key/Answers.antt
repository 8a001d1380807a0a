use Rattle.std.proofs.Common.{Some}
use Rattle.pl_expr_parse.specs.Grammar.{Direction, Expression, Key, Nulls}
use Rattle.pl_expr_parse.specs.Trees.{key_of}
use Rattle.pl_expr_parse.specs.FirstFollow.{reads_inside, reads_part}
use Rattle.pl_expr_parse.proofs.Step.{gives_all}
use Rattle.pl_expr_parse.proofs.Follows.{third}
use Rattle.pl_expr_parse.proofs.grammar.Grammar.key.Goals as goal

pub returns : goal.returns
returns g c =
    let d = c.args.self.now.depth in
    let ts = c.args.tokens.now in
    let value = reads_inside d Expression ts in
    let direction = reads_part d Direction in
    let nulls = reads_part d Nulls in
    gives_all d Key ts c.key_of.result c.nulls.new.tokens
    (third (λ p. Some (key_of p.0 p.1.0 p.1.1)) value direction nulls
    c.in_ok-value.value c.direction-is_descending.result c.nulls.result c.key_of.result c.inner.new.tokens c.direction-is_descending.new.tokens c.nulls.new.tokens
    c.in_ok-value.ensures (c.direction-is_descending.ensures d) (c.nulls.ensures d) c.key_of.ensures)
