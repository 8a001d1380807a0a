use Rattle.pl_grammar.specs.Parser.{expect}
use Rattle.pl_grammar.specs.Words.{CLOSE, OPEN}
use Rattle.pl_expr_parse.specs.Grammar.{Expressions, BracketedList}
use Rattle.pl_expr_parse.specs.FirstFollow.{reads_part}
use Rattle.pl_expr_parse.specs.Follows.{before}
use Rattle.pl_expr_parse.proofs.Step.{gives_all}
use Rattle.pl_expr_parse.proofs.Follows.{bound}
use Rattle.pl_expr_parse.proofs.grammar.Grammar.in_brackets.Goals as goal

pub returns : goal.returns
returns g c =
    let d = c.args.self.now.depth in
    let ts = c.args.tokens.now in
    let mid = c.expect.new.self in
    let list = reads_part d Expressions in
    gives_all d BracketedList ts c.until.result c.until.new.tokens
    (bound (expect OPEN ts) (λ _ ts. before CLOSE (list ts)) c.in_ok-expect.field-0 mid c.until.new.tokens c.until.result c.in_ok-expect.ensures
    (c.until.ensures (list mid) c.expressions-list.ensures))
