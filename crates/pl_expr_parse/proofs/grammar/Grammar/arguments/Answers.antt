use Rattle.std.proofs.Common.{rules, ◌≡◌, false}
use Rattle.pl_grammar.specs.Marks.{sees}
use Rattle.pl_grammar.specs.Words.{CLOSE}
use Rattle.pl_expr_parse.specs.Grammar.{Arguments, ArgumentList, Argument, rule}
use Rattle.pl_expr_parse.specs.FirstFollow.{reads, reads_part}
use Rattle.pl_expr_parse.specs.Follows.{before}
use Rattle.pl_expr_parse.proofs.Step.{gives_all}
use Rattle.pl_expr_parse.proofs.Follows.{as_is, fork_else}
use Rattle.pl_expr_parse.proofs.grammar.Grammar.arguments.Goals as goal

pub returns : goal.returns
returns g c =
    let d = c.args.self.now.depth in
    let ts = c.args.tokens.now in
    let told : sees CLOSE ts ≡ false = search rules in
    let mid = c.eat.new.self in
    let list = reads_part d ArgumentList mid in
    let listed = gives_all d ArgumentList mid c.list-arguments.result c.list-arguments.new.tokens (c.list-arguments.ensures (reads_part d Argument) (record { reads = λ old new r h. search rules })) in
    gives_all d Arguments ts c.until.result c.until.new.tokens
    (as_is (reads d (rule Arguments) ts) (before CLOSE list) c.until.result c.until.new.tokens (fork_else CLOSE _ _ ts mid told c.eat.ensures.new)
    (c.until.ensures list listed))
