use Rattle.std.proofs.Common.{rules, ◌≡◌, true}
use Rattle.pl_grammar.specs.Marks.{sees}
use Rattle.pl_grammar.specs.Forms.{list_of}
use Rattle.pl_grammar.specs.Rule.{part}
use Rattle.pl_grammar.specs.Words.{FROM}
use Rattle.pl_expr_parse.specs.Grammar.{From, Sources, rule}
use Rattle.pl_expr_parse.specs.FirstFollow.{reads, reads_part}
use Rattle.pl_expr_parse.proofs.Step.{gives_all}
use Rattle.pl_expr_parse.proofs.Follows.{as_is, fork_then}
use Rattle.pl_expr_parse.proofs.grammar.Grammar.sources.Goals as goal

pub returns : goal.returns
returns g c =
    let d = c.args.self.now.depth in
    let ts = c.args.tokens.now in
    let mid = c.eat.new.self in
    let told : sees FROM ts ≡ true = search rules in
    gives_all d Sources ts c.list.result c.list.new.tokens
    (as_is (reads d (rule Sources) ts) (reads d (list_of (part From)) mid) c.list.result c.list.new.tokens (fork_then FROM _ _ ts mid told c.eat.ensures.new)
    (c.list.ensures (reads_part d From) (record { reads = λ old new r h. search rules })))
