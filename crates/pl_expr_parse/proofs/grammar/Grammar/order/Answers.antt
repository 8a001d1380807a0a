use Rattle.std.proofs.Common.{rules, ◌≡◌, true}
use Rattle.pl_grammar.specs.Marks.{sees}
use Rattle.pl_grammar.specs.Forms.{list_of}
use Rattle.pl_grammar.specs.Rule.{part}
use Rattle.pl_grammar.specs.Parser.{expect, and_then}
use Rattle.pl_grammar.specs.Words.{ORDER, BY}
use Rattle.pl_expr_parse.specs.Grammar.{Order, Key, rule}
use Rattle.pl_expr_parse.specs.FirstFollow.{reads, reads_part}
use Rattle.pl_expr_parse.proofs.Step.{gives_all}
use Rattle.pl_expr_parse.proofs.Follows.{as_is, bound, fork_then}
use Rattle.pl_expr_parse.proofs.grammar.Grammar.order.Goals as goal

pub returns : goal.returns
returns g c =
    let d = c.args.self.now.depth in
    let ts = c.args.tokens.now in
    let mid = c.eat.new.self in
    let told : sees ORDER ts ≡ true = search rules in
    gives_all d Order ts c.list.result c.list.new.tokens
    (as_is (reads d (rule Order) ts) (and_then (expect BY mid) (λ _ ts. reads d (list_of (part Key)) ts)) c.list.result c.list.new.tokens (fork_then ORDER _ _ ts mid told c.eat.ensures.new)
    (bound (expect BY mid) (λ _ ts. reads d (list_of (part Key)) ts) c.in_ok-expect.field-0 c.expect.new.self c.list.new.tokens c.list.result c.in_ok-expect.ensures
    (c.list.ensures (reads_part d Key) (record { reads = λ old new r h. search rules }))))
