use Rattle.std.proofs.Common.{Some, ap, ◌∙◌, ◌≡◌}
use Rattle.pl_grammar.specs.Parser.{Outcome, expect, and_then}
use Rattle.pl_grammar.specs.Words.{SELECT}
use Rattle.pl_expr_parse.specs.Grammar.{Query, Selected}
use Rattle.pl_expr_parse.specs.Trees.{query_of}
use Rattle.pl_expr_parse.specs.FirstFollow.{reads, reads_part}
use Rattle.pl_expr_parse.specs.Smaller.{behind_items}
use Rattle.pl_expr_parse.proofs.Step.{gives_all}
use Rattle.pl_expr_parse.proofs.Follows.{second}
use Rattle.pl_expr_parse.proofs.grammar.Grammar.query.Goals as goal

pub returns : goal.returns
returns g c =
    let d = c.args.self.now.depth in
    let ts = c.args.tokens.now in
    let mid = c.expect.new.self in
    let new = c.behind_items.new.tokens in
    let selected = and_then (expect SELECT ts) (λ _ ts. reads_part d Selected ts) in
    let is_read : selected ≡ Some (c.in_ok-selected.selected, c.selected.new.tokens) =
    ap (λ (o : Outcome (Unit {0})). and_then o (λ _ ts. reads_part d Selected ts)) c.in_ok-expect.ensures ∙ c.in_ok-selected.ensures in
    gives_all d Query ts c.query_of.result new
    (second (λ p. Some (query_of p.0.0 p.0.1 p.1.0 p.1.1.0 p.1.1.1.0 p.1.1.1.1.0 p.1.1.1.1.1.0 p.1.1.1.1.1.1.0 p.1.1.1.1.1.1.1)) selected (reads d behind_items)
    c.in_ok-selected.selected c.behind_items.result c.query_of.result c.selected.new.tokens new is_read c.behind_items.ensures c.query_of.ensures)
