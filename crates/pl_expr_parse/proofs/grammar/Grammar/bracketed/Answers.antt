use Rattle.std.proofs.Common.{[], Some, rules, ap, ◌∙◌, ◌≡◌, true, false, Bool, if◌then◌else◌, ◌∷◌}
use Rattle.pl_grammar.specs.Marks.{begins}
use Rattle.pl_grammar.specs.Rule.{inside, make}
use Rattle.pl_grammar.specs.Words.{SELECT, CLOSE}
use Rattle.pl_expr_parse.specs.Grammar.{Expression, Query, Bracketed, rule}
use Rattle.pl_expr_parse.specs.FirstFollow.{reads, reads_inside}
use Rattle.pl_expr_parse.specs.Follows.{before}
use Rattle.pl_expr_parse.proofs.Step.{gives_all}
use Rattle.pl_expr_parse.proofs.Follows.{as_is, given, follows, before_made}
use Rattle.pl_tree.specs.declared.tree.Expr.TheVariants as e
use Rattle.pl_expr_parse.proofs.grammar.Grammar.bracketed.Goals as goal

pub returns-then-sees : goal.returns-then-sees
returns-then-sees g c =
    let d = c.args.self.now.depth in
    let ts = c.args.tokens.now in
    let told : begins (SELECT ∷ []) ts ≡ true = search rules in
    let query = reads_inside d Query ts in
    gives_all d Bracketed ts c.query_value_of.result c.until-query.new.tokens
    (as_is (reads d (rule Bracketed) ts) (given (λ q. Some (e.Subquery q)) (before CLOSE query)) c.query_value_of.result c.until-query.new.tokens
    (ap (λ (b : Bool). before CLOSE ((if b then reads d (make e.Subquery (inside Query)) else reads_inside d Expression) ts)) told ∙ before_made e.Subquery CLOSE query)
    (follows (λ q. Some (e.Subquery q)) (before CLOSE query) c.until-query.result c.query_value_of.result c.until-query.new.tokens
    (c.until-query.ensures query c.inner_query-query.ensures) c.query_value_of.ensures))

pub returns : goal.returns
returns g c =
    let d = c.args.self.now.depth in
    let ts = c.args.tokens.now in
    let told : begins (SELECT ∷ []) ts ≡ false = search rules in
    let inner = reads_inside d Expression ts in
    gives_all d Bracketed ts c.until.result c.until.new.tokens
    (as_is (reads d (rule Bracketed) ts) (before CLOSE inner) c.until.result c.until.new.tokens
    (ap (λ (b : Bool). before CLOSE ((if b then reads d (make e.Subquery (inside Query)) else reads_inside d Expression) ts)) told)
    (c.until.ensures inner c.inner-inner.ensures))
