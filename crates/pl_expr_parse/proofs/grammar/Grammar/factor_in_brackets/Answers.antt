use Rattle.pl_grammar.specs.declared.fail.Fail.TheVariants.{Syntax}
use Rattle.std.proofs.Common.{[], Some, Err, rules, ap, ◌∙◌, ◌≡◌, true, false, Bool, if◌then◌else◌, ◌∷◌, None}
use Rattle.pl_grammar.specs.Marks.{begins}
use Rattle.pl_grammar.specs.Rule.{part, inside, make, ◌then◌, ◌until◌}
use Rattle.pl_grammar.specs.Words.{SELECT, CLOSE}
use Rattle.pl_expr_parse.specs.Grammar.{Query, From, FactorInBrackets, Alias, rule}
use Rattle.pl_expr_parse.specs.FirstFollow.{reads, reads_part, reads_inside}
use Rattle.pl_expr_parse.specs.Follows.{before}
use Rattle.pl_expr_parse.proofs.Step.{gives_all}
use Rattle.pl_expr_parse.proofs.Follows.{as_is, given, two, second}
use Rattle.pl_tree.specs.declared.tree.From.TheVariants as f
use Rattle.pl_expr_parse.proofs.grammar.Grammar.factor_in_brackets.Goals as goal

pub returns-in_err-query : goal.returns-in_err-query
returns-in_err-query g c =
    let d = c.args.self.now.depth in
    let ts = c.args.tokens.now in
    let told : begins (SELECT ∷ []) ts ≡ true = search rules in
    let query = reads_inside d Query ts in
    let err = c.in_err-query.field-0.0 in
    let none : c.in_err-query.field-0.0 ≡ Syntax → reads_part d FactorInBrackets ts ≡ None =
    gives_all d FactorInBrackets ts (Err err) c.until.new.tokens
    (λ is. ap (λ (b : Bool). (if b then reads d (make (λ p. f.Subquery p.0 p.1) ((inside Query until CLOSE) then part Alias)) else reads d (inside From until CLOSE)) ts) told
    ∙ ap (λ o. given (λ p. Some (f.Subquery p.0 p.1)) (two o (reads_part d Alias))) (c.in_err-query.ensures query c.inner_query-query.ensures is)) in
    search rules

pub returns-then-sees : goal.returns-then-sees
returns-then-sees g c =
    let d = c.args.self.now.depth in
    let ts = c.args.tokens.now in
    let told : begins (SELECT ∷ []) ts ≡ true = search rules in
    let query = reads_inside d Query ts in
    gives_all d FactorInBrackets ts c.subquery_of.result c.alias.new.tokens
    (as_is (reads d (rule FactorInBrackets) ts) (reads d (make (λ p. f.Subquery p.0 p.1) ((inside Query until CLOSE) then part Alias)) ts) c.subquery_of.result c.alias.new.tokens
    (ap (λ (b : Bool). (if b then reads d (make (λ p. f.Subquery p.0 p.1) ((inside Query until CLOSE) then part Alias)) else reads d (inside From until CLOSE)) ts) told)
    (second (λ p. Some (f.Subquery p.0 p.1)) (before CLOSE query) (reads_part d Alias) c.in_ok-query.query c.alias.result c.subquery_of.result c.until.new.tokens c.alias.new.tokens
    (c.in_ok-query.ensures query c.inner_query-query.ensures) (c.alias.ensures d) c.subquery_of.ensures))

pub returns : goal.returns
returns g c =
    let d = c.args.self.now.depth in
    let ts = c.args.tokens.now in
    let told : begins (SELECT ∷ []) ts ≡ false = search rules in
    let inner = reads_inside d From ts in
    gives_all d FactorInBrackets ts c.until-2.result c.until-2.new.tokens
    (as_is (reads d (rule FactorInBrackets) ts) (before CLOSE inner) c.until-2.result c.until-2.new.tokens
    (ap (λ (b : Bool). (if b then reads d (make (λ p. f.Subquery p.0 p.1) ((inside Query until CLOSE) then part Alias)) else reads d (inside From until CLOSE)) ts) told)
    (c.until-2.ensures inner c.inner_source-inner.ensures))
