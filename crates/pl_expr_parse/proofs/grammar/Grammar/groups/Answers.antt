use Rattle.std.proofs.Common.{◌≡◌, ◌∙◌, None, true, rules, ap}
use Rattle.pl_grammar.specs.Marks.{sees}
use Rattle.pl_grammar.specs.Parser.{Outcome, and_then, expect}
use Rattle.pl_grammar.specs.Words.{BY, GROUP}
use Rattle.pl_grammar.specs.declared.fail.Fail.TheVariants.{Syntax}
use Rattle.pl_expr_parse.specs.Grammar.{Expressions, Groups, rule}
use Rattle.pl_expr_parse.specs.FirstFollow.{reads, reads_part}
use Rattle.pl_expr_parse.proofs.Step.{gives_all, step}
use Rattle.pl_expr_parse.proofs.Follows.{as_is, bound, fork_then}
use Rattle.pl_expr_parse.proofs.grammar.Grammar.groups.Goals as goal

pub returns-in_err-expect : goal.returns-in_err-expect
returns-in_err-expect g c =
    let d = c.args.self.now.depth in
    let ts = c.args.tokens.now in
    let mid = c.eat.new.self in
    let told : sees GROUP ts ≡ true = search rules in
    let keys = reads_part d Expressions in
    let none : c.in_err-expect.field-0.0 ≡ Syntax → reads_part d Groups ts ≡ None =
    λ is. step d Groups ts ∙ fork_then GROUP _ _ ts mid told c.eat.ensures.new ∙ ap (λ (o : Outcome (Unit {0})). and_then o (λ _ ts. keys ts)) (c.in_err-expect.ensures is) in
    search rules

pub returns : goal.returns
returns g c =
    let d = c.args.self.now.depth in
    let ts = c.args.tokens.now in
    let mid = c.eat.new.self in
    let told : sees GROUP ts ≡ true = search rules in
    let keys = reads_part d Expressions in
    gives_all d Groups ts c.expressions.result c.expressions.new.tokens
    (as_is (reads d (rule Groups) ts) (and_then (expect BY mid) (λ _ ts. keys ts)) c.expressions.result c.expressions.new.tokens (fork_then GROUP _ _ ts mid told c.eat.ensures.new)
    (bound (expect BY mid) (λ _ ts. keys ts) c.in_ok-expect.field-0 c.expect.new.self c.expressions.new.tokens c.expressions.result c.in_ok-expect.ensures c.expressions.ensures))
