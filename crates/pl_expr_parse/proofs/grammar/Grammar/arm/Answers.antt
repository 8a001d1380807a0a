use Rattle.pl_grammar.specs.declared.fail.Fail.TheVariants.{Syntax}
use Rattle.std.proofs.Common.{Some, Err, ap, ◌∙◌, rules, ◌≡◌, None}
use Rattle.pl_grammar.specs.Words.{THEN}
use Rattle.pl_expr_parse.specs.Grammar.{Expression, Arm, rule, Tree}
use Rattle.pl_expr_parse.specs.Trees.{arm_of}
use Rattle.pl_expr_parse.specs.FirstFollow.{reads, reads_inside, reads_part}
use Rattle.pl_expr_parse.specs.Follows.{before}
use Rattle.pl_expr_parse.proofs.Step.{gives_all}
use Rattle.pl_expr_parse.proofs.Follows.{as_is, given, two, second, before_two}
use Rattle.pl_expr_parse.proofs.grammar.Grammar.arm.Goals as goal

pub returns-in_err-when : goal.returns-in_err-when
returns-in_err-when g c =
    let d = c.args.self.now.depth in
    let ts = c.args.tokens.now in
    let inner = reads_inside d Expression in
    let err = c.in_err-when.field-0.0 in
    let none : c.in_err-when.field-0.0 ≡ Syntax → reads_part d Arm ts ≡ None =
    gives_all d Arm ts (Err err) c.until.new.tokens
    (λ is. ap (given (λ p. Some (arm_of p.0 p.1))) (before_two THEN (inner ts) inner ∙ ap (λ o. two o inner) (c.in_err-when.ensures (inner ts) c.inner-when.ensures is))) in
    search rules

pub returns : goal.returns
returns g c =
    let d = c.args.self.now.depth in
    let ts = c.args.tokens.now in
    let inner = reads_inside d Expression in
    let make_arm = λ (p : Tree Expression × Tree Expression). Some (arm_of p.0 p.1) in
    gives_all d Arm ts c.arm_of.result c.inner.new.tokens
    (as_is (reads d (rule Arm) ts) (given make_arm (two (before THEN (inner ts)) inner)) c.arm_of.result c.inner.new.tokens
    (ap (given make_arm) (before_two THEN (inner ts) inner))
    (second make_arm (before THEN (inner ts)) inner c.in_ok-when.when c.inner.result c.arm_of.result c.until.new.tokens c.inner.new.tokens
    (c.in_ok-when.ensures (inner ts) c.inner-when.ensures) c.inner.ensures c.arm_of.ensures))
