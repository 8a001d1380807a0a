use Rattle.pl_grammar.specs.declared.fail.Fail.TheVariants.{Syntax}
use Rattle.std.proofs.Common.{Some, None, Err, rules, ap, ◌∙◌, ◌≡◌, false}
use Rattle.pl_grammar.specs.Marks.{sees}
use Rattle.pl_grammar.specs.Rule.{part, inside, make, ◌then◌, ◌until◌, fork}
use Rattle.pl_grammar.specs.Parser.{expect}
use Rattle.pl_grammar.specs.Words.{WHEN, CASE}
use Rattle.pl_expr_parse.specs.Grammar.{Expression, Arms, Case}
use Rattle.pl_expr_parse.specs.FirstFollow.{reads, reads_part, reads_inside}
use Rattle.pl_expr_parse.specs.Follows.{before}
use Rattle.pl_expr_parse.proofs.Step.{gives_all}
use Rattle.pl_expr_parse.proofs.Follows.{as_is, given, bound, two, second, fork_else}
use Rattle.pl_tree.specs.declared.tree.Expr.TheVariants as e
use Rattle.pl_expr_parse.proofs.grammar.Grammar.case.Goals as goal

pub returns-in_err-operand : goal.returns-in_err-operand
returns-in_err-operand g c =
    let d = c.args.self.now.depth in
    let ts = c.args.tokens.now in
    let mid = c.expect.new.self in
    let next = c.eat.new.self in
    let err = c.in_err-operand.field-0.0 in
    let told : sees WHEN mid ≡ false = search rules in
    let none : c.in_err-operand.field-0.0 ≡ Syntax → reads_part d Case ts ≡ None =
    gives_all d Case ts (Err err) c.until.new.tokens
    (bound (expect CASE ts) (λ _ ts. reads d (fork WHEN (make (λ p. e.Case None p.0 p.1) (part Arms)) (make (λ p. e.Case (Some p.0) p.1.0 p.1.1) ((inside Expression until WHEN) then part Arms))) ts) c.in_ok-expect.field-0 mid c.until.new.tokens (Err err) c.in_ok-expect.ensures
    (λ is. fork_else WHEN _ _ mid next told c.eat.ensures.new
    ∙ ap (λ o. given (λ p. Some (e.Case (Some p.0) p.1.0 p.1.1)) (two o (reads_part d Arms))) (c.in_err-operand.ensures (reads_inside d Expression next) c.inner-operand.ensures is))) in
    search rules

pub returns : goal.returns
returns g c =
    let d = c.args.self.now.depth in
    let ts = c.args.tokens.now in
    let mid = c.expect.new.self in
    let next = c.eat.new.self in
    let new = c.arms-2.new.tokens in
    let told : sees WHEN mid ≡ false = search rules in
    let operand = before WHEN (reads_inside d Expression next) in
    gives_all d Case ts c.case_of.result new
    (bound (expect CASE ts) (λ _ ts. reads d (fork WHEN (make (λ p. e.Case None p.0 p.1) (part Arms)) (make (λ p. e.Case (Some p.0) p.1.0 p.1.1) ((inside Expression until WHEN) then part Arms))) ts) c.in_ok-expect.field-0 mid new c.case_of.result c.in_ok-expect.ensures
    (as_is (reads d (fork WHEN (make (λ p. e.Case None p.0 p.1) (part Arms)) (make (λ p. e.Case (Some p.0) p.1.0 p.1.1) ((inside Expression until WHEN) then part Arms))) mid) (reads d (make (λ p. e.Case (Some p.0) p.1.0 p.1.1) ((inside Expression until WHEN) then part Arms)) next) c.case_of.result new
    (fork_else WHEN _ _ mid next told c.eat.ensures.new)
    (second (λ p. Some (e.Case (Some p.0) p.1.0 p.1.1)) operand (reads_part d Arms) c.in_ok-operand.operand c.arms-2.result c.case_of.result c.until.new.tokens new
    (c.in_ok-operand.ensures (reads_inside d Expression next) c.inner-operand.ensures) c.arms-2.ensures c.case_of.ensures)))
