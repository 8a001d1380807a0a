use Rattle.std.proofs.Common.{◌≡◌, None, rules, ap}
use Rattle.pl_grammar.specs.Parser.{Outcome, and_then, expect}
use Rattle.pl_grammar.specs.Words.{FATAL_ERRORS, ARROW}
use Rattle.pl_grammar.specs.declared.fail.Fail.TheVariants.{Syntax}
use Rattle.pl_expr_parse.proofs.Follows.{bound}
use Rattle.pl_expr_parse.proofs.operators.past_name.Goals as goal

pub returns-in_err-expect : goal.returns-in_err-expect
returns-in_err-expect c =
    let ts = c.args.tokens.now in
    let word : c.in_err-expect.field-0.0 ≡ Syntax → expect FATAL_ERRORS ts ≡ None = c.in_err-expect.ensures in
    let none : c.in_err-expect.field-0.0 ≡ Syntax → and_then (expect FATAL_ERRORS ts) (λ _ ts. expect ARROW ts) ≡ None =
    λ is. ap (λ (o : Outcome (Unit {0})). and_then o (λ _ ts. expect ARROW ts)) (word is) in
    search rules

pub returns : goal.returns
returns c =
    let ts = c.args.tokens.now in
    bound (expect FATAL_ERRORS ts) (λ _ ts. expect ARROW ts) c.in_ok-expect.field-0 c.expect.new.self c.expect-2.new.self c.expect-2.result c.in_ok-expect.ensures c.expect-2.ensures
