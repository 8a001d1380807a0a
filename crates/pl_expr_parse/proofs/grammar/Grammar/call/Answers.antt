use Rattle.std.proofs.Common.{◌≡◌, ◌∙◌, None, Some, true, rules, ap}
use Rattle.pl_grammar.specs.Marks.{sees}
use Rattle.pl_grammar.specs.Words.{OPEN}
use Rattle.pl_grammar.specs.declared.fail.Fail.TheVariants.{Syntax}
use Rattle.pl_expr_parse.specs.Grammar.{Call}
use Rattle.pl_expr_parse.specs.FirstFollow.{reads_part}
use Rattle.pl_expr_parse.proofs.Step.{step}
use Rattle.pl_expr_parse.proofs.Follows.{fork_then, given}
use Rattle.pl_expr_parse.proofs.grammar.Grammar.call.Goals as goal

pub returns-in_err-arguments : goal.returns-in_err-arguments
returns-in_err-arguments g c =
    let d = c.args.self.now.depth in
    let ts = c.args.tokens.now in
    let mid = c.eat.new.self in
    let told : sees OPEN ts ≡ true = search rules in
    let none : c.in_err-arguments.field-0.0 ≡ Syntax → reads_part d Call ts ≡ None =
    λ is. step d Call ts ∙ fork_then OPEN _ _ ts mid told c.eat.ensures.new ∙ ap (given (λ xs. Some (Some xs))) (c.in_err-arguments.ensures is) in
    search rules

pub returns : goal.returns
returns g c =
    let d = c.args.self.now.depth in
    let ts = c.args.tokens.now in
    let mid = c.eat.new.self in
    let told : sees OPEN ts ≡ true = search rules in
    step d Call ts ∙ fork_then OPEN _ _ ts mid told c.eat.ensures.new ∙ ap (given (λ xs. Some (Some xs))) c.in_ok-arguments.ensures
