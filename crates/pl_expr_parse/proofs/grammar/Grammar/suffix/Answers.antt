use Rattle.std.proofs.Common.{◌≡◌, ◌∙◌, None, Some, true, false, rules, ap}
use Rattle.pl_expr_parse.specs.declared.parts.Suffix.TheVariants as suf
use Rattle.pl_grammar.specs.Marks.{sees}
use Rattle.pl_grammar.specs.Parser.{Outcome, and_then}
use Rattle.pl_grammar.specs.Words.{DOT, OPEN, STAR}
use Rattle.pl_grammar.specs.declared.fail.Fail.TheVariants.{Syntax}
use Rattle.pl_expr_parse.specs.Grammar.{Suffix}
use Rattle.pl_expr_parse.specs.FirstFollow.{reads_part}
use Rattle.pl_expr_parse.proofs.Step.{step}
use Rattle.pl_expr_parse.proofs.Follows.{fork_else, fork_then, given}
use Rattle.pl_expr_parse.proofs.grammar.Grammar.suffix.Goals as goal

pub returns-in_err-name : goal.returns-in_err-name
returns-in_err-name g c =
    let d = c.args.self.now.depth in
    let ts = c.args.tokens.now in
    let mid = c.eat.new.self in
    let told : sees DOT ts ≡ true = search rules in
    let none : c.in_err-name.field-0.0 ≡ Syntax → reads_part d Suffix ts ≡ None =
    λ is. step d Suffix ts ∙ fork_then DOT _ _ ts mid told c.eat.ensures.new ∙ ap (given (λ n. Some (suf.Column n))) (c.in_err-name.ensures is) in
    search rules

pub returns-then-eat : goal.returns-then-eat
returns-then-eat g c =
    let d = c.args.self.now.depth in
    let ts = c.args.tokens.now in
    let mid = c.eat.new.self in
    let told : sees DOT ts ≡ true = search rules in
    step d Suffix ts ∙ fork_then DOT _ _ ts mid told c.eat.ensures.new ∙ ap (given (λ n. Some (suf.Column n))) c.in_ok-name.ensures

pub returns-in_err-expect : goal.returns-in_err-expect
returns-in_err-expect g c =
    let d = c.args.self.now.depth in
    let ts = c.args.tokens.now in
    let mid = c.eat.new.self in
    let two_on = c.eat-2.new.self in
    let three_on = c.eat-3.new.self in
    let no_dot : sees DOT ts ≡ false = search rules in
    let opened : sees OPEN mid ≡ true = search rules in
    let starred : sees STAR two_on ≡ true = search rules in
    let none : c.in_err-expect.field-0.0 ≡ Syntax → reads_part d Suffix ts ≡ None =
    λ is. step d Suffix ts ∙ fork_else DOT _ _ ts mid no_dot c.eat.ensures.new ∙ fork_then OPEN _ _ mid two_on opened c.eat-2.ensures.new ∙ fork_then STAR _ _ two_on three_on starred c.eat-3.ensures.new
    ∙ ap (λ (o : Outcome (Unit {0})). and_then o (λ _ ts. Some (suf.AllRows, ts))) (c.in_err-expect.ensures is) in
    search rules

pub returns-in_err-arguments : goal.returns-in_err-arguments
returns-in_err-arguments g c =
    let d = c.args.self.now.depth in
    let ts = c.args.tokens.now in
    let mid = c.eat.new.self in
    let two_on = c.eat-2.new.self in
    let three_on = c.eat-3.new.self in
    let no_dot : sees DOT ts ≡ false = search rules in
    let opened : sees OPEN mid ≡ true = search rules in
    let no_star : sees STAR two_on ≡ false = search rules in
    let none : c.in_err-arguments.field-0.0 ≡ Syntax → reads_part d Suffix ts ≡ None =
    λ is. step d Suffix ts ∙ fork_else DOT _ _ ts mid no_dot c.eat.ensures.new ∙ fork_then OPEN _ _ mid two_on opened c.eat-2.ensures.new ∙ fork_else STAR _ _ two_on three_on no_star c.eat-3.ensures.new
    ∙ ap (given (λ xs. Some (suf.Call xs))) (c.in_err-arguments.ensures is) in
    search rules

pub returns : goal.returns
returns g c =
    let d = c.args.self.now.depth in
    let ts = c.args.tokens.now in
    let mid = c.eat.new.self in
    let two_on = c.eat-2.new.self in
    let three_on = c.eat-3.new.self in
    let no_dot : sees DOT ts ≡ false = search rules in
    let opened : sees OPEN mid ≡ true = search rules in
    let no_star : sees STAR two_on ≡ false = search rules in
    step d Suffix ts ∙ fork_else DOT _ _ ts mid no_dot c.eat.ensures.new ∙ fork_then OPEN _ _ mid two_on opened c.eat-2.ensures.new ∙ fork_else STAR _ _ two_on three_on no_star c.eat-3.ensures.new
    ∙ ap (given (λ xs. Some (suf.Call xs))) c.in_ok-arguments.ensures
