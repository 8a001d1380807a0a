use Rattle.std.proofs.Common.{◌≡◌, ◌∙◌, None, Some, true, rules, ap}
use Rattle.pl_tree.specs.declared.tree.JoinKind.TheVariants as join_is
use Rattle.pl_grammar.specs.Marks.{sees}
use Rattle.pl_grammar.specs.Parser.{Outcome, and_then, expect}
use Rattle.pl_grammar.specs.Rule.{part, make}
use Rattle.pl_grammar.specs.Words.{CROSS, JOIN}
use Rattle.pl_grammar.specs.declared.fail.Fail.TheVariants.{Syntax}
use Rattle.pl_expr_parse.specs.Grammar.{Factor, Join}
use Rattle.pl_expr_parse.specs.Trees.{join_of}
use Rattle.pl_expr_parse.specs.FirstFollow.{reads, reads_part}
use Rattle.pl_expr_parse.proofs.Step.{step}
use Rattle.pl_expr_parse.proofs.Follows.{fork_then, given}
use Rattle.pl_expr_parse.proofs.grammar.Grammar.join.Goals as goal

pub returns-in_err-expect : goal.returns-in_err-expect
returns-in_err-expect g c =
    let d = c.args.self.now.depth in
    let ts = c.args.tokens.now in
    let mid = c.eat.new.self in
    let told : sees CROSS ts ≡ true = search rules in
    let crossed = reads d (make (λ x. join_of join_is.Cross x None) (part Factor)) in
    let is_read : reads_part d Join ts ≡ and_then (expect JOIN mid) (λ _ ts. crossed ts) = step d Join ts ∙ fork_then CROSS _ _ ts mid told c.eat.ensures.new in
    let none : c.in_err-expect.field-0.0 ≡ Syntax → reads_part d Join ts ≡ None =
    λ is. is_read ∙ ap (λ (o : Outcome (Unit {0})). and_then o (λ _ ts. crossed ts)) (c.in_err-expect.ensures is) in
    search rules

pub returns-in_err-with : goal.returns-in_err-with
returns-in_err-with g c =
    let d = c.args.self.now.depth in
    let ts = c.args.tokens.now in
    let mid = c.eat.new.self in
    let told : sees CROSS ts ≡ true = search rules in
    let crossed = reads d (make (λ x. join_of join_is.Cross x None) (part Factor)) in
    let is_read : reads_part d Join ts ≡ and_then (expect JOIN mid) (λ _ ts. crossed ts) = step d Join ts ∙ fork_then CROSS _ _ ts mid told c.eat.ensures.new in
    let none : c.in_err-with.field-0.0 ≡ Syntax → reads_part d Join ts ≡ None =
    λ is. is_read ∙ ap (λ (o : Outcome (Unit {0})). and_then o (λ _ ts. crossed ts)) c.in_ok-expect.ensures ∙ ap (given (λ x. Some (join_of join_is.Cross x None))) (c.in_err-with.ensures is) in
    search rules

pub returns-then-eat : goal.returns-then-eat
returns-then-eat g c =
    let d = c.args.self.now.depth in
    let ts = c.args.tokens.now in
    let mid = c.eat.new.self in
    let told : sees CROSS ts ≡ true = search rules in
    let crossed = reads d (make (λ x. join_of join_is.Cross x None) (part Factor)) in
    let is_read : reads_part d Join ts ≡ and_then (expect JOIN mid) (λ _ ts. crossed ts) = step d Join ts ∙ fork_then CROSS _ _ ts mid told c.eat.ensures.new in
    is_read ∙ ap (λ (o : Outcome (Unit {0})). and_then o (λ _ ts. crossed ts)) c.in_ok-expect.ensures ∙ ap (given (λ x. Some (join_of join_is.Cross x None))) c.in_ok-with.ensures
