use Rattle.std.proofs.Common.{◌≡◌, ◌∙◌, None, Some, true, rules, ap, sym}
use Rattle.pl_expr_parse.specs.declared.parts.Question.TheVariants as qu
use Rattle.pl_base.specs.declared.operator.Test.TheVariants as ask
use Rattle.pl_grammar.specs.Marks.{sees}
use Rattle.pl_grammar.specs.Parser.{Outcome, and_then, expect}
use Rattle.pl_grammar.specs.Rule.{part, make}
use Rattle.pl_grammar.specs.Words.{DISTINCT, FALSE, FROM, NULL, TRUE, UNKNOWN}
use Rattle.pl_grammar.specs.declared.fail.Fail.TheVariants.{Syntax}
use Rattle.pl_expr_parse.specs.Grammar.{Comparison, Question}
use Rattle.pl_expr_parse.specs.FirstFollow.{reads, reads_part}
use Rattle.pl_expr_parse.proofs.Step.{step}
use Rattle.pl_expr_parse.proofs.Follows.{fork_else, fork_then, given}
use Rattle.pl_expr_parse.proofs.grammar.Grammar.question.Goals as goal

pub returns-in_err-expect : goal.returns-in_err-expect
returns-in_err-expect g c =
    let d = c.args.self.now.depth in
    let ts = c.args.tokens.now in
    let mid = c.eat.new.self in
    let told : sees DISTINCT ts ≡ true = search rules in
    let value = reads d (make qu.DistinctFrom (part Comparison)) in
    let is_read : reads_part d Question ts ≡ and_then (expect FROM mid) (λ _ ts. value ts) = step d Question ts ∙ fork_then DISTINCT _ _ ts mid told c.eat.ensures.new in
    let none : c.in_err-expect.field-0.0 ≡ Syntax → reads_part d Question ts ≡ None =
    λ is. is_read ∙ ap (λ (o : Outcome (Unit {0})). and_then o (λ _ ts. value ts)) (c.in_err-expect.ensures is) in
    search rules

pub returns-in_err-comparison : goal.returns-in_err-comparison
returns-in_err-comparison g c =
    let d = c.args.self.now.depth in
    let ts = c.args.tokens.now in
    let mid = c.eat.new.self in
    let told : sees DISTINCT ts ≡ true = search rules in
    let value = reads d (make qu.DistinctFrom (part Comparison)) in
    let is_read : reads_part d Question ts ≡ and_then (expect FROM mid) (λ _ ts. value ts) = step d Question ts ∙ fork_then DISTINCT _ _ ts mid told c.eat.ensures.new in
    let none : c.in_err-comparison.field-0.0 ≡ Syntax → reads_part d Question ts ≡ None =
    λ is. is_read ∙ ap (λ (o : Outcome (Unit {0})). and_then o (λ _ ts. value ts)) c.in_ok-expect.ensures ∙ ap (given (λ x. Some (qu.DistinctFrom x))) (c.in_err-comparison.ensures is) in
    search rules

pub returns-then-eat : goal.returns-then-eat
returns-then-eat g c =
    let d = c.args.self.now.depth in
    let ts = c.args.tokens.now in
    let mid = c.eat.new.self in
    let told : sees DISTINCT ts ≡ true = search rules in
    let value = reads d (make qu.DistinctFrom (part Comparison)) in
    let is_read : reads_part d Question ts ≡ and_then (expect FROM mid) (λ _ ts. value ts) = step d Question ts ∙ fork_then DISTINCT _ _ ts mid told c.eat.ensures.new in
    is_read ∙ ap (λ (o : Outcome (Unit {0})). and_then o (λ _ ts. value ts)) c.in_ok-expect.ensures ∙ ap (given (λ x. Some (qu.DistinctFrom x))) c.in_ok-comparison.ensures

pub returns-then-eat-2 : goal.returns-then-eat-2
returns-then-eat-2 g c =
    let d = c.args.self.now.depth in
    let ts = c.args.tokens.now in
    let mid = c.eat.new.self in
    let two_on = c.eat-2.new.self in
    step d Question ts
    ∙ fork_else DISTINCT _ _ ts mid (sym c.eat.ensures.result ∙ c.if-eat.false) c.eat.ensures.new
    ∙ fork_then NULL _ _ mid two_on (sym c.eat-2.ensures.result ∙ c.if-eat-2.true) c.eat-2.ensures.new

pub returns-then-eat-3 : goal.returns-then-eat-3
returns-then-eat-3 g c =
    let d = c.args.self.now.depth in
    let ts = c.args.tokens.now in
    let mid = c.eat.new.self in
    let two_on = c.eat-2.new.self in
    let three_on = c.eat-3.new.self in
    step d Question ts
    ∙ fork_else DISTINCT _ _ ts mid (sym c.eat.ensures.result ∙ c.if-eat.false) c.eat.ensures.new
    ∙ fork_else NULL _ _ mid two_on (sym c.eat-2.ensures.result ∙ c.if-eat-2.false) c.eat-2.ensures.new
    ∙ fork_then TRUE _ _ two_on three_on (sym c.eat-3.ensures.result ∙ c.if-eat-3.true) c.eat-3.ensures.new

pub returns-then-eat-4 : goal.returns-then-eat-4
returns-then-eat-4 g c =
    let d = c.args.self.now.depth in
    let ts = c.args.tokens.now in
    let mid = c.eat.new.self in
    let two_on = c.eat-2.new.self in
    let three_on = c.eat-3.new.self in
    let four_on = c.eat-4.new.self in
    step d Question ts
    ∙ fork_else DISTINCT _ _ ts mid (sym c.eat.ensures.result ∙ c.if-eat.false) c.eat.ensures.new
    ∙ fork_else NULL _ _ mid two_on (sym c.eat-2.ensures.result ∙ c.if-eat-2.false) c.eat-2.ensures.new
    ∙ fork_else TRUE _ _ two_on three_on (sym c.eat-3.ensures.result ∙ c.if-eat-3.false) c.eat-3.ensures.new
    ∙ fork_then FALSE _ _ three_on four_on (sym c.eat-4.ensures.result ∙ c.if-eat-4.true) c.eat-4.ensures.new

pub returns-in_err-expect-2 : goal.returns-in_err-expect-2
returns-in_err-expect-2 g c =
    let d = c.args.self.now.depth in
    let ts = c.args.tokens.now in
    let mid = c.eat.new.self in
    let two_on = c.eat-2.new.self in
    let three_on = c.eat-3.new.self in
    let four_on = c.eat-4.new.self in
    let word : c.in_err-expect-2.field-0.0 ≡ Syntax → expect UNKNOWN four_on ≡ None = c.in_err-expect-2.ensures in
    let none : c.in_err-expect-2.field-0.0 ≡ Syntax → reads_part d Question ts ≡ None =
    λ is. step d Question ts
    ∙ fork_else DISTINCT _ _ ts mid (sym c.eat.ensures.result ∙ c.if-eat.false) c.eat.ensures.new
    ∙ fork_else NULL _ _ mid two_on (sym c.eat-2.ensures.result ∙ c.if-eat-2.false) c.eat-2.ensures.new
    ∙ fork_else TRUE _ _ two_on three_on (sym c.eat-3.ensures.result ∙ c.if-eat-3.false) c.eat-3.ensures.new
    ∙ fork_else FALSE _ _ three_on four_on (sym c.eat-4.ensures.result ∙ c.if-eat-4.false) c.eat-4.ensures.new
    ∙ ap (λ (o : Outcome (Unit {0})). and_then o (λ _ ts. Some (qu.Is ask.Unknown, ts))) (word is) in
    search rules

pub returns : goal.returns
returns g c =
    let d = c.args.self.now.depth in
    let ts = c.args.tokens.now in
    let mid = c.eat.new.self in
    let two_on = c.eat-2.new.self in
    let three_on = c.eat-3.new.self in
    let four_on = c.eat-4.new.self in
    step d Question ts
    ∙ fork_else DISTINCT _ _ ts mid (sym c.eat.ensures.result ∙ c.if-eat.false) c.eat.ensures.new
    ∙ fork_else NULL _ _ mid two_on (sym c.eat-2.ensures.result ∙ c.if-eat-2.false) c.eat-2.ensures.new
    ∙ fork_else TRUE _ _ two_on three_on (sym c.eat-3.ensures.result ∙ c.if-eat-3.false) c.eat-3.ensures.new
    ∙ fork_else FALSE _ _ three_on four_on (sym c.eat-4.ensures.result ∙ c.if-eat-4.false) c.eat-4.ensures.new
    ∙ ap (λ (o : Outcome (Unit {0})). and_then o (λ _ ts. Some (qu.Is ask.Unknown, ts))) c.in_ok-expect-2.ensures
