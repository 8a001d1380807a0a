use Rattle.pl_grammar.specs.declared.fail.Fail.TheVariants.{Syntax}
use Rattle.std.proofs.Common.{Err, ap, ◌∙◌, rules, ◌≡◌, None}
use Rattle.pl_grammar.specs.Parser.{Outcome, expect, and_then}
use Rattle.pl_grammar.specs.Words.{ON}
use Rattle.pl_expr_parse.specs.Grammar.{Expression, JoinedOn, Factor, rule}
use Rattle.pl_expr_parse.specs.FirstFollow.{reads, reads_part, reads_inside}
use Rattle.pl_expr_parse.specs.Follows.{before}
use Rattle.pl_expr_parse.proofs.Step.{gives_all}
use Rattle.pl_expr_parse.proofs.Follows.{as_is, two, both, before_two}
use Rattle.pl_expr_parse.proofs.grammar.Grammar.joined_on.Goals as goal

pub returns-in_err-with : goal.returns-in_err-with
returns-in_err-with g c =
    let d = c.args.self.now.depth in
    let ts = c.args.tokens.now in
    let mid = c.expect.new.self in
    let factor = reads_part d Factor in
    let inner = reads_inside d Expression in
    let err = c.in_err-with.field-0.0 in
    let none : c.in_err-with.field-0.0 ≡ Syntax → reads_part d JoinedOn ts ≡ None =
    gives_all d JoinedOn ts (Err err) c.until.new.tokens
    (λ is. ap (λ (o : Outcome (Unit {0})). two (and_then o (λ _ ts. factor ts)) (λ ts. and_then (expect ON ts) (λ _ ts. inner ts))) c.in_ok-expect.ensures
    ∙ before_two ON (factor mid) inner ∙ ap (λ o. two o inner) (c.in_err-with.ensures (factor mid) c.factor-with.ensures is)) in
    search rules

pub returns : goal.returns
returns g c =
    let d = c.args.self.now.depth in
    let ts = c.args.tokens.now in
    let mid = c.expect.new.self in
    let new = c.inner.new.tokens in
    let factor = reads_part d Factor in
    let inner = reads_inside d Expression in
    gives_all d JoinedOn ts c.joined_on_of.result new
    (as_is (reads d (rule JoinedOn) ts) (two (before ON (factor mid)) inner) c.joined_on_of.result new
    (ap (λ (o : Outcome (Unit {0})). two (and_then o (λ _ ts. factor ts)) (λ ts. and_then (expect ON ts) (λ _ ts. inner ts))) c.in_ok-expect.ensures ∙ before_two ON (factor mid) inner)
    (both (before ON (factor mid)) inner c.in_ok-with.with c.inner.result c.joined_on_of.result c.until.new.tokens new
    (c.in_ok-with.ensures (factor mid) c.factor-with.ensures) c.inner.ensures c.joined_on_of.ensures))
