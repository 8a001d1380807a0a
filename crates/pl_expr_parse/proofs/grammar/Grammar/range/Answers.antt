use Rattle.pl_grammar.specs.declared.fail.Fail.TheVariants.{Syntax}
use Rattle.std.proofs.Common.{Some, Err, rules, ap, ◌∙◌, ◌≡◌, true, None}
use Rattle.pl_grammar.specs.Marks.{sees}
use Rattle.pl_grammar.specs.Words.{BETWEEN, AND}
use Rattle.pl_expr_parse.specs.Grammar.{Range, Concatenation, rule, Tree}
use Rattle.pl_expr_parse.specs.FirstFollow.{reads, reads_part}
use Rattle.pl_expr_parse.specs.Follows.{before}
use Rattle.pl_expr_parse.proofs.Step.{gives_all}
use Rattle.pl_expr_parse.proofs.Follows.{as_is, given, two, second, fork_then, before_two}
use Rattle.pl_expr_parse.specs.declared.parts.Range.TheVariants as rg
use Rattle.pl_expr_parse.proofs.grammar.Grammar.range.Goals as goal

pub returns-in_err-low : goal.returns-in_err-low
returns-in_err-low g c =
    let d = c.args.self.now.depth in
    let ts = c.args.tokens.now in
    let mid = c.eat.new.self in
    let side = reads_part d Concatenation in
    let err = c.in_err-low.field-0.0 in
    let told : sees BETWEEN ts ≡ true = search rules in
    let none : c.in_err-low.field-0.0 ≡ Syntax → reads_part d Range ts ≡ None =
    gives_all d Range ts (Err err) c.until.new.tokens
    (λ is. fork_then BETWEEN _ _ ts mid told c.eat.ensures.new
    ∙ ap (given (λ p. Some (Some (rg.Between p.0 p.1)))) (before_two AND (side mid) side ∙ ap (λ o. two o side) (c.in_err-low.ensures (side mid) c.concatenation-low.ensures is))) in
    search rules

pub returns-then-eat : goal.returns-then-eat
returns-then-eat g c =
    let d = c.args.self.now.depth in
    let ts = c.args.tokens.now in
    let mid = c.eat.new.self in
    let side = reads_part d Concatenation in
    let make_range = λ (p : Tree Concatenation × Tree Concatenation). Some (Some (rg.Between p.0 p.1)) in
    let told : sees BETWEEN ts ≡ true = search rules in
    gives_all d Range ts c.bounds_of.result c.concatenation.new.tokens
    (as_is (reads d (rule Range) ts) (given make_range (two (before AND (side mid)) side)) c.bounds_of.result c.concatenation.new.tokens
    (fork_then BETWEEN _ _ ts mid told c.eat.ensures.new ∙ ap (given make_range) (before_two AND (side mid) side))
    (second make_range (before AND (side mid)) side c.in_ok-low.low c.concatenation.result c.bounds_of.result c.until.new.tokens c.concatenation.new.tokens
    (c.in_ok-low.ensures (side mid) c.concatenation-low.ensures) c.concatenation.ensures c.bounds_of.ensures))
