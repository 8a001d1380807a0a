use Rattle.pl_grammar.specs.declared.fail.Fail.TheVariants.{Syntax}
use Rattle.std.proofs.Common.{Some, Ok, Err, ap, rules, ◌≡◌, None}
use Rattle.pl_grammar.specs.Rule.{part, make, ◌then◌}
use Rattle.pl_grammar.specs.Parser.{expect}
use Rattle.pl_grammar.specs.Words.{OPEN}
use Rattle.pl_expr_parse.specs.Grammar.{Expression, NullIf, BeforeComma, BeforeClose}
use Rattle.pl_expr_parse.specs.Trees.{null_if_of}
use Rattle.pl_expr_parse.specs.FirstFollow.{reads, reads_part, reads_inside}
use Rattle.pl_expr_parse.proofs.Step.{gives_all}
use Rattle.pl_expr_parse.proofs.Follows.{given, bound, two, second}
use Rattle.pl_expr_parse.proofs.grammar.Grammar.null_if.Goals as goal

pub returns-in_err-first : goal.returns-in_err-first
returns-in_err-first g c =
    let d = c.args.self.now.depth in
    let ts = c.args.tokens.now in
    let mid = c.expect.new.self in
    let err = c.in_err-first.field-0.0 in
    let behind = reads d (make (λ p. null_if_of p.0 p.1) (part BeforeComma then part BeforeClose)) in
    let none : c.in_err-first.field-0.0 ≡ Syntax → reads_part d NullIf ts ≡ None =
    gives_all d NullIf ts (Err err) c.until.new.tokens
    (bound (expect OPEN ts) (λ _ ts. behind ts) c.in_ok-expect.field-0 mid c.until.new.tokens (Err err) c.in_ok-expect.ensures
    (λ is. ap (λ o. given (λ p. Some (null_if_of p.0 p.1)) (two o (reads_part d BeforeClose)))
    (gives_all d BeforeComma mid (Err err) c.until.new.tokens (c.in_err-first.ensures (reads_inside d Expression mid) c.inner-first.ensures) is))) in
    search rules

pub returns : goal.returns
returns g c =
    let d = c.args.self.now.depth in
    let ts = c.args.tokens.now in
    let mid = c.expect.new.self in
    let next = c.until.new.tokens in
    let new = c.until-second.new.tokens in
    let first = gives_all d BeforeComma mid (Ok c.in_ok-first.first) next (c.in_ok-first.ensures (reads_inside d Expression mid) c.inner-first.ensures) in
    let second_ = gives_all d BeforeClose next c.until-second.result new (c.until-second.ensures (reads_inside d Expression next) c.inner-second.ensures) in
    gives_all d NullIf ts c.null_if_of.result new
    (bound (expect OPEN ts) (λ _ ts. reads d (make (λ p. null_if_of p.0 p.1) (part BeforeComma then part BeforeClose)) ts) c.in_ok-expect.field-0 mid new c.null_if_of.result c.in_ok-expect.ensures
    (second (λ p. Some (null_if_of p.0 p.1)) (reads_part d BeforeComma mid) (reads_part d BeforeClose) c.in_ok-first.first c.until-second.result c.null_if_of.result next new first second_ c.null_if_of.ensures))
