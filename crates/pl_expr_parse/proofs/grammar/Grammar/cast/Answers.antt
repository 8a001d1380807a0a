use Rattle.pl_grammar.specs.declared.fail.Fail.TheVariants.{Syntax}
use Rattle.std.proofs.Common.{[], Some, Err, ap, ◌∙◌, ◌∷◌, rules, ◌≡◌, None}
use Rattle.pl_grammar.specs.Parser.{Outcome, expect}
use Rattle.pl_grammar.specs.Words.{CLOSE, OPEN, AS}
use Rattle.pl_expr_parse.specs.Grammar.{Expression, Cast, TypeName, Tree}
use Rattle.pl_expr_parse.specs.FirstFollow.{reads_part, reads_inside}
use Rattle.pl_expr_parse.specs.Follows.{before}
use Rattle.pl_expr_parse.proofs.Step.{gives_all}
use Rattle.pl_expr_parse.proofs.Follows.{as_is, given, follows, bound, two, before_pair}
use Rattle.pl_tree.specs.declared.tree.Expr.TheVariants as e
use Rattle.pl_expr_parse.proofs.grammar.Grammar.cast.Goals as goal

pub returns-in_err-operand : goal.returns-in_err-operand
returns-in_err-operand g c =
    let d = c.args.self.now.depth in
    let ts = c.args.tokens.now in
    let mid = c.expect.new.self in
    let err = c.in_err-operand.field-0.0 in
    let behind = λ (o : Outcome (Tree Expression)). before CLOSE (given (λ p. Some (e.Cast p.0 (p.1 ∷ []))) (two o (reads_part d TypeName))) in
    let none : c.in_err-operand.field-0.0 ≡ Syntax → reads_part d Cast ts ≡ None =
    gives_all d Cast ts (Err err) c.until.new.tokens
    (bound (expect OPEN ts) (λ _ ts. behind (before AS (reads_inside d Expression ts))) c.in_ok-expect.field-0 mid c.until.new.tokens (Err err) c.in_ok-expect.ensures
    (λ is. ap behind (c.in_err-operand.ensures (reads_inside d Expression mid) c.inner-operand.ensures is))) in
    search rules

pub returns : goal.returns
returns g c =
    let d = c.args.self.now.depth in
    let ts = c.args.tokens.now in
    let mid = c.expect.new.self in
    let next = c.until.new.tokens in
    let new = c.until-ty.new.tokens in
    let operand = c.in_ok-operand.operand in
    let ty = reads_part d TypeName in
    let behind = λ (o : Outcome (Tree Expression)). before CLOSE (given (λ p. Some (e.Cast p.0 (p.1 ∷ []))) (two o ty)) in
    gives_all d Cast ts c.cast_of.result new
    (bound (expect OPEN ts) (λ _ ts. behind (before AS (reads_inside d Expression ts))) c.in_ok-expect.field-0 mid new c.cast_of.result c.in_ok-expect.ensures
    (as_is (behind (before AS (reads_inside d Expression mid))) (given (λ t. Some (e.Cast operand (t ∷ []))) (before CLOSE (ty next))) c.cast_of.result new
    (ap behind (c.in_ok-operand.ensures (reads_inside d Expression mid) c.inner-operand.ensures) ∙ before_pair (λ p. e.Cast p.0 (p.1 ∷ [])) CLOSE operand (ty next))
    (follows (λ t. Some (e.Cast operand (t ∷ []))) (before CLOSE (ty next)) c.until-ty.result c.cast_of.result new (c.until-ty.ensures (ty next) (c.type_name-ty.ensures d)) c.cast_of.ensures)))
