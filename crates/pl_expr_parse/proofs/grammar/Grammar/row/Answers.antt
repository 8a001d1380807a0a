use Rattle.pl_grammar.specs.declared.fail.Fail.TheVariants.{Syntax}
use Rattle.std.proofs.Common.{[], Some, Ok, Err, rules, ap, ◌∙◌, ◌≡◌, false, None}
use Rattle.pl_grammar.specs.Marks.{sees}
use Rattle.pl_grammar.specs.Rule.{part, make, ◌until◌, fork, nothing}
use Rattle.pl_grammar.specs.Parser.{expect}
use Rattle.pl_grammar.specs.Words.{CLOSE, OPEN}
use Rattle.pl_expr_parse.specs.Grammar.{Expressions, Row}
use Rattle.pl_expr_parse.specs.FirstFollow.{reads, reads_part}
use Rattle.pl_expr_parse.proofs.Step.{gives_all}
use Rattle.pl_expr_parse.proofs.Follows.{given, bound, fork_else}
use Rattle.pl_tree.specs.declared.tree.Expr.TheVariants as e
use Rattle.pl_expr_parse.proofs.grammar.Grammar.row.Goals as goal

pub returns-in_err-list : goal.returns-in_err-list
returns-in_err-list g c =
    let d = c.args.self.now.depth in
    let ts = c.args.tokens.now in
    let mid = c.expect.new.self in
    let next = c.eat.new.self in
    let err = c.in_err-list.field-0.0 in
    let told : sees CLOSE mid ≡ false = search rules in
    let list = reads_part d Expressions next in
    let none : c.in_err-list.field-0.0 ≡ Syntax → reads_part d Row ts ≡ None =
    gives_all d Row ts (Err err) c.until.new.tokens
    (bound (expect OPEN ts) (λ _ ts. reads d (make e.Row (fork CLOSE (nothing []) (part Expressions until CLOSE))) ts) c.in_ok-expect.field-0 mid c.until.new.tokens (Err err) c.in_ok-expect.ensures
    (λ is. ap (given (λ l. Some (e.Row l))) (fork_else CLOSE _ _ mid next told c.eat.ensures.new ∙ c.in_err-list.ensures list c.expressions-list.ensures is))) in
    search rules

pub returns : goal.returns
returns g c =
    let d = c.args.self.now.depth in
    let ts = c.args.tokens.now in
    let mid = c.expect.new.self in
    let next = c.eat.new.self in
    let told : sees CLOSE mid ≡ false = search rules in
    let list = reads_part d Expressions next in
    gives_all d Row ts (Ok (e.Row c.in_ok-list.list)) c.until.new.tokens
    (bound (expect OPEN ts) (λ _ ts. reads d (make e.Row (fork CLOSE (nothing []) (part Expressions until CLOSE))) ts) c.in_ok-expect.field-0 mid c.until.new.tokens (Ok (e.Row c.in_ok-list.list)) c.in_ok-expect.ensures
    (ap (given (λ l. Some (e.Row l))) (fork_else CLOSE _ _ mid next told c.eat.ensures.new ∙ c.in_ok-list.ensures list c.expressions-list.ensures)))
