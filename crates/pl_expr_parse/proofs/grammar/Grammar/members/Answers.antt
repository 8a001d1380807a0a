use Rattle.pl_grammar.specs.declared.fail.Fail.TheVariants.{Syntax}
use Rattle.std.proofs.Common.{[], Some, Ok, Err, rules, ap, ◌∙◌, ◌≡◌, true, false, Bool, if◌then◌else◌, ◌∷◌, None}
use Rattle.pl_grammar.specs.Marks.{begins}
use Rattle.pl_grammar.specs.Rule.{part, inside, make}
use Rattle.pl_grammar.specs.Parser.{Outcome, and_then}
use Rattle.pl_grammar.specs.Words.{SELECT, CLOSE}
use Rattle.pl_expr_parse.specs.Grammar.{Query, Members, Expressions, rule}
use Rattle.pl_expr_parse.specs.FirstFollow.{reads, reads_part, reads_inside}
use Rattle.pl_expr_parse.specs.Follows.{before}
use Rattle.pl_expr_parse.proofs.Step.{gives_all}
use Rattle.pl_expr_parse.proofs.Follows.{given, before_made}
use Rattle.pl_expr_parse.specs.declared.parts.Range.TheVariants as rg
use Rattle.pl_expr_parse.proofs.grammar.Grammar.members.Goals as goal

pub returns-in_err-query : goal.returns-in_err-query
returns-in_err-query g c =
    let d = c.args.self.now.depth in
    let ts = c.args.tokens.now in
    let mid = c.expect.new.self in
    let told : begins (SELECT ∷ []) mid ≡ true = search rules in
    let query = reads_inside d Query mid in
    let is_read : reads d (rule Members) ts ≡ given (λ x. Some (rg.InQuery x)) (before CLOSE query) =
    ap (λ (o : Outcome (Unit {0})). and_then o (λ _ ts. before CLOSE ((if begins (SELECT ∷ []) ts then reads d (make rg.InQuery (inside Query)) else reads d (make rg.InList (part Expressions))) ts))) c.in_ok-expect.ensures
    ∙ ap (λ (b : Bool). before CLOSE ((if b then reads d (make rg.InQuery (inside Query)) else reads d (make rg.InList (part Expressions))) mid)) told
    ∙ before_made rg.InQuery CLOSE query in
    let none : c.in_err-query.field-0.0 ≡ Syntax → reads_part d Members ts ≡ None =
    gives_all d Members ts (Err c.in_err-query.field-0.0) c.until.new.tokens
    (λ is. is_read ∙ ap (given (λ x. Some (rg.InQuery x))) (c.in_err-query.ensures query c.inner_query-query.ensures is)) in
    search rules

pub returns-then-sees : goal.returns-then-sees
returns-then-sees g c =
    let d = c.args.self.now.depth in
    let ts = c.args.tokens.now in
    let mid = c.expect.new.self in
    let told : begins (SELECT ∷ []) mid ≡ true = search rules in
    let query = reads_inside d Query mid in
    let is_read : reads d (rule Members) ts ≡ given (λ x. Some (rg.InQuery x)) (before CLOSE query) =
    ap (λ (o : Outcome (Unit {0})). and_then o (λ _ ts. before CLOSE ((if begins (SELECT ∷ []) ts then reads d (make rg.InQuery (inside Query)) else reads d (make rg.InList (part Expressions))) ts))) c.in_ok-expect.ensures
    ∙ ap (λ (b : Bool). before CLOSE ((if b then reads d (make rg.InQuery (inside Query)) else reads d (make rg.InList (part Expressions))) mid)) told
    ∙ before_made rg.InQuery CLOSE query in
    gives_all d Members ts (Ok (rg.InQuery c.in_ok-query.query)) c.until.new.tokens
    (is_read ∙ ap (given (λ x. Some (rg.InQuery x))) (c.in_ok-query.ensures query c.inner_query-query.ensures))

pub returns-in_err-list : goal.returns-in_err-list
returns-in_err-list g c =
    let d = c.args.self.now.depth in
    let ts = c.args.tokens.now in
    let mid = c.expect.new.self in
    let told : begins (SELECT ∷ []) mid ≡ false = search rules in
    let list = reads_part d Expressions mid in
    let is_read : reads d (rule Members) ts ≡ given (λ x. Some (rg.InList x)) (before CLOSE list) =
    ap (λ (o : Outcome (Unit {0})). and_then o (λ _ ts. before CLOSE ((if begins (SELECT ∷ []) ts then reads d (make rg.InQuery (inside Query)) else reads d (make rg.InList (part Expressions))) ts))) c.in_ok-expect.ensures
    ∙ ap (λ (b : Bool). before CLOSE ((if b then reads d (make rg.InQuery (inside Query)) else reads d (make rg.InList (part Expressions))) mid)) told
    ∙ before_made rg.InList CLOSE list in
    let none : c.in_err-list.field-0.0 ≡ Syntax → reads_part d Members ts ≡ None =
    gives_all d Members ts (Err c.in_err-list.field-0.0) c.until-2.new.tokens
    (λ is. is_read ∙ ap (given (λ x. Some (rg.InList x))) (c.in_err-list.ensures list c.expressions-list.ensures is)) in
    search rules

pub returns : goal.returns
returns g c =
    let d = c.args.self.now.depth in
    let ts = c.args.tokens.now in
    let mid = c.expect.new.self in
    let told : begins (SELECT ∷ []) mid ≡ false = search rules in
    let list = reads_part d Expressions mid in
    let is_read : reads d (rule Members) ts ≡ given (λ x. Some (rg.InList x)) (before CLOSE list) =
    ap (λ (o : Outcome (Unit {0})). and_then o (λ _ ts. before CLOSE ((if begins (SELECT ∷ []) ts then reads d (make rg.InQuery (inside Query)) else reads d (make rg.InList (part Expressions))) ts))) c.in_ok-expect.ensures
    ∙ ap (λ (b : Bool). before CLOSE ((if b then reads d (make rg.InQuery (inside Query)) else reads d (make rg.InList (part Expressions))) mid)) told
    ∙ before_made rg.InList CLOSE list in
    gives_all d Members ts (Ok (rg.InList c.in_ok-list.list)) c.until-2.new.tokens
    (is_read ∙ ap (given (λ x. Some (rg.InList x))) (c.in_ok-list.ensures list c.expressions-list.ensures))
