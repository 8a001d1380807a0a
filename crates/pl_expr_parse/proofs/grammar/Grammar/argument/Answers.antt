use Rattle.std.proofs.Common.{◌≡◌, ◌∙◌, Bool, None, Some, true, false, rules, ap, sym, if◌then◌else◌}
use Rattle.pl_tree.specs.declared.tree.Argument.TheVariants as a
use Rattle.pl_grammar.specs.Parser.{Outcome, and_then, expect}
use Rattle.pl_grammar.specs.Rule.{inside, make}
use Rattle.pl_grammar.specs.Words.{FATAL_ERRORS, ARROW}
use Rattle.pl_grammar.specs.declared.fail.Fail.TheVariants.{Syntax}
use Rattle.pl_expr_parse.specs.Grammar.{Argument, Expression, NamedArgument, is_named}
use Rattle.pl_expr_parse.specs.FirstFollow.{reads, reads_part}
use Rattle.pl_expr_parse.proofs.Step.{step}
use Rattle.pl_expr_parse.proofs.Follows.{assoc, given}
use Rattle.pl_expr_parse.proofs.grammar.Grammar.argument.Goals as goal

pub returns-in_err-past_name : goal.returns-in_err-past_name
returns-in_err-past_name g c =
    let d = c.args.self.now.depth in
    let ts = c.args.tokens.now in
    let named : is_named ts ≡ true = sym c.is_named.ensures ∙ c.if-is_named.true in
    let past = and_then (expect FATAL_ERRORS ts) (λ _ ts. expect ARROW ts) in
    let value = reads d (make a.FatalErrors (inside Expression)) in
    let is_read : reads_part d Argument ts ≡ and_then past (λ _ ts. value ts) =
    step d Argument ts ∙ ap (λ (b : Bool). (if b then reads_part d NamedArgument else reads d (make a.Value (inside Expression))) ts) named
    ∙ step d NamedArgument ts ∙ sym (assoc (expect FATAL_ERRORS ts) (λ _ ts. expect ARROW ts) (λ _ ts. value ts)) in
    let none : c.in_err-past_name.field-0.0 ≡ Syntax → reads_part d Argument ts ≡ None =
    λ is. is_read ∙ ap (λ (o : Outcome (Unit {0})). and_then o (λ _ ts. value ts)) (c.in_err-past_name.ensures is) in
    search rules

pub returns-in_err-inner : goal.returns-in_err-inner
returns-in_err-inner g c =
    let d = c.args.self.now.depth in
    let ts = c.args.tokens.now in
    let named : is_named ts ≡ true = sym c.is_named.ensures ∙ c.if-is_named.true in
    let past = and_then (expect FATAL_ERRORS ts) (λ _ ts. expect ARROW ts) in
    let value = reads d (make a.FatalErrors (inside Expression)) in
    let is_read : reads_part d Argument ts ≡ and_then past (λ _ ts. value ts) =
    step d Argument ts ∙ ap (λ (b : Bool). (if b then reads_part d NamedArgument else reads d (make a.Value (inside Expression))) ts) named
    ∙ step d NamedArgument ts ∙ sym (assoc (expect FATAL_ERRORS ts) (λ _ ts. expect ARROW ts) (λ _ ts. value ts)) in
    let none : c.in_err-inner.field-0.0 ≡ Syntax → reads_part d Argument ts ≡ None =
    λ is. is_read ∙ ap (λ (o : Outcome (Unit {0})). and_then o (λ _ ts. value ts)) c.in_ok-past_name.ensures ∙ ap (given (λ x. Some (a.FatalErrors x))) (c.in_err-inner.ensures is) in
    search rules

pub returns-then-is_named : goal.returns-then-is_named
returns-then-is_named g c =
    let d = c.args.self.now.depth in
    let ts = c.args.tokens.now in
    let named : is_named ts ≡ true = sym c.is_named.ensures ∙ c.if-is_named.true in
    let past = and_then (expect FATAL_ERRORS ts) (λ _ ts. expect ARROW ts) in
    let value = reads d (make a.FatalErrors (inside Expression)) in
    step d Argument ts ∙ ap (λ (b : Bool). (if b then reads_part d NamedArgument else reads d (make a.Value (inside Expression))) ts) named
    ∙ step d NamedArgument ts ∙ sym (assoc (expect FATAL_ERRORS ts) (λ _ ts. expect ARROW ts) (λ _ ts. value ts))
    ∙ ap (λ (o : Outcome (Unit {0})). and_then o (λ _ ts. value ts)) c.in_ok-past_name.ensures ∙ ap (given (λ x. Some (a.FatalErrors x))) c.in_ok-inner.ensures

pub returns-in_err-inner-2 : goal.returns-in_err-inner-2
returns-in_err-inner-2 g c =
    let d = c.args.self.now.depth in
    let ts = c.args.tokens.now in
    let named : is_named ts ≡ false = sym c.is_named.ensures ∙ c.if-is_named.false in
    let none : c.in_err-inner-2.field-0.0 ≡ Syntax → reads_part d Argument ts ≡ None =
    λ is. step d Argument ts ∙ ap (λ (b : Bool). (if b then reads_part d NamedArgument else reads d (make a.Value (inside Expression))) ts) named
    ∙ ap (given (λ x. Some (a.Value x))) (c.in_err-inner-2.ensures is) in
    search rules

pub returns : goal.returns
returns g c =
    let d = c.args.self.now.depth in
    let ts = c.args.tokens.now in
    let named : is_named ts ≡ false = sym c.is_named.ensures ∙ c.if-is_named.false in
    step d Argument ts ∙ ap (λ (b : Bool). (if b then reads_part d NamedArgument else reads d (make a.Value (inside Expression))) ts) named
    ∙ ap (given (λ x. Some (a.Value x))) c.in_ok-inner-2.ensures
