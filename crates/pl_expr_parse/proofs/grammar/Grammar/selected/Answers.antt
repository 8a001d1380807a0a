use Rattle.std.proofs.Common.{◌≡◌, ◌∙◌, None, Some, true, false, rules, ap, sym}
use Rattle.pl_grammar.specs.Marks.{Tokens, sees}
use Rattle.pl_grammar.specs.Parser.{Outcome}
use Rattle.pl_grammar.specs.Words.{ALL, DISTINCT}
use Rattle.pl_grammar.specs.declared.fail.Fail.TheVariants.{Syntax}
use Rattle.pl_expr_parse.specs.Grammar.{Items, Selected, Tree}
use Rattle.pl_expr_parse.specs.FirstFollow.{reads_part}
use Rattle.pl_expr_parse.proofs.Step.{step}
use Rattle.pl_expr_parse.proofs.Follows.{fork_else, fork_then, given, paired}
use Rattle.pl_expr_parse.proofs.grammar.Grammar.selected.Goals as goal

pub returns-in_err-items : goal.returns-in_err-items
returns-in_err-items g c =
    let d = c.args.self.now.depth in
    let ts = c.args.tokens.now in
    let mid = c.eat.new.self in
    let told : sees DISTINCT ts ≡ true = search rules in
    let none : c.in_err-items.field-0.0 ≡ Syntax → reads_part d Selected ts ≡ None =
    λ is. step d Selected ts ∙ fork_then DISTINCT _ _ ts mid told c.eat.ensures.new ∙ ap (given (λ xs. Some (true, xs))) (c.in_err-items.ensures is) in
    search rules

pub returns-then-eat : goal.returns-then-eat
returns-then-eat g c =
    let d = c.args.self.now.depth in
    let ts = c.args.tokens.now in
    let mid = c.eat.new.self in
    let told : sees DISTINCT ts ≡ true = search rules in
    step d Selected ts ∙ fork_then DISTINCT _ _ ts mid told c.eat.ensures.new ∙ ap (given (λ xs. Some (true, xs))) c.in_ok-items.ensures

pub returns-in_err-items-2 : goal.returns-in_err-items-2
returns-in_err-items-2 g c =
    let d = c.args.self.now.depth in
    let ts = c.args.tokens.now in
    let mid = c.eat.new.self in
    let told : sees DISTINCT ts ≡ false = search rules in
    let behind = λ (o : Outcome (Tree Items)). given (λ p. Some (false, p.1)) (paired (sees ALL mid) o) in
    let none : c.in_err-items-2.field-0.0 ≡ Syntax → reads_part d Selected ts ≡ None =
    λ is. step d Selected ts ∙ fork_else DISTINCT _ _ ts mid told c.eat.ensures.new
    ∙ ap (λ (t : Tokens). behind (reads_part d Items t)) (sym c.eat-2.ensures.new) ∙ ap behind (c.in_err-items-2.ensures is) in
    search rules

pub returns : goal.returns
returns g c =
    let d = c.args.self.now.depth in
    let ts = c.args.tokens.now in
    let mid = c.eat.new.self in
    let told : sees DISTINCT ts ≡ false = search rules in
    let behind = λ (o : Outcome (Tree Items)). given (λ p. Some (false, p.1)) (paired (sees ALL mid) o) in
    step d Selected ts ∙ fork_else DISTINCT _ _ ts mid told c.eat.ensures.new
    ∙ ap (λ (t : Tokens). behind (reads_part d Items t)) (sym c.eat-2.ensures.new) ∙ ap behind c.in_ok-items-2.ensures
