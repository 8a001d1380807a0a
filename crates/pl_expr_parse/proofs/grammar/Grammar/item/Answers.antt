use Rattle.std.proofs.Common.{◌≡◌, ◌∙◌, Bool, Some, true, false, rules, ap, sym, if◌then◌else◌}
use Rattle.pl_tree.specs.declared.tree.Item.TheVariants as i
use Rattle.pl_grammar.specs.Marks.{sees}
use Rattle.pl_grammar.specs.Rule.{part, inside, make, ◌then◌}
use Rattle.pl_grammar.specs.Words.{STAR}
use Rattle.pl_expr_parse.specs.Grammar.{Expression, Item, Label, is_all_of, rule}
use Rattle.pl_expr_parse.specs.FirstFollow.{reads, reads_inside, reads_part}
use Rattle.pl_expr_parse.specs.Smaller.{all_of}
use Rattle.pl_expr_parse.proofs.Step.{gives_all}
use Rattle.pl_expr_parse.proofs.Follows.{as_is, fork_else, second}
use Rattle.pl_expr_parse.proofs.grammar.Grammar.item.Goals as goal

pub returns-then-is_all_of : goal.returns-then-is_all_of
returns-then-is_all_of g c =
    let d = c.args.self.now.depth in
    let ts = c.args.tokens.now in
    let mid = c.eat.new.self in
    let told : sees STAR ts ≡ false = search rules in
    let ahead : is_all_of mid ≡ true = sym c.is_all_of.ensures ∙ c.if-is_all_of.true in
    gives_all d Item ts c.all_of.result c.all_of.new.tokens
    (as_is (reads d (rule Item) ts) (reads d all_of mid) c.all_of.result c.all_of.new.tokens
    (fork_else STAR _ _ ts mid told c.eat.ensures.new ∙ ap (λ (b : Bool). (if b then reads d all_of else reads d (make (λ p. i.Value p.0 p.1) (inside Expression then part Label))) mid) ahead)
    (c.all_of.ensures d))

pub returns : goal.returns
returns g c =
    let d = c.args.self.now.depth in
    let ts = c.args.tokens.now in
    let mid = c.eat.new.self in
    let told : sees STAR ts ≡ false = search rules in
    let ahead : is_all_of mid ≡ false = sym c.is_all_of.ensures ∙ c.if-is_all_of.false in
    gives_all d Item ts c.item_of.result c.label.new.tokens
    (as_is (reads d (rule Item) ts) (reads d (make (λ p. i.Value p.0 p.1) (inside Expression then part Label)) mid) c.item_of.result c.label.new.tokens
    (fork_else STAR _ _ ts mid told c.eat.ensures.new ∙ ap (λ (b : Bool). (if b then reads d all_of else reads d (make (λ p. i.Value p.0 p.1) (inside Expression then part Label))) mid) ahead)
    (second (λ p. Some (i.Value p.0 p.1)) (reads_inside d Expression mid) (reads_part d Label)
    c.in_ok-value.value c.label.result c.item_of.result c.inner.new.tokens c.label.new.tokens
    c.in_ok-value.ensures (c.label.ensures d) c.item_of.ensures))
