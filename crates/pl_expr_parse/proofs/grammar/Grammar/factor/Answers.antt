use Rattle.std.proofs.Common.{◌≡◌, Bool, true, [], ◌∷◌, rules, ap, if◌then◌else◌}
use Rattle.pl_grammar.specs.Marks.{name, a_table_name, begins}
use Rattle.pl_grammar.specs.Parser.{take}
use Rattle.pl_grammar.specs.Rule.{part, one, check, ◌then◌, ◌before◌}
use Rattle.pl_grammar.specs.Words.{OPEN}
use Rattle.pl_expr_parse.specs.Grammar.{Alias, Call, Factor, FactorInBrackets, rule}
use Rattle.pl_expr_parse.specs.Trees.{source_of}
use Rattle.pl_expr_parse.specs.FirstFollow.{reads, reads_part}
use Rattle.pl_expr_parse.proofs.Step.{gives_all}
use Rattle.pl_expr_parse.proofs.Follows.{as_is, third}
use Rattle.pl_expr_parse.proofs.grammar.Grammar.factor.Goals as goal

pub returns-then-sees : goal.returns-then-sees
returns-then-sees g c =
    let d = c.args.self.now.depth in
    let ts = c.args.tokens.now in
    let told : begins (name ∷ []) ts ≡ true = search rules in
    let call = reads_part d Call in
    let alias = reads_part d Alias in
    gives_all d Factor ts c.source_of.result c.alias.new.tokens
    (as_is (reads d (rule Factor) ts) (reads d (check (λ p. source_of p.0 p.1.0 p.1.1) (one a_table_name then part Call then part Alias)) ts) c.source_of.result c.alias.new.tokens
    (ap (λ (b : Bool). (if b then reads d (check (λ p. source_of p.0 p.1.0 p.1.1) (one a_table_name then part Call then part Alias)) else reads d (OPEN before part FactorInBrackets)) ts) told)
    (third (λ p. source_of p.0 p.1.0 p.1.1) (take a_table_name ts) call alias
    c.in_ok-name.name c.in_ok-arguments.arguments c.alias.result c.source_of.result c.table_name.new.self c.call.new.tokens c.alias.new.tokens
    c.in_ok-name.ensures c.in_ok-arguments.ensures (c.alias.ensures d) c.source_of.ensures))
