use Rattle.std.proofs.Common.{◌≡◌, refl, rules}
use Rattle.pl_body_grammar.specs.Trees.{variable_type_of}
use Rattle.pl_body_grammar.specs.Grammar.{VariableType}
use Rattle.pl_body_grammar.proofs.Step.{was, gives, so_made, makes, makes_none, pairs, first_none, second_none}
use Rattle.pl_body_cursors.proofs.declarations.variable_type.Goals as goal

pub returns-in-Ok-type_suffix : goal.returns-in-Ok-type_suffix
returns-in-Ok-type_suffix c =
    let h = c.variable_type_of.ensures in
    let e : c.variable_type_of.result ≡ variable_type_of c.in-Ok.in_quotes c.in-Ok.name c.in-Ok-type_suffix.suffix = first_of (search rules, cc) in
    gives VariableType _ _ (so_made _ _ _ _ e (makes _ _ _ _ _ _ _ refl (pairs _ _ _ _ _ _ _ _ refl (was _ _ _ c.in-Ok.ensures) (was _ _ _ c.in-Ok-type_suffix.ensures)) refl))

pub returns-in-Err-type_suffix : goal.returns-in-Err-type_suffix
returns-in-Err-type_suffix c = λ s. gives VariableType _ _ (makes_none _ _ _ _ refl (second_none _ _ _ _ _ _ refl (was _ _ _ c.in-Ok.ensures) (was _ _ _ (c.in-Err-type_suffix.ensures s))))

pub returns-in-Err : goal.returns-in-Err
returns-in-Err c = λ s. gives VariableType _ _ (makes_none _ _ _ _ refl (first_none _ _ _ _ refl (was _ _ _ (c.in-Err.ensures s))))
