use Rattle.std.proofs.Common.{rules, ◌≡◌, slice_get, ◌-◌, length, Some}
use Rattle.pl_tree.specs.declared.tree.Sign.TheVariants as sg
use Rattle.pl_expr_parse.proofs.Signs.{popped}
use Rattle.pl_expr_parse.proofs.trees.pop_minus.Goals as goal

pub returns-in-Some-Minus-clause-rest : goal.returns-in-Some-Minus-clause-rest
returns-in-Some-Minus-clause-rest c =
    let h : slice_get c.args.signs.now (length c.args.signs.now - 1) ≡ Some sg.Minus = search rules in
    popped c.args.signs.now c.pop.new.self c.pop.result h c.pop.ensures
