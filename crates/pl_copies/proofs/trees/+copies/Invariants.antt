use Rattle.std.proofs.Common.{◌≡◌, take}
use Rattle.pl_copies.proofs.trees.+copies.Given as goal

abbrev pub invariant-copy_exprs-loop-expr : goal.invariant-copy_exprs-loop-expr
invariant-copy_exprs-loop-expr l = l.copied ≡ take l.expr-index l.list

abbrev pub invariant-copy_arguments-loop-argument : goal.invariant-copy_arguments-loop-argument
invariant-copy_arguments-loop-argument l = l.copied ≡ take l.argument-index l.arguments

abbrev pub invariant-copy_arms-loop-arm : goal.invariant-copy_arms-loop-arm
invariant-copy_arms-loop-arm l = l.copied ≡ take l.arm-index l.arms

abbrev pub invariant-copy_factors-loop-factor : goal.invariant-copy_factors-loop-factor
invariant-copy_factors-loop-factor l = l.copied ≡ take l.factor-index l.factors

abbrev pub invariant-copy_terms-loop-term : goal.invariant-copy_terms-loop-term
invariant-copy_terms-loop-term l = l.copied ≡ take l.term-index l.terms

abbrev pub invariant-copy_items-loop-item : goal.invariant-copy_items-loop-item
invariant-copy_items-loop-item l = l.copied ≡ take l.item-index l.items

abbrev pub invariant-copy_from-loop-from : goal.invariant-copy_from-loop-from
invariant-copy_from-loop-from l = l.copied ≡ take l.from-index l.list

abbrev pub invariant-copy_keys-loop-key : goal.invariant-copy_keys-loop-key
invariant-copy_keys-loop-key l = l.copied ≡ take l.key-index l.keys

abbrev pub invariant-copy_joins-loop-join : goal.invariant-copy_joins-loop-join
invariant-copy_joins-loop-join l = l.copied ≡ take l.join-index l.joins
