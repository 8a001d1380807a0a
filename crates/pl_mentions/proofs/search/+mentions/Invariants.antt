use Rattle.std.proofs.Common.{◌≡◌, drop, map}
use Rattle.pl_mentions.specs.Mentions.{argument_mentions, arm_mentions, factor_mentions, mentions, one_of, term_mentions}
use Rattle.pl_mentions.proofs.search.+mentions.Given as goal

abbrev pub invariant-any-loop-e : goal.invariant-any-loop-e
invariant-any-loop-e l =
    one_of (map (mentions l.sought) l.list) ≡ one_of (map (mentions l.sought) (drop l.e-index l.list))

abbrev pub invariant-any_argument-loop-argument : goal.invariant-any_argument-loop-argument
invariant-any_argument-loop-argument l =
    one_of (map (argument_mentions l.sought) l.arguments) ≡ one_of (map (argument_mentions l.sought) (drop l.argument-index l.arguments))

abbrev pub invariant-any_arm-loop-arm : goal.invariant-any_arm-loop-arm
invariant-any_arm-loop-arm l =
    one_of (map (arm_mentions l.sought) l.arms) ≡ one_of (map (arm_mentions l.sought) (drop l.arm-index l.arms))

abbrev pub invariant-any_factor-loop-factor : goal.invariant-any_factor-loop-factor
invariant-any_factor-loop-factor l =
    one_of (map (factor_mentions l.sought) l.factors) ≡ one_of (map (factor_mentions l.sought) (drop l.factor-index l.factors))

abbrev pub invariant-any_term-loop-term : goal.invariant-any_term-loop-term
invariant-any_term-loop-term l =
    one_of (map (term_mentions l.sought) l.terms) ≡ one_of (map (term_mentions l.sought) (drop l.term-index l.terms))
