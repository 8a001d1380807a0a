use Rattle.std.proofs.Common.{◌≡◌, drop}
use Rattle.pl_alike.proofs.+alike.Given as goal

abbrev pub invariant-parts::same_exprs-loop-first : goal.invariant-parts::same_exprs-loop-first
invariant-parts::same_exprs-loop-first l = drop l.first-index l.a ≡ l.rest → l.a ≡ l.b

abbrev pub invariant-parts::same_arguments-loop-first : goal.invariant-parts::same_arguments-loop-first
invariant-parts::same_arguments-loop-first l = drop l.first-index l.a ≡ l.rest → l.a ≡ l.b

abbrev pub invariant-parts::same_arms-loop-first : goal.invariant-parts::same_arms-loop-first
invariant-parts::same_arms-loop-first l = drop l.first-index l.a ≡ l.rest → l.a ≡ l.b

abbrev pub invariant-parts::same_factors-loop-first : goal.invariant-parts::same_factors-loop-first
invariant-parts::same_factors-loop-first l = drop l.first-index l.a ≡ l.rest → l.a ≡ l.b

abbrev pub invariant-parts::same_terms-loop-first : goal.invariant-parts::same_terms-loop-first
invariant-parts::same_terms-loop-first l = drop l.first-index l.a ≡ l.rest → l.a ≡ l.b

abbrev pub invariant-queries::same_items-loop-first : goal.invariant-queries::same_items-loop-first
invariant-queries::same_items-loop-first l = drop l.first-index l.a ≡ l.rest → l.a ≡ l.b

abbrev pub invariant-queries::same_froms-loop-first : goal.invariant-queries::same_froms-loop-first
invariant-queries::same_froms-loop-first l = drop l.first-index l.a ≡ l.rest → l.a ≡ l.b

abbrev pub invariant-queries::same_keys-loop-first : goal.invariant-queries::same_keys-loop-first
invariant-queries::same_keys-loop-first l = drop l.first-index l.a ≡ l.rest → l.a ≡ l.b

abbrev pub invariant-queries::same_joins-loop-first : goal.invariant-queries::same_joins-loop-first
invariant-queries::same_joins-loop-first l = drop l.first-index l.a ≡ l.rest → l.a ≡ l.b
