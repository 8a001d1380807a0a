-- GROUP BY: PostgreSQL manual, "The GROUP BY and HAVING Clauses".
use Rattle.std.specs.Prelude.{List, filter, map}
use Rattle.pl_base.specs.declared.value.Value.{Value}
use Rattle.pl_keys.specs.Same.{firsts, same}

-- for each of the keys of which none before is the same: the things whose keys are the same
abbrev pub groups : {A : Type 0} → (A → List Value) → List A → List (List A)
groups key xs = map (λ k. filter (λ x. same k (key x)) xs) (firsts (map key xs))
