-- The call of an aggregate, from what its arguments mean.
use Rattle.std.proofs.Common.{◌≡◌, ◌∙◌, ap, sym, subst, ℕ, List, Option, Some, length}
use Rattle.std.specs.Prelude.{Result}
use Rattle.pl_names.specs.Names.{Name, Around}
use Rattle.pl_resolved.specs.declared.query.Aggregate.{Aggregate}
use Rattle.pl_scope.specs.Answers.{Answer, Meets, got, settled, then_answer}
use Rattle.pl_scope.specs.Expressions.{arguments_on, call_by, call_of, collected, no_aggregates}
use Rattle.pl_scope.specs.Parts.{ArgumentPart}
use Rattle.pl_scope.specs.declared.made.Made.{Made}
use Rattle.pl_typing.specs.Aggregates.{aggregate_named, aggregated}
use Rattle.pl_typing.specs.Calls.{no_arguments}
use Rattle.pl_typing.specs.declared.calls.Arguments.{Arguments}
use Rattle.pl_typing.specs.declared.fail.ScopeFail.{ScopeFail}
use Rattle.pl_typing.specs.declared.typed.Typed.{Typed}

abbrev pub from_arguments : Aggregate → Name → ℕ → Around → Arguments → Made → Answer Typed
from_arguments kind name since a all made =
    then_answer (settled (aggregated kind all) made) (λ x made. collected x name since a made)

pub aggregate_called : (name : Name) (parts : List ArgumentPart) (a : Around) (made more : Made)
    (kind : Aggregate) (all : Arguments) (since : ℕ) (r : Result Typed ScopeFail) (last : Made)
    → aggregate_named name ≡ Some kind
    → since ≡ length made.queries
    → arguments_on parts no_arguments (no_aggregates a) made ≡ got all more
    → Meets (from_arguments kind name since a all more) r last
    → Meets (call_of name parts a made) r last
aggregate_called name parts a made more kind all since r last named is_since arguments meets =
    subst (λ (answer : Answer Typed). Meets answer r last)
    (sym (ap (λ (found : Option Aggregate). call_by found name parts a made) named
    ∙ ap (λ (answer : Answer Arguments). then_answer answer
    (λ xs m. from_arguments kind name (length made.queries) a xs m)) arguments))
    (subst (λ (n : ℕ). Meets (from_arguments kind name n a all more) r last) is_since meets)
