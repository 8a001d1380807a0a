-- A body with its rules, as the code comes to it: `Reading.antt` says what has to be believed.
use Rattle.std.specs.Prelude.{◌≡◌, Some, None, Result, Ok, Err}
use Rattle.pl_bodies.specs.declared.statement.Body.{Body}
use Rattle.pl_body_rules.specs.Heading.{Routine}
use Rattle.pl_body_rules.specs.Rules.{first_breach}
use Rattle.pl_routine.specs.declared.reading.BodyFail.{BodyFail}
use Rattle.pl_routine.specs.declared.reading.BodyFail.TheVariants as fail

-- the body, if it breaks no rule, or the first that it breaks
abbrev pub Keeps : Routine → Body → Result Body BodyFail → Type 0
Keeps r body (Ok kept) = (kept ≡ body) × (first_breach r body ≡ None)
Keeps r body (Err (fail.Bad bad)) = ⊥
Keeps r body (Err (fail.TooDeep at)) = ⊥
Keeps r body (Err fail.Syntax) = ⊥
Keeps r body (Err (fail.Breach breach)) = first_breach r body ≡ Some breach
Keeps r body (Err fail.Memory) = Unit {0}
