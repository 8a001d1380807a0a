-- Statements one after another, each with a step. The statements inside of others are run by what
-- a `Runner` holds, so that there is no recursion here.
use Rattle.std.specs.Prelude.{ℕ, zero, suc, List, [], ◌∷◌}
use Rattle.pl_base.specs.States.{QUERY_CANCELED}
use Rattle.pl_bodies.specs.declared.statement.Body.{Body}
use Rattle.pl_bodies.specs.declared.statement.Statement.{Statement, out-Statement}
use Rattle.pl_meaning.specs.pl_typing.Resolved.{Resolved}
use Rattle.pl_world.specs.Errors.{Spot, place, raised}
use Rattle.pl_world.specs.World.{World, Stepped, Ran, behind, and_then, ends}
use Rattle.pl_world.specs.declared.outcome.Outcome.{Outcome}
use Rattle.pl_world.specs.declared.outcome.Outcome.TheVariants as outcome

-- what begins with a step: a statement, or the body of a routine that is called
pub data Task : Type 0 where
  statement : Statement → Task
  body : Body → Task

abbrev pub spot_of : Task → Spot
spot_of (statement s) = record {
  line = (out-Statement s).line;
  ordinal = (out-Statement s).ordinal;
}
spot_of (body b) = record { line = b.line; ordinal = 0 }

-- the body that the text of a DO is read as, or why it is refused
pub record Bodies : Type 0 where
  pub read : List ℕ → Resolved Body

-- what is run inside of statements and expressions, and how many turns a loop has at the most: no
-- fewer than there are steps left
pub record Runner : Type 0 where
  pub bodies : Bodies
  pub room : ℕ
  pub run : Task → World → Ran Outcome

-- ---- steps

abbrev pub stepped_by : ℕ → Spot → World → (World → Ran Outcome) → Ran Outcome
stepped_by zero at w k = raised QUERY_CANCELED at w
stepped_by (suc n) at w k = behind (Stepped (place at w) ∷ []) (k (record w { steps = n }))

-- a step is taken here, if one is left
unfoldable pub stepped : Spot → World → (World → Ran Outcome) → Ran Outcome
stepped at w k = stepped_by w.steps at w k

-- ---- one after another

-- after Next alone
abbrev pub on_next : (World → Ran Outcome) → Outcome → World → Ran Outcome
on_next k outcome.Next w = k w
on_next k o w = ends o w

unfoldable pub all : Runner → List Statement → World → Ran Outcome
all r [] w = ends outcome.Next w
all r (s ∷ ss) w = and_then (r.run (statement s) w) (on_next (λ w. all r ss w))
