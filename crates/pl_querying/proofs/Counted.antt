-- Queries whose rows are counted, and may go into variables.
use Rattle.std.proofs.Common.{◌≡◌, ◌∙◌, ℕ, Bool, List, Ok, Err, ap, length, refl, subst, sym}
use Rattle.std.specs.Prelude.{min}
use Rattle.pl_base.specs.States.{SYNTAX_ERROR}
use Rattle.pl_base.specs.declared.fail.Fail.{Fail}
use Rattle.pl_asking.proofs.of_pl_calling.Settled.{read_off, read_on, read_stops}
use Rattle.pl_asking.specs.pl_calling.Reading.{rows_read}
use Rattle.pl_asking.proofs.of_pl_engine.Joins.{Lawful, acted, becomes, ended, quietly}
use Rattle.pl_asking.specs.pl_engine.Answers.{Done, Partway, Stopped}
use Rattle.pl_asking.specs.pl_engine.Engines.{Quiet, world}
use Rattle.pl_asking.specs.pl_engine.declared.engine.Engine.{Engine}
use Rattle.pl_asking.specs.pl_engine.declared.port.Port.{Ghosts}
use Rattle.pl_asking.specs.pl_engine.declared.stop.Stop.{Stop}
use Rattle.pl_resolved.specs.declared.query.RQuery.{RQuery}
use Rattle.pl_value.specs.Frames.{Row}
use Rattle.pl_world.specs.Commands.{Selecting, into_one, performed, selected, without_destination}
use Rattle.pl_world.specs.Errors.{Spot, raised}
use Rattle.pl_world.specs.Expressions.{queried, read, rows_over}
use Rattle.pl_world.specs.Running.{Runner}
use Rattle.pl_world.specs.Variables.{counted}
use Rattle.pl_world.specs.World.{Ran, World, ends}
use Rattle.pl_world.specs.declared.outcome.Outcome.{Outcome}
use Rattle.pl_world.specs.declared.outcome.Outcome.TheVariants as outcome

counted_steps : (n : ℕ) (w : World) → (counted n w).steps ≡ w.steps
unfolding counted
counted_steps n w = refl

counted_last : (n : ℕ) (w : World) → (counted n w).last ≡ w.last
unfolding counted
counted_last n w = refl

-- ---- what is done with the rows

abbrev pub counting : List Row → World → Ran Outcome
counting rows w = ends outcome.Next (counted (length rows) w)

abbrev pub refusing : Spot → List Row → World → Ran Outcome
refusing at rows w = raised SYNTAX_ERROR at (counted (length rows) w)

abbrev pub filling : Spot → Bool → Selecting → List Row → World → Ran Outcome
filling at is_strict s rows w = into_one is_strict s.into rows at (counted (min 1 (length rows)) w)

pub performed_is : (r : Runner) (at : Spot) (qs : List RQuery) (w : World) → read (rows_over r at qs w) at counting ≡ performed r at qs w
unfolding performed queried
performed_is r at qs w = refl

pub refused_is : (r : Runner) (at : Spot) (qs : List RQuery) (w : World) → read (rows_over r at qs w) at (refusing at) ≡ without_destination r at qs w
unfolding without_destination queried
refused_is r at qs w = refl

pub selected_is : (r : Runner) (at : Spot) (is_strict : Bool) (s : Selecting) (w : World) → read (rows_over r at s.queries w) at (filling at is_strict s) ≡ selected r at is_strict s w
unfolding selected queried
selected_is r at is_strict s w = refl

module _ {P : Type 0} {port : Ghosts P} (law : Lawful port) (r : Runner) (at : Spot) (qs : List RQuery) {old : Engine} {p : P} (fits : port.fits (world old).last p) where
  module _ (k : List Row → World → Ran Outcome) where
    pub failed : (f : Fail) {new : Engine} {q : P} → Done port (rows_read r at qs (world old)) (Err f) old new p q → Done port (read (rows_over r at qs (world old)) at k) (outcome.Fail f) old new p q
    failed f d = read_off (rows_over r at qs (world old)) at k law fits f d

    pub stops : {stop : Stop} {q : P} → Stopped port (rows_read r at qs (world old)) stop old p q → Stopped port (read (rows_over r at qs (world old)) at k) stop old p q
    stops s = read_stops (rows_over r at qs (world old)) at k law fits s

  module _ (rows : List Row) {mid : Engine} {q : P} (d : Done port (rows_read r at qs (world old)) (Ok rows) old mid p q) where
    pub on_rows : (k : List Row → World → Ran Outcome) → Partway port (read (rows_over r at qs (world old)) at k) (k rows (world mid)) old mid p q
    on_rows k = read_on (rows_over r at qs (world old)) at k law fits rows d

    pub counted_done : {new : Engine} → world new ≡ counted (length rows) (world mid) → Done port (performed r at qs (world old)) outcome.Next old new p q
    counted_done {new} is =
        subst (λ (ran : Ran Outcome). Done port ran outcome.Next old new p q) (performed_is r at qs (world old))
        (ended law (quietly law {new = new} (on_rows counting) (ap (λ (w : World). w.steps) is ∙ counted_steps (length rows) (world mid)) (ap (λ (w : World). w.last) is ∙ counted_last (length rows) (world mid))) (sym is))

    pub refused_done : {new : Engine} (o : Outcome) → world new ≡ counted (length rows) (world mid) → Quiet (raised SYNTAX_ERROR at (world new)) o new new → Done port (without_destination r at qs (world old)) o old new p q
    refused_done {new} o is quiet =
        subst (λ (ran : Ran Outcome). Done port ran o old new p q) (refused_is r at qs (world old))
        (acted law (becomes law (quietly law {new = new} (on_rows (refusing at)) (ap (λ (w : World). w.steps) is ∙ counted_steps (length rows) (world mid)) (ap (λ (w : World). w.last) is ∙ counted_last (length rows) (world mid)))
        (ap (λ (w : World). raised SYNTAX_ERROR at w) (sym is))) quiet)

    pub filled : {new : Engine} (k : List Row → World → Ran Outcome) (o : Outcome) → Quiet (k rows (world mid)) o mid new → Done port (read (rows_over r at qs (world old)) at k) o old new p q
    filled k o quiet = acted law (on_rows k) quiet
