-- A join, by the two items that were read before its ON.
use Rattle.std.proofs.Common.{◌≡◌, ◌+◌, refl, subst, length, List, ℕ, Result, Ok, Err}
use Rattle.std.specs.Prelude.{IsErrAnd}
use Rattle.pl_names.specs.Names.{Around}
use Rattle.pl_names.specs.Sources.{together}
use Rattle.pl_names.specs.declared.scope.Source.{Source}
use Rattle.pl_names.specs.declared.sources.Sourced.{Sourced}
use Rattle.pl_scope.proofs.Following.{follows_goes, follows_stops}
use Rattle.pl_scope.specs.Answers.{Answer, Meets, got, fails, settled, then_answer}
use Rattle.pl_scope.specs.Expressions.{maybe_condition}
use Rattle.pl_scope.specs.Following.{after}
use Rattle.pl_scope.specs.Joining.{both_with, joined_by, side_by_side}
use Rattle.pl_scope.specs.Parts.{JoinPart}
use Rattle.pl_scope.specs.Queries.{join_on}
use Rattle.pl_scope.specs.Steps.{joined_in}
use Rattle.pl_scope.specs.declared.entering.Both.{Both}
use Rattle.pl_scope.specs.declared.made.Made.{Made}
use Rattle.pl_typing.specs.Resolved.{Resolved}
use Rattle.pl_typing.specs.declared.fail.ScopeFail.{ScopeFail}

-- with ON, from both
abbrev on_both : JoinPart → Around → Both → Made → Answer Sourced
on_both j a both made =
    then_answer (maybe_condition j.condition (joined_in both.sources both.end a) made)
    (λ on made. got (joined_by both j.kind on) made)

abbrev on_sources : JoinPart → Around → Sourced → ℕ → Sourced → List Source → Made → Answer Sourced
on_sources j a done row with sources made = on_both j a (both_with done row with sources) made

from_sources : (j : JoinPart) (a : Around) (done with : Sourced) (row : ℕ) (made : Made)
    (m : Resolved (List Source))
    → then_answer (settled (after m (both_with done row with)) made) (on_both j a)
    ≡ then_answer (settled m made) (on_sources j a done row with)
from_sources j a done with row made (Ok sources) = refl
from_sources j a done with row made (Err state) = refl

from_with : (j : JoinPart) (a : Around) (done : Sourced) (row : ℕ) (m : Answer Sourced)
    → then_answer m (λ with made. then_answer (settled (side_by_side done row with) made) (on_both j a))
    ≡ then_answer m (λ with made. then_answer (settled (together done.sources with.sources) made) (on_sources j a done row with))
from_with j a done row (got with made) = from_sources j a done with row made (together done.sources with.sources)
from_with j a done row (fails state) = refl

pub join_stops : (j : JoinPart) (row at : ℕ) (done : Sourced) (a : Around) (made more : Made)
    (r : Result Sourced ScopeFail) (why : ScopeFail) (last : Made)
    → at ≡ row + length done.sources → IsErrAnd r (λ e. e ≡ why)
    → Meets {A = Both} (then_answer (j.with at a made) (λ with made.
    settled (side_by_side done row with) made)) (Err why) more
    → Meets (join_on j row done a made) r last
join_stops j row at done a made more r why last is_at passed is =
    subst (λ (m : Answer Sourced). Meets m r last)
    (from_with j a done row (j.with (row + length done.sources) a made))
    (subst (λ (at : ℕ). Meets (then_answer (j.with at a made) (λ with made.
    then_answer (settled (side_by_side done row with) made) (on_both j a))) r last) is_at
    (follows_stops (j.with at a made)
    (λ with made. settled (side_by_side done row with) made) (on_both j a) r why more last passed is))

pub join_goes : (j : JoinPart) (row at : ℕ) (done : Sourced) (a : Around) (made more : Made)
    (r : Result Sourced ScopeFail) (both : Both) (last : Made) → at ≡ row + length done.sources
    → then_answer (j.with at a made) (λ with made.
    settled (side_by_side done row with) made) ≡ got both more
    → Meets (then_answer (maybe_condition j.condition (joined_in both.sources both.end a) more)
    (λ on made. settled (Ok (joined_by both j.kind on)) made)) r last
    → Meets (join_on j row done a made) r last
join_goes j row at done a made more r both last is_at is meets =
    subst (λ (m : Answer Sourced). Meets m r last)
    (from_with j a done row (j.with (row + length done.sources) a made))
    (subst (λ (at : ℕ). Meets (then_answer (j.with at a made) (λ with made.
    then_answer (settled (side_by_side done row with) made) (on_both j a))) r last) is_at
    (follows_goes (j.with at a made)
    (λ with made. settled (side_by_side done row with) made) (on_both j a) r both more last is meets))
