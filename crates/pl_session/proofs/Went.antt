-- How a command went, and what of it is told before its end.
use Rattle.std.proofs.Common.{◌≡◌, ◌∙◌, ◌⊎◌, ◌++◌, inl, inr, ⊎_elim, ℕ, Bool, false, List, [], ◌∷◌, drop, length, length-append, Option, Some, None, ap, arith, refl, sym}
use Rattle.std.specs.Prelude.{◌||◌}
use Rattle.std.proofs.lemmas.List.{append-nil}
use Rattle.pl_base.specs.declared.fail.Fail.{Fail}
use Rattle.pl_port.proofs.of_pl_engine.Joins.{outward-append}
use Rattle.pl_port.specs.pl_engine.Texts.{do_bodies}
use Rattle.pl_exec.proofs.of_pl_world.Lent.{is_failed-append}
use Rattle.pl_exec.specs.pl_world.Trace as trace
use Rattle.pl_exec.specs.pl_world.Trace.{is_failed, last_commit, text}
use Rattle.pl_transactions.specs.Tag.{Tag}
use Rattle.pl_reading.specs.declared.reading.Reading.TheVariants.{Spelled}
use Rattle.pl_session.specs.Steps.{IsPart, replies}
use Rattle.pl_session.specs.Traces.{events_in}
use Rattle.pl_transactions.specs.Before.{told, told_of_begin, told_of_end, told_of_plain}
use Rattle.pl_transactions.specs.Ends.{as_ran}
use Rattle.pl_transactions.specs.Lines.{lines_by, lines_of}
use Rattle.pl_tree.specs.declared.command.Command.{Command}
use Rattle.pl_tree.specs.declared.command.Command.TheVariants as command
use Rattle.pl_undo.specs.Database.{Database}
use Rattle.pl_exec.specs.pl_world.Laws.{end_of, events}
use Rattle.pl_exec.specs.pl_world.Running.{Bodies}
use Rattle.pl_exec.specs.pl_world.Scripts.{events_of, outward, reply_event}
use Rattle.pl_exec.specs.pl_world.Sessions.{Save, Session, Went, alone, back_at, begins, commits, does_command, does_plain, ended_alone, ended_inside, goes_back, inside, place_of, plain, released_at, releases, rolls_back, saves, went}
use Rattle.pl_exec.specs.pl_world.World.{Began, Committed, Event, Raised, Ran, Said, Stepped, made}
use Rattle.pl_exec.specs.pl_world.declared.session.Mode.{Mode}
use Rattle.pl_exec.specs.pl_world.declared.session.Mode.TheVariants as mode
use Rattle.pl_exec.specs.pl_world.declared.session.Reply.{Reply}

-- ---- what is told before the end

-- the events are those before the end, and then a commit, if there is one
abbrev pub Own : Went → List Event → Type 0
Own w es = (outward (events (as_ran w)) ≡ outward es) ⊎ ((db : Database) × (outward (events (as_ran w)) ≡ outward es ++ trace.Committed db ∷ []))

alone_own : (r : Ran Reply) → Own (alone r) (events r)
alone_own (made w answer es) = by_fail answer.fail
  where
    by_fail : (fail : Option Fail) → Own (ended_alone fail answer es w) es
    by_fail (Some f) = inl refl
    by_fail None = inr (w.database, outward-append es (Committed w.database ∷ []))

inside_own : (saves : List Save) (r : Ran Reply) → Own (inside saves r) (events r)
inside_own saves (made w answer es) = by_fail answer.fail
  where
    by_fail : (fail : Option Fail) → Own (ended_inside fail saves answer es w) es
    by_fail (Some f) = inl refl
    by_fail None = inl refl

module _ (s : Session) where
  begin_own : (t : Tag) (m : Mode) → Own (begins t m s) (told_of_begin m)
  begin_own t mode.Idle = inl refl
  begin_own t mode.Block = inl refl
  begin_own t mode.Failed = inl refl

  commit_own : (m : Mode) → Own (commits m s) (told_of_end m)
  commit_own mode.Idle = inr (s.world.database, refl)
  commit_own mode.Block = inr (s.world.database, refl)
  commit_own mode.Failed = inl refl

  roll_back_own : (m : Mode) → Own (rolls_back m s) (told_of_end m)
  roll_back_own mode.Idle = inr (s.world.database, refl)
  roll_back_own mode.Block = inl refl
  roll_back_own mode.Failed = inl refl

  save_own : (name : List ℕ) (m : Mode) → Own (saves name m s) []
  save_own name mode.Idle = inl refl
  save_own name mode.Block = inl refl
  save_own name mode.Failed = inl refl

  released_own : (at : Option ℕ) → Own (released_at at s) []
  released_own None = inl refl
  released_own (Some i) = inl refl

  release_own : (name : List ℕ) (m : Mode) → Own (releases name m s) []
  release_own name mode.Idle = inl refl
  release_own name mode.Block = released_own (place_of name s.saves)
  release_own name mode.Failed = inl refl

  returned_own : (at : Option ℕ) → Own (back_at at s) []
  returned_own None = inl refl
  returned_own (Some i) = inl refl

  back_own : (name : List ℕ) (m : Mode) → Own (goes_back name m s) []
  back_own name mode.Idle = inl refl
  back_own name mode.Block = returned_own (place_of name s.saves)
  back_own name mode.Failed = returned_own (place_of name s.saves)

  plain_own : (b : Bodies) (n : ℕ) (c : Command) (m : Mode) → Own (does_plain b n c m s) (told_of_plain b n c m s)
  plain_own b n c mode.Idle = alone_own (plain b n c s)
  plain_own b n c mode.Block = inside_own s.saves (plain b n c s)
  plain_own b n c mode.Failed = inl refl

pub own : (b : Bodies) (n : ℕ) (c : Command) (s : Session) → Own (does_command b n c s) (told b n c s)
unfolding does_command told
own b n command.Begin s = begin_own s _ s.mode
own b n command.StartTransaction s = begin_own s _ s.mode
own b n command.Commit s = commit_own s s.mode
own b n command.Rollback s = roll_back_own s s.mode
own b n (command.Savepoint name) s = save_own s name s.mode
own b n (command.Release name) s = release_own s name s.mode
own b n (command.RollbackTo name) s = back_own s name s.mode
own b n (command.Define d source) s = plain_own s b n (command.Define d source) s.mode
own b n (command.Query q) s = plain_own s b n (command.Query q) s.mode
own b n (command.Insert i) s = plain_own s b n (command.Insert i) s.mode
own b n (command.Update u) s = plain_own s b n (command.Update u) s.mode
own b n (command.Delete d) s = plain_own s b n (command.Delete d) s.mode
own b n (command.Do language body) s = plain_own s b n (command.Do language body) s.mode
own b n (command.Call name arguments) s = plain_own s b n (command.Call name arguments) s.mode

-- where one more is left of a list, what comes before is a front of all but its last
front_of : (xs front : List trace.Event) (x e : trace.Event) (left : List trace.Event) → xs ++ x ∷ [] ≡ front ++ e ∷ left → IsPart front xs
front_of xs [] x e left is = (xs, refl)
front_of [] (f ∷ fs) x e left is = absurd (let long = length-append fs (e ∷ left) in let same = ap length is in omega (arith, same, long))
front_of (y ∷ ys) (f ∷ fs) x e left is =
    let rest = front_of ys fs x e left (ap (λ (l : List trace.Event). drop 1 l) is) in
    let same : y ≡ f = cc in
    (rest.0, λ i. same i ∷ rest.1 i)

-- an event was tried
pub part_of : (w : Went) (es : List Event) → Own w es → (front rest : List Event) (e : trace.Event) (left : List trace.Event) → events (as_ran w) ≡ front ++ rest → outward rest ≡ e ∷ left → IsPart (outward front) (outward es)
part_of w es own front rest e left are next = ⊎_elim
    (λ same. (outward rest, sym same ∙ ap outward are ∙ outward-append front rest))
    (λ it. front_of (outward es) (outward front) (trace.Committed it.0) e left
    (sym it.1 ∙ ap outward are ∙ outward-append front rest ∙ ap (λ (l : List trace.Event). outward front ++ l) next))
    own

pub front_told : (es front rest : List Event) → es ≡ front ++ rest → IsPart (outward front) (outward es)
front_told es front rest are = (outward rest, ap outward are ∙ outward-append front rest)

-- ---- events

-- the events of what went are those before the reply, and the reply
went_split : (x : Went) → events_of x ≡ outward (events (as_ran x)) ++ replies (end_of (as_ran x))
went_split (went s answer es) = refl

pub command_events : (c : Command) (n : ℕ) (s : Session) → events_in n (Spelled c) s ≡ outward (events (as_ran (does_command do_bodies n c s))) ++ replies (end_of (as_ran (does_command do_bodies n c s)))
command_events c n s = went_split (does_command do_bodies n c s)

pub replies_text : (answer : Reply) → text (replies answer) ≡ lines_of answer
replies_text answer = by_fail answer.fail
  where
    by_fail : (fail : Option Fail) → text (reply_event fail answer ∷ []) ≡ lines_by fail answer
    by_fail (Some f) = append-nil (lines_by (Some f) answer)
    by_fail None = append-nil (lines_by None answer)

pub replies_last : (answer : Reply) (db : Database) → last_commit (replies answer) db ≡ db
replies_last answer db = by_fail answer.fail
  where
    by_fail : (fail : Option Fail) → last_commit (reply_event fail answer ∷ []) db ≡ db
    by_fail (Some f) = refl
    by_fail None = refl

-- no event before a reply is an error's
outward_fine : (es : List Event) → is_failed (outward es) ≡ false
outward_fine [] = refl
outward_fine (Stepped at ∷ es) = outward_fine es
outward_fine (Raised f ∷ es) = outward_fine es
outward_fine (Began what ∷ es) = outward_fine es
outward_fine (Said lines ∷ es) = outward_fine es
outward_fine (Committed db ∷ es) = outward_fine es

pub failed_is : (es : List Event) (answer : Reply) → is_failed (outward es ++ replies answer) ≡ is_failed (replies answer)
failed_is es answer = is_failed-append (outward es) (replies answer) ∙ ap (λ (b : Bool). b || is_failed (replies answer)) (outward_fine es)
