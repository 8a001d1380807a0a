-- Commands that are no transaction control.
use Rattle.std.proofs.Common.{◌≡◌, ◌≤◌, ◌∙◌, ℕ, List, true, Option, Some, None, Result, Ok, Err, ap, append-nil, arith, length, refl, subst, sym}
use Rattle.std.specs.Prelude.{IfOk, IsErrOf}
use Rattle.std.specs.Result.{IsErr, IsErrAnd}
use Rattle.pl_base.specs.declared.fail.Fail.{Fail}
use Rattle.pl_command.specs.Ends.{IsIdle, as_ran}
use Rattle.pl_command.specs.Lines.{lines_of}
use Rattle.pl_command.specs.Replied.{replied}
use Rattle.pl_command.specs.declared.answers.Answer.{Answer}
use Rattle.pl_command.proofs.of_pl_engine.Joins.{Lawful, becomes, before, on, start, stopped}
use Rattle.pl_command.specs.pl_engine.Answers.{Answers, Done, Stopped}
use Rattle.pl_command.specs.pl_engine.Database.{Database}
use Rattle.pl_command.specs.pl_engine.Engines.{Kept, kept, world}
use Rattle.pl_command.specs.pl_engine.Texts.{do_bodies}
use Rattle.pl_command.specs.pl_engine.declared.engine.Engine.{Engine}
use Rattle.pl_command.specs.pl_engine.declared.port.Port.{Ghosts}
use Rattle.pl_command.specs.pl_engine.declared.stop.Stop.{Stop}
use Rattle.pl_command.specs.pl_engine.declared.stop.Stop.TheVariants.{Memory}
use Rattle.pl_transactions.proofs.Ends.{session_over, stands_over}
use Rattle.pl_transactions.proofs.Quiet.{same_events, same_last, went_is}
use Rattle.pl_transactions.proofs.Refused.{not_idle}
use Rattle.pl_transactions.specs.Before.{told_of_plain}
use Rattle.pl_transactions.specs.Goes.{Answered, Goes, Halted, telling}
use Rattle.pl_transactions.specs.State.{Stands, is_block, mode_behind, paired, session_at}
use Rattle.pl_transactions.specs.declared.transaction.Transaction.{Transaction}
use Rattle.pl_tree.specs.declared.command.Command.{Command}
use Rattle.pl_command.specs.pl_world.Laws.{events, world_behind}
use Rattle.pl_command.specs.pl_world.Scripts.{outward, session_of}
use Rattle.pl_command.specs.pl_world.Sessions.{Save, Session, Went, alone, command_done, does_plain, ended_alone, ended_inside, inside, over, plain, session, went, with_steps}
use Rattle.pl_command.specs.pl_world.Statements.{runner_for}
use Rattle.pl_command.specs.pl_world.Trace.{last_commit}
use Rattle.pl_command.specs.pl_world.World.{Event, Ran, World, and_then, ends, made}
use Rattle.pl_command.specs.pl_world.declared.session.Mode.{Mode}
use Rattle.pl_command.specs.pl_world.declared.session.Mode.TheVariants as mode
use Rattle.pl_command.specs.pl_world.declared.session.Reply.{Reply}

-- ---- as a transaction of its own

-- its session is over
alone_over : (r : Ran Reply) → (db : Database) × (w : World) × (session_of (alone r) ≡ over db db w)
alone_over (made w answer es) = by_fail answer.fail
  where
    by_fail : (fail : Option Fail) → (db : Database) × (v : World) × (session_of (ended_alone fail answer es w) ≡ over db db v)
    by_fail (Some f) = (w.last, w, refl)
    by_fail None = (w.database, w, refl)

world_of : (x : Went) → world_behind (as_ran x) ≡ (session_of x).world
world_of (went s answer es) = refl

pub begins_idle : (t : Transaction) (old mid : Engine) (budget : ℕ) → Stands t old → t.mode ≡ mode.Idle → world mid ≡ with_steps budget (world old) → IsIdle (world mid)
begins_idle t old mid budget s idle begins = record {
  depth = ap (λ (w : World). w.depth) begins ∙ s.marks ∙ ap (λ (ns : List (List ℕ)). length ns) (s.nameless idle);
  in_block = ap (λ (w : World). w.in_block) begins ∙ s.in_block ∙ ap is_block idle;
}

pub room_for : (old mid : Engine) (budget : ℕ) → world mid ≡ with_steps budget (world old) → (world mid).steps ≤ budget
room_for old mid budget begins = let same = ap (λ (w : World). w.steps) begins in omega (arith, same)

module _ {P : Type 0} (port : Ghosts P) (t : Transaction) (c : Command) (steps : ℕ) (old mid new : Engine) (p q : P) (begins : world mid ≡ with_steps steps (world old)) where
  abbrev ran_from : World → Ran Reply
  ran_from w = command_done (runner_for do_bodies steps) c w

  abbrev all : Ran Reply
  all = plain do_bodies steps c (session_at t old)

  last_begun : (world mid).last ≡ (world old).last
  last_begun = ap (λ (w : World). w.last) begins

  module _ (s : Stands t old) (idle : t.mode ≡ mode.Idle) where
    pub alone_so : (r : Result Answer Stop) → Answers port (as_ran (alone (command_done (runner_for do_bodies steps) c (world mid)))) (replied r) mid new p q
        → (IsErrOf r Memory → Stopped port (command_done (runner_for do_bodies steps) c (world mid)) Memory mid p q) → IfOk r (λ answer. answer.lines ≡ lines_of answer.reply)
        → Goes port (does_plain do_bodies steps c t.mode (session_at t old)) (told_of_plain do_bodies steps c t.mode (session_at t old)) r t old new p q
    alone_so r is memory lines = subst (λ (m : Mode). Goes port (does_plain do_bodies steps c m (session_at t old)) (told_of_plain do_bodies steps c m (session_at t old)) r t old new p q) (sym idle)
        (by_result r (subst (λ (w : World). Answers port (as_ran (alone (ran_from w))) (replied r) mid new p q) begins is) (λ same. subst (λ (w : World). Stopped port (ran_from w) Memory mid p q) begins (memory same)) lines)
      where
        by_result : (x : Result Answer Stop) → Answers port (as_ran (alone all)) (replied x) mid new p q → (IsErrOf x Memory → Stopped port all Memory mid p q) → IfOk x (λ answer. answer.lines ≡ lines_of answer.reply)
            → Goes port (alone all) (events all) x t old new p q
        by_result (Ok answer) d memory lines =
            let it = alone_over all in
            let worlds : (over it.0 it.0 it.1).world ≡ world new = ap (λ (x : Session). x.world) (sym it.2) ∙ sym (world_of (alone all)) ∙ ap (λ (x : Ran Reply). world_behind x) d.gives in
            record {
              events = d.events;
              gives = went_is (alone all) (session_at t new) answer.reply d.events (world new) (it.2 ∙ session_over it.0 it.0 it.1 t new idle (s.nameless idle) worlds) d.gives;
              took = subst (λ (db : Database). port.took db (outward d.events) p q) last_begun d.told.took;
              last = d.told.last ∙ ap (λ (db : Database). last_commit (outward d.events) db) last_begun;
              fits = d.told.fits;
              stands = stands_over it.0 it.0 it.1 t new idle (s.nameless idle) refl worlds;
              lines = lines;
            }
        by_result (Err stop) x memory lines = record {
          stopped = same_last last_begun x;
          early = λ same. same_events refl (same_last last_begun (memory (ap (λ (y : Stop). let r : Result Answer Stop = Err y in r) same)));
        }

  -- ---- in a block

  ended_so : (fail : Option Fail) (saves : List Save) (answer : Reply) (es : List Event) (w : World) → ended_inside fail saves answer es w ≡ went (session w (mode_behind fail mode.Block) saves) answer es
  ended_so (Some f) saves answer es w = refl
  ended_so None saves answer es w = refl

  inside_events : (saves : List Save) (r : Ran Reply) → events (as_ran (inside saves r)) ≡ events r
  inside_events saves (made w answer es) = by_fail answer.fail
    where
      by_fail : (fail : Option Fail) → events (as_ran (ended_inside fail saves answer es w)) ≡ es
      by_fail (Some f) = refl
      by_fail None = refl

  still_block : (fail : Option Fail) → is_block (mode_behind fail mode.Block) ≡ true
  still_block (Some f) = refl
  still_block None = refl

  then_ends : (r : Ran Reply) → r ≡ and_then r ends
  then_ends (made w x es) = ap (λ (xs : List Event). made w x xs) (sym (append-nil es))

  module _ (s : Stands t old) (block : t.mode ≡ mode.Block) (fits : port.fits (world old).last p) (kept_begun : kept mid ≡ kept old) where
    abbrev saves : List Save
    saves = paired t.names.items (kept old).marks

    pub inside_so : (u : Transaction) (answer : Answer) → Done port (command_done (runner_for do_bodies steps) c (world mid)) answer.reply mid new p q → kept new ≡ kept mid → answer.lines ≡ lines_of answer.reply
        → u.mode ≡ mode_behind answer.reply.fail t.mode → u.names.items ≡ t.names.items → Answered port (does_plain do_bodies steps c t.mode (session_at t old)) answer u old new p q
    inside_so u answer d keeps lines is_mode is_names =
        let gives : all ≡ made (world new) answer.reply d.events = ap ran_from (sym begins) ∙ d.gives in
        let names : t.names.items ≡ u.names.items = sym is_names in
        let marks : (kept old).marks ≡ (kept new).marks = ap (λ (k : Kept). k.marks) (sym (keeps ∙ kept_begun)) in
        let now : u.mode ≡ mode_behind answer.reply.fail mode.Block = is_mode ∙ ap (λ (m : Mode). mode_behind answer.reply.fail m) block in
        let in_block : is_block u.mode ≡ true = ap is_block now ∙ still_block answer.reply.fail in
        subst (λ (m : Mode). Answered port (does_plain do_bodies steps c m (session_at t old)) answer u old new p q) (sym block) (record {
          events = d.events;
          gives = ap (λ (r : Ran Reply). inside saves r) gives ∙ ended_so answer.reply.fail saves answer.reply d.events (world new)
              ∙ (λ i. went (session (world new) (sym now i) (paired (names i) (marks i))) answer.reply d.events);
          took = subst (λ (db : Database). port.took db (outward d.events) p q) last_begun d.told.took;
          last = d.told.last ∙ ap (λ (db : Database). last_commit (outward d.events) db) last_begun;
          fits = d.told.fits;
          stands = record {
            marks = ap (λ (ds : List Database). length ds) (sym marks) ∙ s.marks ∙ ap (λ (ns : List (List ℕ)). length ns) names;
            in_block = ap (λ (k : Kept). k.in_block) (keeps ∙ kept_begun) ∙ s.in_block ∙ ap is_block block ∙ sym in_block;
            nameless = λ idle. absurd (not_idle u.mode in_block idle);
            settled = λ idle. absurd (not_idle u.mode in_block idle);
          };
          lines = lines;
        })

    pub inside_cut : (stop : Stop) → Stopped port (command_done (runner_for do_bodies steps) c (world mid)) stop mid p q → Halted port (does_plain do_bodies steps c t.mode (session_at t old)) (told_of_plain do_bodies steps c t.mode (session_at t old)) stop old p q
    inside_cut stop x =
        let now = same_last last_begun (subst (λ (w : World). Stopped port (ran_from w) stop mid p q) begins x) in
        subst (λ (m : Mode). Halted port (does_plain do_bodies steps c m (session_at t old)) (told_of_plain do_bodies steps c m (session_at t old)) stop old p q) (sym block) (record {
          stopped = same_events (inside_events saves all) now;
          early = λ same. subst (λ (y : Stop). Stopped port (telling (events all) (world old)) y old p q) same (same_events refl now);
        })

    -- what `?` hands on
    pub inside_off : (r : Result Answer Stop) (u : Transaction) (stop : Stop) → IsErr r × IsErrAnd r (λ x. x ≡ stop) → Stopped port (command_done (runner_for do_bodies steps) c (world mid)) stop mid p q
        → Goes port (does_plain do_bodies steps c t.mode (session_at t old)) (told_of_plain do_bodies steps c t.mode (session_at t old)) r u old new p q
    inside_off (Ok answer) u stop is x = let no = is.0 in absurd (cc)
    inside_off (Err e) u stop is x = subst (λ (y : Stop). Halted port (does_plain do_bodies steps c t.mode (session_at t old)) (told_of_plain do_bodies steps c t.mode (session_at t old)) y old p q) (sym is.1) (inside_cut stop x)

    -- it was done, and its lines lacked memory
    pub inside_unsaid : (law : Lawful port) (answer : Reply) → Done port (command_done (runner_for do_bodies steps) c (world mid)) answer mid new p q
        → Halted port (does_plain do_bodies steps c t.mode (session_at t old)) (told_of_plain do_bodies steps c t.mode (session_at t old)) Memory old p q
    inside_unsaid law answer d =
        let here = subst (λ (db : Database). port.fits db p) (sym last_begun) fits in
        inside_cut Memory (stopped law (on law ends (becomes law (start law (ran_from (world mid)) mid p here) (then_ends (ran_from (world mid)))) d) (before law refl))
