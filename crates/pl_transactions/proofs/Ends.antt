-- Ends of transactions.
use Rattle.std.proofs.Common.{◌≡◌, ◌≤◌, ◌∙◌, ℕ, List, [], ◌∷◌, false, true, Result, Err, ap, arith, length, refl, subst, sym, take}
use Rattle.std.specs.Result.{IsErrOf}
use Rattle.std.proofs.lemmas.List.{nil_from_length}
use Rattle.pl_base.specs.States.{NO_ACTIVE_SQL_TRANSACTION}
use Rattle.pl_command.specs.Ends.{as_ran}
use Rattle.pl_command.specs.Lines.{lines_of}
use Rattle.pl_command.specs.declared.answers.Answer.{Answer}
use Rattle.pl_command.proofs.of_pl_engine.Joins.{Lawful, acted, becomes, ended, on, quietly, start, stopped, within}
use Rattle.pl_command.proofs.of_pl_engine.Tells.{untaken}
use Rattle.pl_command.specs.pl_engine.Answers.{Done, Partway, Stopped}
use Rattle.pl_command.specs.pl_engine.Database.{Database}
use Rattle.pl_command.specs.pl_engine.Engines.{kept, world}
use Rattle.pl_command.specs.pl_engine.declared.engine.Engine.{Engine}
use Rattle.pl_command.specs.pl_engine.declared.port.Port.{Ghosts}
use Rattle.pl_command.specs.pl_engine.declared.stop.Stop.{Stop}
use Rattle.pl_command.specs.pl_engine.declared.stop.Stop.TheVariants.{Memory}
use Rattle.pl_print.specs.declared.reply.Tag.{Tag}
use Rattle.pl_print.specs.declared.reply.Tag.TheVariants as tags
use Rattle.pl_transactions.proofs.Quiet.{from_done, same_events}
use Rattle.pl_transactions.specs.Before.{told_of_end}
use Rattle.pl_transactions.specs.Blocks.{ends_none, undoes}
use Rattle.pl_transactions.specs.Goes.{Answered, Halted, Quietly, telling}
use Rattle.pl_transactions.specs.State.{Stands, is_block, is_idle, paired, session_at}
use Rattle.pl_transactions.specs.Warnings.{warning_line}
use Rattle.pl_transactions.specs.declared.transaction.Transaction.{Transaction}
use Rattle.pl_command.specs.pl_world.Laws.{world_behind}
use Rattle.pl_command.specs.pl_world.Raising.{printed}
use Rattle.pl_command.specs.pl_world.Sessions.{Session, commits, over, rolls_back, session, tagged, warning}
use Rattle.pl_command.specs.pl_world.Transactions.{committed}
use Rattle.pl_command.specs.pl_world.World.{Committed, Event, Ran, Said, World, and_then, ends, made}
use Rattle.pl_command.specs.pl_world.declared.outcome.Outcome.{Outcome}
use Rattle.pl_command.specs.pl_world.declared.session.Mode.{Mode}
use Rattle.pl_command.specs.pl_world.declared.session.Mode.TheVariants as mode
use Rattle.pl_command.specs.pl_world.declared.session.Reply.{Reply}

-- ---- behind an end

-- the session is in no block, and all is committed
module _ (db last : Database) (w : World) (u : Transaction) (e : Engine) (is : u.mode ≡ mode.Idle) (names : u.names.items ≡ []) where
  pub session_over : (over db last w).world ≡ world e → over db last w ≡ session_at u e
  session_over worlds = λ i. session (worlds i) (sym is i) (paired (sym names i) (kept e).marks)

  pub stands_over : last ≡ db → (over db last w).world ≡ world e → Stands u e
  stands_over same worlds = record {
    marks = sym (ap (λ (x : World). x.depth) worlds) ∙ ap (λ (ns : List (List ℕ)). length ns) (sym names);
    in_block = sym (ap (λ (x : World). x.in_block) worlds) ∙ ap is_block (sym is);
    nameless = λ idle. names;
    settled = λ idle. sym (ap (λ (x : World). x.last) worlds) ∙ same ∙ ap (λ (x : World). x.database) worlds;
  }

-- ---- outside of a block

pub no_depth : (t : Transaction) (e : Engine) → Stands t e → t.mode ≡ mode.Idle → (world e).depth ≡ 0
no_depth t e s idle = s.marks ∙ ap (λ (ns : List (List ℕ)). length ns) (s.nameless idle)

-- an error that is want of memory
pub wants : {A : Type 0} {stop : Stop} → stop ≡ Memory → (let r : Result A Stop = Err stop in IsErrOf r Memory)
wants {A} {stop} is = ap (λ (x : Stop). let r : Result A Stop = Err x in r) is

abbrev answers : Reply → Outcome → World → Ran Reply
answers answer o w = ends answer w

abbrev commits_then : Reply → Outcome → World → Ran Reply
commits_then answer o w = and_then (committed w) (answers answer)

module _ {P : Type 0} {port : Ghosts P} (law : Lawful port) (t : Transaction) (tag : Tag) (old : Engine) (answer : Answer) (p m : P) (s : Stands t old) (idle : t.mode ≡ mode.Idle) (fits : port.fits (world old).last p)
    (reply : answer.reply ≡ tagged tag) where
  abbrev w0 : World
  w0 = world old

  abbrev line : List ℕ
  line = warning_line NO_ACTIVE_SQL_TRANSACTION

  no_block : w0.in_block ≡ false
  no_block = s.in_block ∙ ap is_block idle

  forth : (over w0.database w0.database w0).world ≡ record w0 { last = w0.database }
  forth = λ i. record w0 { last = w0.database; depth = sym (no_depth t old s idle) i; in_block = sym no_block i }

  -- the warning, and then the commit
  as_two : as_ran (ends_none tag w0) ≡ and_then (printed line w0) (commits_then answer.reply)
  as_two = λ i. made (forth i) (sym reply i) (Said line ∷ Committed w0.database ∷ [])

  way : Partway port (as_ran (ends_none tag w0)) (and_then (printed line w0) (commits_then answer.reply)) old old p p
  way = becomes law (start law (as_ran (ends_none tag w0)) old p fits) as_two

  module _ (o : Outcome) (d : Done port (printed line (world old)) o old old p m) where
    pub none_ended : (x : Outcome) (new : Engine) (q : P) → Done port (committed (world old)) x old new m q → answer.lines ≡ lines_of answer.reply → Answered port (ends_none tag (world old)) answer t old new p q
    none_ended x new q c lines =
        let whole : Done port (as_ran (ends_none tag w0)) answer.reply old new p q = ended law (on law (answers answer.reply) (on law (commits_then answer.reply) way d) c) refl in
        let worlds : (over w0.database w0.database w0).world ≡ world new = ap (λ (r : Ran Reply). world_behind r) whole.gives in
        from_done (ends_none tag w0) answer t old new p q whole (session_over w0.database w0.database w0 t new idle (s.nameless idle) worlds) (stands_over w0.database w0.database w0 t new idle (s.nameless idle) refl worlds) lines

    -- the commit failed; for want of memory nothing of it was done
    pub none_cut : (stop : Stop) (q : P) → Stopped port (committed (world old)) stop old m q → (stop ≡ Memory → port.took (world old).last [] m q) → Halted port (ends_none tag (world old)) (told_of_end t.mode) stop old p q
    none_cut stop q c memory = subst (λ (k : Mode). Halted port (ends_none tag w0) (told_of_end k) stop old p q) (sym idle) (record {
      stopped = stopped law (on law (commits_then answer.reply) way d) (within law (answers answer.reply) c);
      early = λ is. stopped law (on law (λ (o : Outcome) (w : World). ends tt w) (start law (telling (warning NO_ACTIVE_SQL_TRANSACTION) w0) old p fits) d) (untaken (ends tt w0) old (memory is));
    })

  -- the warning isn't printed
  pub none_unwarned : (stop : Stop) → Stopped port (printed (warning_line NO_ACTIVE_SQL_TRANSACTION) (world old)) stop old p m → Halted port (ends_none tag (world old)) (told_of_end t.mode) stop old p m
  none_unwarned stop x = subst (λ (k : Mode). Halted port (ends_none tag w0) (told_of_end k) stop old p m) (sym idle) (record {
    stopped = stopped law way (within law (commits_then answer.reply) x);
    early = λ is. subst (λ (y : Stop). Stopped port (telling (warning NO_ACTIVE_SQL_TRANSACTION) w0) y old p m) is (same_events refl x);
  })

-- ---- a block's changes are committed

pub none_taken : (ds : List Database) → take 0 ds ≡ []
none_taken [] = refl
none_taken (d ∷ ds) = refl

-- all savepoints are gone
pub marks_gone : (old new : Engine) → kept new ≡ record (kept old) { marks = take 0 (kept old).marks } → kept new ≡ record (kept old) { marks = [] }
marks_gone old new is = is ∙ ap (λ (ds : List Database). record (kept old) { marks = ds }) (none_taken (kept old).marks)

pub no_marks : (e : Engine) → (world e).depth ≡ 0 → kept e ≡ record (kept e) { marks = [] }
no_marks e none = let is = nil_from_length (kept e).marks none in λ i. record (kept e) { marks = is i }

pub none_below : (e : Engine) (n : ℕ) → n ≡ (world e).depth → n ≤ 0 → (world e).depth ≡ 0
none_below e n is few = omega (arith, is, few)

pub no_depths : (e : Engine) → (world e).depth ≡ 0 → world e ≡ record (world e) { depth = 0 }
no_depths e none = λ i. record (world e) { depth = none i }

abbrev shut : World → World
shut w = record w { in_block = false }

abbrev then_shut : Reply → Outcome → World → Ran Reply
then_shut answer o w = ends answer (shut w)

module _ {P : Type 0} {port : Ghosts P} (law : Lawful port) (t : Transaction) (old mid : Engine) (p q : P) (is : t.mode ≡ mode.Block) (fits : port.fits (world old).last p) (released : world mid ≡ record (world old) { depth = 0 }) where
  abbrev wb : World
  wb = world old

  steps_same : (world mid).steps ≡ wb.steps
  steps_same = ap (λ (w : World). w.steps) released

  last_same : (world mid).last ≡ wb.last
  last_same = ap (λ (w : World). w.last) released

  as_commit : (answer : Reply) → answer ≡ tagged tags.Commit → as_ran (commits mode.Block (session_at t old)) ≡ and_then (committed (world mid)) (then_shut answer)
  as_commit answer reply = λ i. and_then (committed (sym released i)) (then_shut (sym reply i))

  on_way : (answer : Reply) → answer ≡ tagged tags.Commit → Partway port (as_ran (commits mode.Block (session_at t old))) (and_then (committed (world mid)) (then_shut answer)) old mid p p
  on_way answer reply = becomes law (quietly law (start law (as_ran (commits mode.Block (session_at t old))) old p fits) steps_same last_same) (as_commit answer reply)

  pub block_committed : (answer : Answer) (u : Transaction) (o : Outcome) (e new : Engine) → answer.reply ≡ tagged tags.Commit → answer.lines ≡ lines_of answer.reply → Done port (committed (world mid)) o mid e p q
      → world new ≡ record (world e) { in_block = false } → u.mode ≡ mode.Idle → u.names.items ≡ [] → Answered port (commits t.mode (session_at t old)) answer u old new p q
  block_committed answer u o e new reply lines c ends_so idle names =
      let d : Done port (as_ran (commits mode.Block (session_at t old))) answer.reply old new p q = acted law (on law (then_shut answer.reply) (on_way answer.reply reply) c)
      (sym ends_so, refl, refl, refl, ap (λ (w : World). w.steps) ends_so, ap (λ (w : World). w.last) ends_so) in
      let worlds : (over wb.database wb.database wb).world ≡ world new = ap (λ (r : Ran Reply). world_behind r) d.gives in
      subst (λ (k : Mode). Answered port (commits k (session_at t old)) answer u old new p q) (sym is)
      (from_done (commits mode.Block (session_at t old)) answer u old new p q d (session_over wb.database wb.database wb u new idle names worlds) (stands_over wb.database wb.database wb u new idle names refl worlds) lines)

  pub block_cut : (answer : Answer) (stop : Stop) → answer.reply ≡ tagged tags.Commit → Stopped port (committed (world mid)) stop mid p q → (stop ≡ Memory → port.took (world mid).last [] p q)
      → Halted port (commits t.mode (session_at t old)) (told_of_end t.mode) stop old p q
  block_cut answer stop reply c memory = subst (λ (k : Mode). Halted port (commits k (session_at t old)) (told_of_end k) stop old p q) (sym is) (record {
    stopped = stopped law (on_way answer.reply reply) (within law (then_shut answer.reply) c);
    early = λ same. untaken (telling [] wb) old (subst (λ (db : Database). port.took db [] p q) last_same (memory same));
  })

-- ---- a block's changes are undone

pub block_undone : (u : Transaction) (old e new : Engine) (answer : Answer) → answer.reply ≡ tagged tags.Rollback → answer.lines ≡ lines_of answer.reply → world e ≡ record (world old) { database = (world old).last; depth = 0 }
    → world new ≡ record (world e) { in_block = false } → u.mode ≡ mode.Idle → u.names.items ≡ [] → Quietly (undoes (world old)) answer u old new
block_undone u old e new answer reply lines reset ends_so idle names =
    let w = world old in
    let worlds : (over w.last w.last w).world ≡ world new = sym (ends_so ∙ ap (λ (x : World). record x { in_block = false }) reset) in
    record {
      quiet = (worlds, sym reply, refl, refl, sym (ap (λ (x : World). x.steps) worlds), sym (ap (λ (x : World). x.last) worlds));
      session = session_over w.last w.last w u new idle names worlds;
      stands = stands_over w.last w.last w u new idle names refl worlds;
      lines = lines;
    }

-- ---- ROLLBACK, by whether the session is in a block

pub idle_so : (m : Mode) → is_idle m ≡ true → m ≡ mode.Idle
idle_so mode.Idle is = refl
idle_so mode.Block is = absurd (cc)
idle_so mode.Failed is = absurd (cc)

pub rolls_by : (s : Session) (m : Mode) → is_idle m ≡ false → undoes s.world ≡ rolls_back m s
rolls_by s mode.Idle is = absurd (cc)
rolls_by s mode.Block is = refl
rolls_by s mode.Failed is = refl

pub rolls_told : (m : Mode) → is_idle m ≡ false → (let none : List Event = [] in none) ≡ told_of_end m
rolls_told mode.Idle is = absurd (cc)
rolls_told mode.Block is = refl
rolls_told mode.Failed is = refl
