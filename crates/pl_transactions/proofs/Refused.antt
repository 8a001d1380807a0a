-- Refusals, and blocks that begin.
use Rattle.std.proofs.Common.{◌≡◌, ◌∙◌, ℕ, List, true, ap, length, refl, subst, sym}
use Rattle.pl_base.specs.States.{ACTIVE_SQL_TRANSACTION}
use Rattle.pl_base.specs.declared.state.State.{State}
use Rattle.pl_command.specs.Lines.{lines_of}
use Rattle.pl_command.specs.declared.answers.Answer.{Answer}
use Rattle.pl_command.specs.pl_engine.Answers.{Done, Stopped}
use Rattle.pl_command.specs.pl_engine.Engines.{Kept, kept, world}
use Rattle.pl_command.specs.pl_engine.declared.engine.Engine.{Engine}
use Rattle.pl_command.specs.pl_engine.declared.port.Port.{Ghosts}
use Rattle.pl_command.specs.pl_engine.declared.stop.Stop.{Stop}
use Rattle.pl_print.specs.declared.reply.Tag.{Tag}
use Rattle.pl_transactions.proofs.Quiet.{halted_within}
use Rattle.pl_transactions.specs.Before.{told_of_begin}
use Rattle.pl_transactions.specs.Goes.{Answered, Halted, Quietly}
use Rattle.pl_transactions.specs.State.{Stands, is_block, paired, session_at}
use Rattle.pl_transactions.specs.Warnings.{warning_line}
use Rattle.pl_transactions.specs.declared.transaction.Transaction.{Transaction}
use Rattle.pl_command.specs.pl_world.Errors.{failure}
use Rattle.pl_command.specs.pl_world.Laws.{events}
use Rattle.pl_command.specs.pl_world.Raising.{printed}
use Rattle.pl_command.specs.pl_world.Sessions.{after_error, begins, failed, refused, session, tagged, top, went}
use Rattle.pl_command.specs.pl_world.World.{Ran, World}
use Rattle.pl_command.specs.pl_world.declared.outcome.Outcome.{Outcome}
use Rattle.pl_command.specs.pl_world.declared.session.Mode.{Mode}
use Rattle.pl_command.specs.pl_world.declared.session.Mode.TheVariants as mode

-- ---- modes

pub not_idle : (m : Mode) → is_block m ≡ true → m ≡ mode.Idle → ⊥
not_idle m block idle = let is : is_block mode.Idle ≡ true = ap is_block (sym idle) ∙ block in cc

still_block : (m : Mode) → is_block m ≡ is_block (after_error m)
still_block mode.Idle = refl
still_block mode.Block = refl
still_block mode.Failed = refl

idle_before : (m : Mode) → after_error m ≡ mode.Idle → m ≡ mode.Idle
idle_before mode.Idle is = refl
idle_before mode.Block is = absurd (not_idle mode.Failed refl is)
idle_before mode.Failed is = absurd (not_idle mode.Failed refl is)

-- ---- refusals

pub refusing : (t u : Transaction) (e : Engine) (state : State) (answer : Answer) → Stands t e → answer.reply ≡ failed (failure state top (world e)) → answer.lines ≡ lines_of answer.reply → u.mode ≡ after_error t.mode → u.names.items ≡ t.names.items
    → Quietly (refused state (session_at t e)) answer u e e
refusing t u e state answer s reply lines is_mode is_names =
    let names : t.names.items ≡ u.names.items = sym is_names in
    record {
      quiet = (refl, sym reply, refl, refl, refl, refl);
      session = λ i. session (world e) (sym is_mode i) (paired (names i) (kept e).marks);
      stands = record {
        marks = s.marks ∙ ap (λ (ns : List (List ℕ)). length ns) names;
        in_block = s.in_block ∙ still_block t.mode ∙ ap is_block (sym is_mode);
        nameless = λ idle. sym names ∙ s.nameless (idle_before t.mode (sym is_mode ∙ idle));
        settled = λ idle. s.settled (idle_before t.mode (sym is_mode ∙ idle));
      };
      lines = lines;
    }

-- ---- a block begins

pub opened : (t : Transaction) (tag : Tag) (old new : Engine) (answer : Answer) → Stands t old → t.mode ≡ mode.Idle → answer.reply ≡ tagged tag → answer.lines ≡ lines_of answer.reply → world new ≡ record (world old) { in_block = true }
    → kept new ≡ record (kept old) { in_block = true } → Quietly (begins tag t.mode (session_at t old)) answer (record t { mode = mode.Block }) old new
opened t tag old new answer s is reply lines worlds keeps =
    let u : Transaction = record t { mode = mode.Block } in
    subst (λ (m : Mode). Quietly (begins tag m (session_at t old)) answer u old new) (sym is) (record {
      quiet = (sym worlds, sym reply, refl, refl, ap (λ (w : World). w.steps) worlds, ap (λ (w : World). w.last) worlds);
      session = let none = s.nameless is in λ i. session (sym worlds i) mode.Block (paired (sym none i) (kept new).marks);
      stands = record {
        marks = ap (λ (k : Kept). length k.marks) keeps ∙ s.marks;
        in_block = ap (λ (w : World). w.in_block) worlds;
        nameless = λ idle. absurd (not_idle mode.Block refl idle);
        settled = λ idle. absurd (not_idle mode.Block refl idle);
      };
      lines = lines;
    })

-- in a block it warns
module _ {P : Type 0} {port : Ghosts P} (t : Transaction) (tag : Tag) (e : Engine) (p q : P) (is : t.mode ≡ mode.Block) where
  pub warned : (o : Outcome) (answer : Answer) → Stands t e → answer.reply ≡ tagged tag → answer.lines ≡ lines_of answer.reply → Done port (printed (warning_line ACTIVE_SQL_TRANSACTION) (world e)) o e e p q
      → Answered port (begins tag t.mode (session_at t e)) answer t e e p q
  warned o answer s reply lines d = subst (λ (m : Mode). Answered port (begins tag m (session_at t e)) answer t e e p q) (sym is) (record {
    events = d.events;
    gives = let all = ap (λ (r : Ran Outcome). events r) d.gives in λ i. went (session_at t e) (sym reply i) (all i);
    took = d.told.took;
    last = d.told.last;
    fits = d.told.fits;
    stands = s;
    lines = lines;
  })

  pub unwarned : (stop : Stop) → Stopped port (printed (warning_line ACTIVE_SQL_TRANSACTION) (world e)) stop e p q → Halted port (begins tag t.mode (session_at t e)) (told_of_begin t.mode) stop e p q
  unwarned stop x = subst (λ (m : Mode). Halted port (begins tag m (session_at t e)) (told_of_begin m) stop e p q) (sym is)
      (halted_within (begins tag mode.Block (session_at t e)) (told_of_begin mode.Block) (printed (warning_line ACTIVE_SQL_TRANSACTION) (world e)) stop e p q refl refl x)
