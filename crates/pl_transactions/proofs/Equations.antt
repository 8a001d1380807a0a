-- What each command does, by its own equation.
use Rattle.std.proofs.Common.{◌≡◌, ◌∙◌, ℕ, List, [], Result, ap, refl, sym}
use Rattle.pl_command.specs.declared.answers.Answer.{Answer}
use Rattle.pl_command.proofs.of_pl_engine.Joins.{Lawful}
use Rattle.pl_command.specs.pl_engine.Engines.{world}
use Rattle.pl_command.specs.pl_engine.declared.engine.Engine.{Engine}
use Rattle.pl_command.specs.pl_engine.declared.port.Port.{Ghosts}
use Rattle.pl_command.specs.pl_engine.declared.stop.Stop.{Stop}
use Rattle.pl_print.specs.declared.reply.Tag.TheVariants as tag
use Rattle.pl_transactions.proofs.Quiet.{goes_as, goes_quietly}
use Rattle.pl_transactions.specs.Before.{told, told_of_begin, told_of_end, told_of_plain}
use Rattle.pl_transactions.specs.Goes.{Goes, GoesQuietly}
use Rattle.pl_transactions.specs.State.{session_at}
use Rattle.pl_transactions.specs.declared.transaction.Transaction.{Transaction}
use Rattle.pl_tree.specs.declared.command.Command.{Command}
use Rattle.pl_tree.specs.declared.command.Command.TheVariants as command
use Rattle.pl_command.specs.pl_world.Running.{Bodies}
use Rattle.pl_command.specs.pl_world.Sessions.{Session, Went, begins, commits, does_command, does_plain, goes_back, releases, rolls_back, saves}
use Rattle.pl_command.specs.pl_world.World.{Event}

abbrev Is : Bodies → ℕ → Command → Session → Went → List Event → Type 0
Is b n c s w es = (does_command b n c s ≡ w) × (told b n c s ≡ es)

module _ (b : Bodies) (n : ℕ) (s : Session) where
  begin_is : Is b n command.Begin s (begins tag.Begin s.mode s) (told_of_begin s.mode)
  unfolding does_command told
  begin_is = (refl, refl)

  start_is : Is b n command.StartTransaction s (begins tag.StartTransaction s.mode s) (told_of_begin s.mode)
  unfolding does_command told
  start_is = (refl, refl)

  commit_is : Is b n command.Commit s (commits s.mode s) (told_of_end s.mode)
  unfolding does_command told
  commit_is = (refl, refl)

  roll_back_is : Is b n command.Rollback s (rolls_back s.mode s) (told_of_end s.mode)
  unfolding does_command told
  roll_back_is = (refl, refl)

  save_is : (name : List ℕ) → Is b n (command.Savepoint name) s (saves name s.mode s) []
  unfolding does_command told
  save_is name = (refl, refl)

  release_is : (name : List ℕ) → Is b n (command.Release name) s (releases name s.mode s) []
  unfolding does_command told
  release_is name = (refl, refl)

  back_is : (name : List ℕ) → Is b n (command.RollbackTo name) s (goes_back name s.mode s) []
  unfolding does_command told
  back_is name = (refl, refl)

  plain_is : (c : Command) → (c ≡ command.Begin → ⊥) → (c ≡ command.StartTransaction → ⊥) → (c ≡ command.Commit → ⊥) → (c ≡ command.Rollback → ⊥) → ((name : List ℕ) → c ≡ command.Savepoint name → ⊥) → ((name : List ℕ) → c ≡ command.Release name → ⊥)
      → ((name : List ℕ) → c ≡ command.RollbackTo name → ⊥) → Is b n c s (does_plain b n c s.mode s) (told_of_plain b n c s.mode s)
  unfolding does_command told
  plain_is command.Begin h1 h2 h3 h4 h5 h6 h7 = absurd (h1 refl)
  plain_is command.StartTransaction h1 h2 h3 h4 h5 h6 h7 = absurd (h2 refl)
  plain_is command.Commit h1 h2 h3 h4 h5 h6 h7 = absurd (h3 refl)
  plain_is command.Rollback h1 h2 h3 h4 h5 h6 h7 = absurd (h4 refl)
  plain_is (command.Savepoint name) h1 h2 h3 h4 h5 h6 h7 = absurd (h5 name refl)
  plain_is (command.Release name) h1 h2 h3 h4 h5 h6 h7 = absurd (h6 name refl)
  plain_is (command.RollbackTo name) h1 h2 h3 h4 h5 h6 h7 = absurd (h7 name refl)
  plain_is (command.Define d source) h1 h2 h3 h4 h5 h6 h7 = (refl, refl)
  plain_is (command.Query q) h1 h2 h3 h4 h5 h6 h7 = (refl, refl)
  plain_is (command.Insert i) h1 h2 h3 h4 h5 h6 h7 = (refl, refl)
  plain_is (command.Update u) h1 h2 h3 h4 h5 h6 h7 = (refl, refl)
  plain_is (command.Delete d) h1 h2 h3 h4 h5 h6 h7 = (refl, refl)
  plain_is (command.Do language body) h1 h2 h3 h4 h5 h6 h7 = (refl, refl)
  plain_is (command.Call name arguments) h1 h2 h3 h4 h5 h6 h7 = (refl, refl)

module _ {P : Type 0} (port : Ghosts P) (b : Bodies) (n : ℕ) (c : Command) (t u : Transaction) (old new : Engine) (p q : P) (r : Result Answer Stop) where
  abbrev s : Session
  s = session_at t old

  by_is : (w : Went) (es : List Event) → Is b n c s w es → Goes port w es r u old new p q → Goes port (does_command b n c s) (told b n c s) r u old new p q
  by_is w es is goes = goes_as port w (does_command b n c s) es (told b n c s) r u old new p q (sym is.0) (sym is.1) goes

  turned : (d : Command) (w : Went) (es : List Event) → c ≡ d → Is b n d s w es → Is b n c s w es
  turned d w es same is = (ap (λ (x : Command). does_command b n x s) same ∙ is.0, ap (λ (x : Command). told b n x s) same ∙ is.1)

  pub as_begin : c ≡ command.Begin → Goes port (begins tag.Begin t.mode (session_at t old)) (told_of_begin t.mode) r u old new p q → Goes port (does_command b n c (session_at t old)) (told b n c (session_at t old)) r u old new p q
  as_begin is goes = by_is (begins tag.Begin t.mode s) (told_of_begin t.mode) (turned command.Begin (begins tag.Begin t.mode s) (told_of_begin t.mode) is (begin_is b n s)) goes

  pub as_start : c ≡ command.StartTransaction → Goes port (begins tag.StartTransaction t.mode (session_at t old)) (told_of_begin t.mode) r u old new p q
      → Goes port (does_command b n c (session_at t old)) (told b n c (session_at t old)) r u old new p q
  as_start is goes = by_is (begins tag.StartTransaction t.mode s) (told_of_begin t.mode) (turned command.StartTransaction (begins tag.StartTransaction t.mode s) (told_of_begin t.mode) is (start_is b n s)) goes

  pub as_commit : c ≡ command.Commit → Goes port (commits t.mode (session_at t old)) (told_of_end t.mode) r u old new p q → Goes port (does_command b n c (session_at t old)) (told b n c (session_at t old)) r u old new p q
  as_commit is goes = by_is (commits t.mode s) (told_of_end t.mode) (turned command.Commit (commits t.mode s) (told_of_end t.mode) is (commit_is b n s)) goes

  pub as_roll_back : c ≡ command.Rollback → Goes port (rolls_back t.mode (session_at t old)) (told_of_end t.mode) r u old new p q → Goes port (does_command b n c (session_at t old)) (told b n c (session_at t old)) r u old new p q
  as_roll_back is goes = by_is (rolls_back t.mode s) (told_of_end t.mode) (turned command.Rollback (rolls_back t.mode s) (told_of_end t.mode) is (roll_back_is b n s)) goes

  pub as_plain : (c ≡ command.Begin → ⊥) → (c ≡ command.StartTransaction → ⊥) → (c ≡ command.Commit → ⊥) → (c ≡ command.Rollback → ⊥) → ((name : List ℕ) → c ≡ command.Savepoint name → ⊥) → ((name : List ℕ) → c ≡ command.Release name → ⊥)
      → ((name : List ℕ) → c ≡ command.RollbackTo name → ⊥) → Goes port (does_plain b n c t.mode (session_at t old)) (told_of_plain b n c t.mode (session_at t old)) r u old new p q
      → Goes port (does_command b n c (session_at t old)) (told b n c (session_at t old)) r u old new p q
  as_plain h1 h2 h3 h4 h5 h6 h7 goes = by_is (does_plain b n c t.mode s) (told_of_plain b n c t.mode s) (plain_is b n s c h1 h2 h3 h4 h5 h6 h7) goes

module _ {P : Type 0} {port : Ghosts P} (law : Lawful port) (b : Bodies) (n : ℕ) (c : Command) (name : List ℕ) (t u : Transaction) (old new : Engine) (p : P) (r : Result Answer Stop) (fits : port.fits (world old).last p) where
  quiet_is : (w : Went) (d : Command) → c ≡ d → Is b n d (session_at t old) w [] → GoesQuietly w r u old new → Goes port (does_command b n c (session_at t old)) (told b n c (session_at t old)) r u old new p p
  quiet_is w d same is goes =
      by_is port b n c t u old new p p r w [] (turned port b n c t u old new p p r d w [] same is) (goes_quietly law w [] r u old new p fits goes)

  pub as_save : c ≡ command.Savepoint name → GoesQuietly (saves name t.mode (session_at t old)) r u old new → Goes port (does_command b n c (session_at t old)) (told b n c (session_at t old)) r u old new p p
  as_save is goes = quiet_is (saves name t.mode (session_at t old)) (command.Savepoint name) is (save_is b n (session_at t old) name) goes

  pub as_release : c ≡ command.Release name → GoesQuietly (releases name t.mode (session_at t old)) r u old new → Goes port (does_command b n c (session_at t old)) (told b n c (session_at t old)) r u old new p p
  as_release is goes = quiet_is (releases name t.mode (session_at t old)) (command.Release name) is (release_is b n (session_at t old) name) goes

  pub as_back : c ≡ command.RollbackTo name → GoesQuietly (goes_back name t.mode (session_at t old)) r u old new → Goes port (does_command b n c (session_at t old)) (told b n c (session_at t old)) r u old new p p
  as_back is goes = quiet_is (goes_back name t.mode (session_at t old)) (command.RollbackTo name) is (back_is b n (session_at t old) name) goes
