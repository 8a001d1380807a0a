-- Savepoints that are made, released and gone back to.
use Rattle.std.proofs.Common.{◌≡◌, ◌<◌, ◌≤◌, ◌+◌, ◌∙◌, ℕ, suc, List, [], ◌∷◌, ◌++◌, true, Option, Some, ap, arith, get_or, length, length-append, refl, slice_get, subst, sym, take}
use Rattle.std.proofs.lemmas.List.{length-take-le}
use Rattle.pl_command.specs.Lines.{lines_of}
use Rattle.pl_command.specs.declared.answers.Answer.{Answer}
use Rattle.pl_command.specs.pl_engine.Database.{Database}
use Rattle.pl_command.specs.pl_engine.Engines.{Kept, kept, world}
use Rattle.pl_command.specs.pl_engine.Handling.{returned_to, with_mark, with_marks}
use Rattle.pl_command.specs.pl_engine.declared.engine.Engine.{Engine}
use Rattle.pl_print.specs.declared.reply.Tag.TheVariants as tag
use Rattle.pl_transactions.proofs.Pairs.{paired_back, paired_length, paired_more, paired_place, paired_take}
use Rattle.pl_transactions.proofs.Refused.{not_idle}
use Rattle.pl_transactions.specs.Goes.{Quietly}
use Rattle.pl_transactions.specs.Places.{place_in}
use Rattle.pl_transactions.specs.State.{Stands, is_block, paired, session_at}
use Rattle.pl_transactions.specs.declared.transaction.Transaction.{Transaction}
use Rattle.pl_command.specs.pl_world.Blocks.{deeper}
use Rattle.pl_command.specs.pl_world.Sessions.{Save, back_at, goes_back, place_of, put_back, released_at, releases, saved, saves, session, tagged}
use Rattle.pl_command.specs.pl_world.World.{World}
use Rattle.pl_command.specs.pl_world.declared.session.Mode.{Mode}
use Rattle.pl_command.specs.pl_world.declared.session.Mode.TheVariants as mode

-- the saves of a session
abbrev saves_at : Transaction → Engine → List Save
saves_at t e = paired t.names.items (kept e).marks

-- each place has its mark
pub live_at : (t : Transaction) (e : Engine) (at : ℕ) → Stands t e → at < length t.names.items → at < (world e).depth
live_at t e at s within = let many = s.marks in omega (arith, within, many)

-- ---- a savepoint is made

pub saved_so : (t u : Transaction) (name : List ℕ) (old new : Engine) (answer : Answer) → Stands t old → t.mode ≡ mode.Block → answer.reply ≡ tagged tag.Savepoint → answer.lines ≡ lines_of answer.reply → u.mode ≡ t.mode
    → u.names.items ≡ t.names.items ++ name ∷ [] → world new ≡ deeper (world old) → kept new ≡ with_mark (world old).database (kept old) → Quietly (saves name t.mode (session_at t old)) answer u old new
saved_so t u name old new answer s is reply lines same names worlds keeps =
    let w = world old in
    let db = (world old).database in
    let marks : (kept new).marks ≡ (kept old).marks ++ db ∷ [] = ap (λ (k : Kept). k.marks) keeps in
    let more : saves_at t old ++ saved name w ∷ [] ≡ saves_at u new =
    paired_more t.names.items (kept old).marks name db s.marks ∙ (λ i. paired (sym names i) (sym marks i)) in
    let long : length (saves_at t old ++ saved name w ∷ []) ≡ suc w.depth =
    length-append (saves_at t old) (saved name w ∷ []) ∙ plus_one (length (saves_at t old)) ∙ ap (λ (n : ℕ). suc n) (paired_length t.names.items (kept old).marks s.marks) in
    let there : record w { depth = length (saves_at t old ++ saved name w ∷ []) } ≡ world new = (λ i. record w { depth = long i }) ∙ sym worlds in
    subst (λ (m : Mode). Quietly (saves name m (session_at t old)) answer u old new) (sym is) (record {
      quiet = (there, sym reply, refl, refl, ap (λ (x : World). x.steps) worlds, ap (λ (x : World). x.last) worlds);
      session = λ i. session (there i) (sym (same ∙ is) i) (more i);
      stands = record {
        marks = ap (λ (ds : List Database). length ds) marks ∙ length-append (kept old).marks (db ∷ []) ∙ ap (λ (n : ℕ). n + 1) s.marks
            ∙ sym (length-append t.names.items (name ∷ [])) ∙ ap (λ (ns : List (List ℕ)). length ns) (sym names);
        in_block = ap (λ (x : World). x.in_block) worlds ∙ s.in_block ∙ ap is_block (sym same);
        nameless = λ idle. absurd (not_idle u.mode (ap is_block (same ∙ is)) idle);
        settled = λ idle. absurd (not_idle u.mode (ap is_block (same ∙ is)) idle);
      };
      lines = lines;
    })
  where
    plus_one : (n : ℕ) → n + 1 ≡ suc n
    plus_one n = omega arith

-- ---- savepoints that are the first so many

short : (n m : ℕ) (ns : List (List ℕ)) (ds : List Database) → length ds ≡ length ns → n ≤ length ns → length (take n ds) ≡ length (take n ns)
short n m ns ds same le = length-take-le n ds (omega (arith, same, le)) ∙ sym (length-take-le n ns le)

pub released_so : (t u : Transaction) (at : ℕ) (old new : Engine) (answer : Answer) → Stands t old → t.mode ≡ mode.Block → at < length t.names.items → answer.reply ≡ tagged tag.Release → answer.lines ≡ lines_of answer.reply → u.mode ≡ t.mode
    → u.names.items ≡ take at t.names.items → world new ≡ record (world old) { depth = at } → kept new ≡ with_marks at (kept old) → Quietly (released_at (Some at) (session_at t old)) answer u old new
released_so t u at old new answer s is within reply lines same names worlds keeps =
    let w = world old in
    let marks : (kept new).marks ≡ take at (kept old).marks = ap (λ (k : Kept). k.marks) keeps in
    let long : length (take at (saves_at t old)) ≡ at =
    length-take-le at (saves_at t old) (let same = paired_length t.names.items (kept old).marks s.marks in let all = s.marks in omega (arith, same, all, within)) in
    let there : record w { depth = length (take at (saves_at t old)) } ≡ world new = (λ i. record w { depth = long i }) ∙ sym worlds in
    let fewer : take at (saves_at t old) ≡ saves_at u new = paired_take at t.names.items (kept old).marks ∙ (λ i. paired (sym names i) (sym marks i)) in
    record {
      quiet = (there, sym reply, refl, refl, ap (λ (x : World). x.steps) worlds, ap (λ (x : World). x.last) worlds);
      session = λ i. session (there i) (sym (same ∙ is) i) (fewer i);
      stands = record {
        marks = ap (λ (ds : List Database). length ds) marks ∙ short at at t.names.items (kept old).marks s.marks (omega (arith, within)) ∙ ap (λ (ns : List (List ℕ)). length ns) (sym names);
        in_block = ap (λ (x : World). x.in_block) worlds ∙ s.in_block ∙ ap is_block (sym same);
        nameless = λ idle. absurd (not_idle u.mode (ap is_block (same ∙ is)) idle);
        settled = λ idle. absurd (not_idle u.mode (ap is_block (same ∙ is)) idle);
      };
      lines = lines;
    }

pub returned_so : (t u : Transaction) (at : ℕ) (old new : Engine) (answer : Answer) → Stands t old → is_block t.mode ≡ true → at < length t.names.items → answer.reply ≡ tagged tag.Rollback → answer.lines ≡ lines_of answer.reply → u.mode ≡ mode.Block
    → u.names.items ≡ take (at + 1) t.names.items → world new ≡ returned_to at old → kept new ≡ with_marks (at + 1) (kept old) → Quietly (back_at (Some at) (session_at t old)) answer u old new
returned_so t u at old new answer s is within reply lines is_mode names worlds keeps =
    let w = world old in
    let one : at + 1 ≡ suc at = omega arith in
    let all = saves_at t old in
    let marks : (kept new).marks ≡ take (suc at) (kept old).marks = ap (λ (k : Kept). k.marks) keeps ∙ ap (λ (n : ℕ). take n (kept old).marks) one in
    let long : length (take (suc at) all) ≡ at + 1 =
    length-take-le (suc at) all (let same = paired_length t.names.items (kept old).marks s.marks in let many = s.marks in omega (arith, same, many, within)) ∙ sym one in
    let back : put_back (slice_get all at) w ≡ record w { database = get_or (kept old).marks at w.database } = paired_back at t.names.items (kept old).marks w s.marks in
    let there : record (put_back (slice_get all at) w) { depth = length (take (suc at) all) } ≡ world new = (λ i. record (back i) { depth = long i }) ∙ sym worlds in
    let fewer : take (suc at) all ≡ saves_at u new =
    paired_take (suc at) t.names.items (kept old).marks ∙ (λ i. paired (sym (names ∙ ap (λ (n : ℕ). take n t.names.items) one) i) (sym marks i)) in
    record {
      quiet = (there, sym reply, refl, refl, ap (λ (x : World). x.steps) worlds, ap (λ (x : World). x.last) worlds);
      session = λ i. session (there i) (sym is_mode i) (fewer i);
      stands = record {
        marks = ap (λ (ds : List Database). length ds) marks ∙ short (suc at) at t.names.items (kept old).marks s.marks (omega (arith, within))
            ∙ ap (λ (ns : List (List ℕ)). length ns) (sym (names ∙ ap (λ (n : ℕ). take n t.names.items) one));
        in_block = ap (λ (x : World). x.in_block) worlds ∙ s.in_block ∙ is ∙ ap is_block (sym is_mode);
        nameless = λ idle. absurd (not_idle u.mode (ap is_block is_mode) idle);
        settled = λ idle. absurd (not_idle u.mode (ap is_block is_mode) idle);
      };
      lines = lines;
    }

-- ---- by their names

module _ (t : Transaction) (name : List ℕ) (old : Engine) (s : Stands t old) (found : Option ℕ) (place : found ≡ place_in name t.names.items) where
  there_is : place_of name (saves_at t old) ≡ found
  there_is = paired_place name t.names.items (kept old).marks s.marks ∙ sym place

  pub released_by : t.mode ≡ mode.Block → released_at found (session_at t old) ≡ releases name t.mode (session_at t old)
  released_by is = ap (λ (o : Option ℕ). released_at o (session_at t old)) (sym there_is) ∙ ap (λ (m : Mode). releases name m (session_at t old)) (sym is)

  pub back_by : is_block t.mode ≡ true → back_at found (session_at t old) ≡ goes_back name t.mode (session_at t old)
  back_by is = ap (λ (o : Option ℕ). back_at o (session_at t old)) (sym there_is) ∙ by_mode t.mode is
    where
      by_mode : (m : Mode) → is_block m ≡ true → back_at (place_of name (saves_at t old)) (session_at t old) ≡ goes_back name m (session_at t old)
      by_mode mode.Idle block = absurd (not_idle mode.Idle block refl)
      by_mode mode.Block block = refl
      by_mode mode.Failed block = refl
