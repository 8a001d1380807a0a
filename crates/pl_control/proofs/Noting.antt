-- Definitions, and the notices of those that leave all as it is.
use Rattle.std.proofs.Common.{◌≡◌, ◌∙◌, Bool, true, false, List, [], ◌∷◌, ℕ, Option, Some, None, Ok, Err, ap, append-nil, arith, cond, refl, subst, sym}
use Rattle.std.specs.Prelude.{codes}
use Rattle.pl_base.specs.declared.fail.Fail.{Fail}
use Rattle.pl_base.specs.declared.state.State.{State}
use Rattle.pl_codec.specs.Spelling.{is_define_text}
use Rattle.pl_control.specs.Noted.{Done as Ended, defined, no, notes, yes}
use Rattle.pl_engine.proofs.Joins.{Lawful, acted, start, told_quiet}
use Rattle.pl_engine.specs.Answers.{Done, Partway, Stopped}
use Rattle.pl_engine.specs.Changing.{Defined}
use Rattle.pl_engine.specs.Engines.{Quiet, world}
use Rattle.pl_engine.specs.declared.engine.Engine.{Engine}
use Rattle.pl_engine.specs.declared.port.Port.{Ghosts}
use Rattle.pl_engine.specs.declared.stop.Stop.{Stop}
use Rattle.pl_engine.specs.pl_journal.Definitions.{Behind}
use Rattle.pl_engine.specs.pl_journal.Definitions.{behind as leads}
use Rattle.pl_engine.specs.pl_world.Replies.{notice_line}
use Rattle.pl_print.specs.Messages.{condition_name, labelled, message_text, notice_bytes}
use Rattle.pl_print.specs.declared.reply.Level.TheVariants.{Notice}
use Rattle.pl_reading.specs.Defining.{stored_by}
use Rattle.pl_tree.specs.declared.command.Definition.{Definition}
use Rattle.pl_typing.specs.Resolved.{Resolved}
use Rattle.pl_undo.specs.Database.{Database}
use Rattle.pl_engine.specs.pl_world.Commands.{defines, defining, noticed, with_database}
use Rattle.pl_engine.specs.pl_world.Errors.{Spot, failure, resolves}
use Rattle.pl_engine.specs.pl_world.Laws.{events}
use Rattle.pl_engine.specs.pl_world.Raising.{printed}
use Rattle.pl_engine.specs.pl_world.World.{Began, Raised, Ran, Said, World, a_definition, behind, ends, made}
use Rattle.pl_engine.specs.pl_world.declared.outcome.Outcome.{Outcome}
use Rattle.pl_engine.specs.pl_world.declared.outcome.Outcome.TheVariants as outcome

-- ---- texts that can be stored

pub can_be_stored : (d : Definition) (source : List ℕ) → is_define_text source ≡ true → stored_by d source ≡ Some d
can_be_stored d source is = ap (λ (b : Bool). let o : Option Definition = cond b (Some d) None in o) is

pub cannot_be_stored : (d : Definition) (source : List ℕ) → is_define_text source ≡ false → stored_by d source ≡ None
cannot_be_stored d source is = ap (λ (b : Bool). let o : Option Definition = cond b (Some d) None in o) is

-- ---- what a definition does

-- the definition of this text, by what it leads to
abbrev by : {O : Type 0} → (Fail → O) → O → Spot → World → Resolved Behind → Ran O
by failed done at w r = behind (Began a_definition ∷ []) (resolves failed r at w (λ b. noticed b.notice done (with_database b.database w)))

defines_is : {O : Type 0} (failed : Fail → O) (done : O) (at : Spot) (d : Option Definition) (source : List ℕ) (w : World) → defines failed done at d source w ≡ by failed done at w (defining d source w.changing w.database)
unfolding defines
defines_is failed done at d source w = refl

led : (at : Spot) (w : World) (db : Database) (notice : Option State) → by no yes at w (Ok (leads db notice)) ≡ behind (Began a_definition ∷ []) (noticed notice yes (with_database db w))
unfolding resolves
led at w db notice = refl

was_refused : (at : Spot) (w : World) (state : State) → by no yes at w (Err state) ≡ made w (no (failure state at w)) (Began a_definition ∷ Raised (failure state at w) ∷ [])
unfolding resolves
was_refused at w state = refl

abbrev wanted : Option Definition → List ℕ → World → Resolved Behind
wanted d source w = defining d source w.changing w.database

module _ {P : Type 0} {port : Ghosts P} (law : Lawful port) (at : Spot) (d : Option Definition) (source : List ℕ) {old new : Engine} {p : P} (fits : port.fits (world old).last p) where
  -- it is carried out, and its notice is left
  pub carried : (notice : Option State) → Defined (wanted d source (world old)) (Ok notice) (world old) (world new) → Partway port (defined at d source (world old)) (noticed notice yes (world new)) old new p p
  carried notice (db, is, done) = record {
    events = Began a_definition ∷ [];
    goes_on = defines_is no yes at d source (world old) ∙ (ap (λ (r : Resolved Behind). by no yes at (world old) r) is
        ∙ (led at (world old) db notice ∙ ap (λ (w : World). behind (Began a_definition ∷ []) (noticed notice yes w)) (sym done)));
    told = told_quiet law (Began a_definition ∷ []) old new p fits refl (ap (λ (w : World). w.last) done) (let same = ap (λ (w : World). w.steps) done in omega (arith, same));
  }

  -- it is refused
  pub refused : (state : State) (f : Fail) → wanted d source (world old) ≡ Err state → world new ≡ world old → f ≡ failure state at (world new) → Done port (defined at d source (world old)) (no f) old new p p
  refused state f is same arises =
      acted law (start law (defined at d source (world old)) old p fits)
      (subst (λ (ran : Ran Ended). Quiet ran (no f) old new) (sym (defines_is no yes at d source (world old) ∙ (ap (λ (r : Resolved Behind). by no yes at (world old) r) is ∙ was_refused at (world old) state)))
      (sym same, ap (λ (w : World). no (failure state at w)) (sym same) ∙ ap no (sym arises), refl, refl, ap (λ (w : World). w.steps) same, ap (λ (w : World). w.last) same))

-- ---- as an outcome

abbrev pub as_outcome : Ended → Outcome
as_outcome (Ok u) = outcome.Next
as_outcome (Err f) = outcome.Fail f

abbrev ended_as : Ran Ended → Ran Outcome
ended_as (made w o es) = made w (as_outcome o) es

noticed_as : (notice : Option State) (w : World) → behind (Began a_definition ∷ []) (noticed notice outcome.Next w) ≡ ended_as (behind (Began a_definition ∷ []) (noticed notice yes w))
noticed_as None w = refl
noticed_as (Some state) w = refl

by_as : (at : Spot) (w : World) (r : Resolved Behind) → by outcome.Fail outcome.Next at w r ≡ ended_as (by no yes at w r)
unfolding resolves
by_as at w (Ok b) = noticed_as b.notice (with_database b.database w)
by_as at w (Err state) = refl

defines_as : (at : Spot) (d : Option Definition) (source : List ℕ) (w : World) → defines outcome.Fail outcome.Next at d source w ≡ ended_as (defined at d source w)
defines_as at d source w =
    defines_is outcome.Fail outcome.Next at d source w
    ∙ (by_as at w (defining d source w.changing w.database) ∙ ap (λ (r : Ran Ended). ended_as r) (sym (defines_is no yes at d source w)))

events_as : (ran : Ran Ended) → events (ended_as ran) ≡ events ran
events_as (made w o es) = refl

module _ {P : Type 0} {port : Ghosts P} (at : Spot) (d : Option Definition) (source : List ℕ) {old : Engine} {p q : P} where
  pub defined_done : {new : Engine} (o : Ended) (end : Outcome) → as_outcome o ≡ end → Done port (defined at d source (world old)) o old new p q → Done port (defines outcome.Fail outcome.Next at d source (world old)) end old new p q
  defined_done {new} o end is done = record {
    events = done.events;
    gives = defines_as at d source (world old) ∙ (ap (λ (ran : Ran Ended). ended_as ran) done.gives ∙ ap (λ (o : Outcome). made (world new) o done.events) is);
    told = done.told;
  }

  pub defined_stopped : {stop : Stop} → Stopped port (defined at d source (world old)) stop old p q → Stopped port (defines outcome.Fail outcome.Next at d source (world old)) stop old p q
  defined_stopped s = record {
    front = s.front;
    rest = s.rest;
    are = ap (λ (ran : Ran Outcome). events ran) (defines_as at d source (world old)) ∙ (events_as (defined at d source (world old)) ∙ s.are);
    cut = s.cut;
  }

-- ---- notices

-- the line of a notice, as it is put together
pub line_is : (state : State) (at : Spot) (w : World) (f : Fail) (text : List ℕ) → f ≡ failure state at w → text ≡ message_text f.state.code f.message → notice_bytes Notice text None None ≡ notice_line state
line_is state at w f text arises is =
    ap (λ (text : List ℕ). notice_bytes Notice text None None) (is ∙ ap (λ (f : Fail). message_text f.state.code f.message) arises)
    ∙ append-nil (labelled (codes "NOTICE") (condition_name state.code))

abbrev as_ended : Ran Outcome → Ran Ended
as_ended (made w o es) = made w yes es

events_ended : (ran : Ran Outcome) → events (as_ended ran) ≡ events ran
events_ended (made w o es) = refl

pub none_noted : (notice : Option State) (w : World) → notice ≡ None → notes notice w ≡ ends yes w
none_noted notice w is = ap (λ (n : Option State). notes n w) is

noted_as : (notice : Option State) (state : State) (line : List ℕ) (w : World) → notice ≡ Some state → line ≡ notice_line state → as_ended (printed line w) ≡ notes notice w
noted_as notice state line w some is = ap (λ (xs : List ℕ). made w yes (Said xs ∷ [])) is ∙ ap (λ (n : Option State). notes n w) (sym some)

module _ {P : Type 0} {port : Ghosts P} (notice : Option State) (state : State) (line : List ℕ) (some : notice ≡ Some state) (is : line ≡ notice_line state) (e : Engine) {p q : P} where
  pub noted : (o : Outcome) → Done port (printed line (world e)) o e e p q → Done port (notes notice (world e)) yes e e p q
  noted o d = record {
    events = d.events;
    gives = sym (noted_as notice state line (world e) some is) ∙ ap (λ (ran : Ran Outcome). as_ended ran) d.gives;
    told = d.told;
  }

  pub not_noted : (stop : Stop) → Stopped port (printed line (world e)) stop e p q → Stopped port (notes notice (world e)) stop e p q
  not_noted stop s = record {
    front = s.front;
    rest = s.rest;
    are = ap (λ (ran : Ran Ended). events ran) (sym (noted_as notice state line (world e) some is)) ∙ (events_ended (printed line (world e)) ∙ s.are);
    cut = s.cut;
  }
