-- Rows that are written, over what is kept of a state.
use Rattle.std.proofs.Common.{◌≡◌, ◌++◌, ◌∙◌, ℕ, Bool, true, false, List, [], ◌∷◌, Option, Some, None, Result, Ok, Err, ap, if◌then◌else◌, map, refl, subst, sym}
use Rattle.std.specs.Prelude.{IsSome}
use Rattle.pl_altering.specs.Settings.{ReadsOver}
use Rattle.pl_altering.specs.declared.command.Command.{Command}
use Rattle.pl_base.specs.States.{TRIGGERED_DATA_CHANGE_VIOLATION}
use Rattle.pl_base.specs.declared.state.State.{State}
use Rattle.pl_querying.specs.pl_calling.Standing.{Standing, keep}
use Rattle.pl_querying.specs.pl_calling.Writing.{WroteIn, in_world, without_row_in}
use Rattle.pl_querying.specs.pl_engine.Changing.{Wrote}
use Rattle.pl_querying.specs.pl_engine.Changing as engine
use Rattle.pl_world.specs.pl_journal.Writing.{written}
use Rattle.pl_natural.specs.Kept.{ReadsKept}
use Rattle.pl_names.specs.Names.{Name}
use Rattle.pl_resolved.specs.declared.expression.RExpr.{RExpr}
use Rattle.pl_tables.specs.Named.{Named, row_named}
use Rattle.pl_value.specs.Frames.{Frame, Row}
use Rattle.pl_value.specs.Meaning.{Calls, Sub, value, values}
use Rattle.pl_value.specs.Reading.{Reading, got, fails, settled, then_read}
use Rattle.pl_value.specs.declared.operand.Unsettled.{Unsettled}
use Rattle.pl_value.specs.declared.operand.Unsettled.TheVariants.{Fails, Memory}
use Rattle.pl_world.specs.Calls.{Within}
use Rattle.pl_world.specs.Changes.{Entry, Setting, if_still, is_still, shown, takes, with_tables, writes}
use Rattle.pl_world.specs.World.{World}

-- ---- a copy is shown in place of a row

abbrev pub IsCopyFor : List RExpr → (copied row : Row) → Type 0
IsCopyFor returning copied row = (e : RExpr) (more : List RExpr) → returning ≡ e ∷ more → copied ≡ row

values_same : (calls : Calls Within) (inner : Sub Within) (list : List RExpr) (around : Frame) (copied row : Row) (x : Within) → IsCopyFor list copied row
    → values (map (value calls inner) list) [] (around ++ row ∷ []) x ≡ values (map (value calls inner) list) [] (around ++ copied ∷ []) x
values_same calls inner [] around copied row x is = refl
values_same calls inner (e ∷ more) around copied row x is = ap (λ (r : Row). values (map (value calls inner) (e ∷ more)) [] (around ++ r ∷ []) x) (sym (is e more refl))

shown_same : (s : Setting) (copied row : Row) (done : List Row) (x : Within) → IsCopyFor s.change.returning copied row → shown s row done x ≡ shown s copied done x
shown_same s copied row done x is = ap (λ (q : Reading Within Row). then_read q (λ row x. got (done ++ row ∷ []) x)) (values_same s.calls s.inner s.change.returning s.around copied row x is)

-- ---- writes

module _ (command : Command) (s : Setting) where
  abbrev keeps : Within → Standing
  keeps x = keep command.at command.room x

  abbrev Written : Option ℕ → Row → Standing → Result (List Named) State
  Written id row now = written now.world.database.objects s.change.table id row now.world.database.tables

  module _ (id : Option ℕ) (copied row : Row) (done : List Row) where
    shows : (answer : Result (List Row) Unsettled) (mid new : Standing) (x : Within) (w : World) → IsCopyFor s.change.returning copied row → Wrote (Written id row (keeps x)) (Ok tt) x.world w → mid ≡ in_world w (keeps x)
        → ReadsOver command (λ (x : Within). shown s copied done x) answer mid new → ReadsKept keeps (writes s id row done x) answer new
    shows answer mid new x w is (tables, leads, same) there rest =
        subst (λ (r : Reading Within (List Row)). ReadsKept keeps r answer new)
        (sym (ap (λ (o : Result (List Named) State). then_read (settled o x) (λ tables x. shown s row done (with_tables tables x))) leads ∙ shown_same s copied row done (with_tables tables x) is))
        (rest (with_tables tables x) (there ∙ ap (λ (w : World). in_world w (keeps x)) same))

    shows_in : (answer : Result (List Row) Unsettled) (mid new : Standing) (x : Within) → IsCopyFor s.change.returning copied row → WroteIn (Written id row (keeps x)) (Ok tt) (keeps x) mid
        → ReadsOver command (λ (x : Within). shown s copied done x) answer mid new → ReadsKept keeps (writes s id row done x) answer new
    shows_in answer mid new x is (w, wrote, there) rest = shows answer mid new x w is wrote there rest

    -- the row was written, and its copy was shown
    pub wrote_over : (answer : Result (List Row) Unsettled) (old mid new : Standing) → IsCopyFor s.change.returning copied row → WroteIn (Written id row old) (Ok tt) old mid
        → ReadsOver command (λ (x : Within). shown s copied done x) answer mid new → ReadsOver command (λ (x : Within). writes s id row done x) answer old new
    wrote_over answer old mid new is wrote rest x begins = shows_in answer mid new x is (subst (λ (t : Standing). WroteIn (Written id row t) (Ok tt) t mid) begins wrote) rest

  module _ (id : Option ℕ) (row : Row) (done : List Row) where
    refuses : (state : State) (mid : Standing) (x : Within) (w : World) → Wrote (Written id row (keeps x)) (Err (Fails state)) x.world w → mid ≡ in_world w (keeps x)
        → ReadsKept {A = List Row} keeps (writes s id row done x) (Err (Fails state)) mid
    refuses state mid x w (leads, same) there =
        (x, ap (λ (o : Result (List Named) State). then_read (settled o x) (λ tables x. shown s row done (with_tables tables x))) leads, there ∙ ap (λ (w : World). in_world w (keeps x)) same)

    refuses_in : (state : State) (mid : Standing) (x : Within) → WroteIn (Written id row (keeps x)) (Err (Fails state)) (keeps x) mid → ReadsKept {A = List Row} keeps (writes s id row done x) (Err (Fails state)) mid
    refuses_in state mid x (w, wrote, there) = refuses state mid x w wrote there

    -- it was refused
    pub refused_over : (why : Unsettled) (old mid : Standing) → WroteIn (Written id row old) (Err why) old mid → ReadsOver {A = List Row} command (λ (x : Within). writes s id row done x) (Err why) old mid
    refused_over (Fails state) old mid wrote x begins = refuses_in state mid x (subst (λ (t : Standing). WroteIn (Written id row t) (Err (Fails state)) t mid) begins wrote)
    refused_over Memory old mid wrote x begins = tt

  -- ---- rows that are there still

  abbrev pub StillThere : Entry → Standing → Bool
  StillThere entry now = is_still (row_named s.change.table entry.0 now.world.database.tables) entry.1

  module _ (entry : Entry) (does : Within → Reading Within (List Row)) where
    still_is : (b : Bool) (x : Within) → StillThere entry (keeps x) ≡ b → if_still s entry does x ≡ (if b then does x else fails TRIGGERED_DATA_CHANGE_VIOLATION x)
    still_is b x is = ap (λ (b : Bool). if b then does x else fails TRIGGERED_DATA_CHANGE_VIOLATION x) is

    -- it is
    pub still_over : (answer : Result (List Row) Unsettled) (old new : Standing) → StillThere entry old ≡ true → ReadsOver command does answer old new → ReadsOver command (λ (x : Within). if_still s entry does x) answer old new
    still_over answer old new is reads x begins =
        subst (λ (r : Reading Within (List Row)). ReadsKept keeps r answer new) (sym (still_is true x (subst (λ (t : Standing). StillThere entry t ≡ true) begins is))) (reads x begins)

    -- it isn't
    pub gone_over : (old : Standing) → StillThere entry old ≡ false → ReadsOver {A = List Row} command (λ (x : Within). if_still s entry does x) (Err (Fails TRIGGERED_DATA_CHANGE_VIOLATION)) old old
    gone_over old is x begins = (x, still_is false x (subst (λ (t : Standing). StillThere entry t ≡ false) begins is), begins)

  -- ---- rows that go

  -- it went, and was shown
  pub took_over : (entry : Entry) (done : List Row) (answer : Result (List Row) Unsettled) (old mid new : Standing) → mid ≡ without_row_in s.change.table entry.0 old → ReadsOver command (λ (x : Within). shown s entry.1 done x) answer mid new
      → ReadsOver command (λ (x : Within). takes s entry done x) answer old new
  took_over entry done answer old mid new gone rest x begins =
      rest (with_tables (engine.without_row s.change.table entry.0 x.world).database.tables x) (gone ∙ ap (λ (t : Standing). without_row_in s.change.table entry.0 t) begins)

-- what is there still is there
some_there : (o : Option Row) (row : Row) → is_still o row ≡ true → IsSome o
some_there (Some now) row is = refl
some_there None row is = absurd cc

pub is_there : (table : Name) (id : ℕ) (row : Row) (tables : List Named) → is_still (row_named table id tables) row ≡ true → IsSome (row_named table id tables)
is_there table id row tables is = some_there (row_named table id tables) row is
