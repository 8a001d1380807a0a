-- What is read over what is kept of a state, one thing after another.
use Rattle.std.proofs.Common.{◌≡◌, ℕ, Bool, true, false, List, [], Option, Some, None, Result, Ok, Err, ap, map, refl, subst, sym}
use Rattle.std.specs.Prelude.{option_map}
use Rattle.pl_altering.specs.Settings.{ReadsOver, setting_over}
use Rattle.pl_altering.specs.declared.command.Command.{Command}
use Rattle.pl_base.specs.declared.state.State.{State}
use Rattle.pl_querying.proofs.of_pl_calling.Overs.{agree, inside_agree}
use Rattle.pl_querying.specs.pl_calling.Standing.{Standing, calls_kept, keep}
use Rattle.pl_world.specs.pl_change.Running.{copied}
use Rattle.pl_world.specs.pl_change.declared.at_start.Copies.{Copies}
use Rattle.pl_natural.proofs.Parts.{passes_agrees, values_agree}
use Rattle.pl_natural.proofs.Told.{told}
use Rattle.pl_natural.proofs.Values.{each_agrees, value_agrees}
use Rattle.pl_natural.specs.Kept.{ReadsKept, SubsAgree, kept}
use Rattle.pl_product.specs.Product.{passes}
use Rattle.pl_query.specs.Query.{rows}
use Rattle.pl_query.specs.declared.within.Queries.{Queries}
use Rattle.pl_resolved.specs.declared.expression.RExpr.{RExpr}
use Rattle.pl_value.specs.Answers.{Reads}
use Rattle.pl_value.specs.Frames.{Frame, Row}
use Rattle.pl_value.specs.Meaning.{Sub, value, values}
use Rattle.pl_value.specs.Reading.{Reading, got, fails, then_read}
use Rattle.pl_value.specs.declared.operand.Unsettled.{Unsettled}
use Rattle.pl_value.specs.declared.operand.Unsettled.TheVariants.{Fails, Memory}
use Rattle.pl_world.specs.Calls.{Within, calls}
use Rattle.pl_world.specs.Changes.{Setting, meanings, values_if}

-- ---- one thing after another

module _ (command : Command) where
  abbrev pub keeps : Within → Standing
  keeps x = keep command.at command.room x

  -- what is the same is read alike
  pub same_over : {A : Type 0} (f g : Within → Reading Within A) (answer : Result A Unsettled) (old new : Standing) → ((x : Within) → f x ≡ g x) → ReadsOver command g answer old new → ReadsOver command f answer old new
  same_over {A} f g answer old new same reads x is = subst (λ (r : Reading Within A). ReadsKept keeps r answer new) (sym (same x)) (reads x is)

  pub got_over : {A : Type 0} (f : Within → Reading Within A) (a : A) (s : Standing) → ((x : Within) → f x ≡ got a x) → ReadsOver command f (Ok a) s s
  got_over f a s gives x is = (x, gives x, is)

  pub fails_over : {A : Type 0} (f : Within → Reading Within A) (state : State) (s : Standing) → ((x : Within) → s ≡ keeps x → f x ≡ fails state x) → ReadsOver command f (Err (Fails state)) s s
  fails_over f state s gives x is = (x, gives x is, is)

  module _ {A B : Type 0} (f : Within → Reading Within A) (k : A → Within → Reading Within B) where
    went : (a : A) (answer : Result B Unsettled) (mid new : Standing) (x : Within) → ReadsKept keeps (f x) (Ok a) mid → ReadsOver command (λ (y : Within). k a y) answer mid new → ReadsKept keeps (then_read (f x) k) answer new
    went a answer mid new x (y, gives, left) rest = subst (λ (r : Reading Within B). ReadsKept keeps r answer new) (sym (ap (λ (q : Reading Within A). then_read q k) gives)) (rest y left)

    -- what was got goes on
    pub goes_over : (a : A) (answer : Result B Unsettled) (old mid new : Standing) → ReadsOver command f (Ok a) old mid → ReadsOver command (λ (y : Within). k a y) answer mid new → ReadsOver command (λ (x : Within). then_read (f x) k) answer old new
    goes_over a answer old mid new first rest x is = went a answer mid new x (first x is) rest

    failed : (state : State) (mid : Standing) (x : Within) → ReadsKept {A = A} keeps (f x) (Err (Fails state)) mid → ReadsKept {A = B} keeps (then_read (f x) k) (Err (Fails state)) mid
    failed state mid x (y, gives, left) = (y, ap (λ (q : Reading Within A). then_read q k) gives, left)

    -- what failed ends the whole
    pub stops_over : (why : Unsettled) (old mid : Standing) → ReadsOver {A = A} command f (Err why) old mid → ReadsOver {A = B} command (λ (x : Within). then_read (f x) k) (Err why) old mid
    stops_over (Fails state) old mid first x is = failed state mid x (first x is)
    stops_over Memory old mid first x is = tt

-- ---- expressions and queries

module _ (command : Command) (inside : Queries Copies) where
  abbrev pub over : Setting
  over = setting_over command inside

  -- what the queries inside give over what is kept
  abbrev pub sub_kept : Sub Standing
  sub_kept = rows calls_kept inside.list.now (copied inside.tables.now.list.items)

  subs : SubsAgree (keeps command) over.inner sub_kept
  subs = inside_agree command.at command.room inside.list.now (copied inside.tables.now.list.items)

  read_there : {A : Type 0} (f : Within → Reading Within A) (g : Standing → Reading Standing A) (answer : Result A Unsettled) (old new : Standing) → ((x : Within) → g (keeps command x) ≡ kept (keeps command) (f x)) → Reads (g old) answer new → ReadsOver command f answer old new
  read_there {A} f g answer old new same reads x is =
      told (keeps command) (f x) answer new
      (subst (λ (r : Reading Standing A). Reads r answer new) (same x) (subst (λ (s : Standing). Reads (g s) answer new) is reads))

  pub rows_over : (query : ℕ) (frame : Frame) (answer : Result (List Row) Unsettled) (old new : Standing) → Reads (sub_kept query frame old) answer new → ReadsOver command (λ (x : Within). over.inner query frame x) answer old new
  rows_over query frame answer old new reads = read_there (λ (x : Within). over.inner query frame x) (λ (s : Standing). sub_kept query frame s) answer old new (λ x. subs query frame x) reads

  pub values_over : (list : List RExpr) (frame : Frame) (answer : Result Row Unsettled) (old new : Standing) → Reads (values (map (value calls_kept sub_kept) list) [] frame old) answer new
      → ReadsOver command (λ (x : Within). values (meanings over list) [] frame x) answer old new
  values_over list frame answer old new reads =
      read_there (λ (x : Within). values (meanings over list) [] frame x) (λ (s : Standing). values (map (value calls_kept sub_kept) list) [] frame s) answer old new
      (λ x. values_agree (keeps command) (meanings over list) (map (value calls_kept sub_kept) list) (each_agrees (keeps command) over.calls calls_kept (agree command.at command.room) over.inner sub_kept subs list) [] frame x) reads

  where_agrees : (condition : Option RExpr) (frame : Frame) (x : Within) → passes (option_map (value calls_kept sub_kept) condition) frame (keeps command x) ≡ kept (keeps command) (passes (option_map (value over.calls over.inner) condition) frame x)
  where_agrees None frame x = refl
  where_agrees (Some e) frame x = passes_agrees (keeps command) (value over.calls over.inner e) (value calls_kept sub_kept e) (value_agrees (keeps command) over.calls calls_kept (agree command.at command.room) over.inner sub_kept subs e) frame x

  pub passes_over : (condition : Option RExpr) (frame : Frame) (answer : Result Bool Unsettled) (old new : Standing) → Reads (passes (option_map (value calls_kept sub_kept) condition) frame old) answer new
      → ReadsOver command (λ (x : Within). passes (option_map (value over.calls over.inner) condition) frame x) answer old new
  passes_over condition frame answer old new reads =
      read_there (λ (x : Within). passes (option_map (value over.calls over.inner) condition) frame x) (λ (s : Standing). passes (option_map (value calls_kept sub_kept) condition) frame s) answer old new (where_agrees condition frame) reads

  -- ---- values over rows that passed WHERE

  module _ (list : List RExpr) (frame : Frame) where
    pub passed_over : (b : Bool) (vs : Row) (old mid : Standing) → b ≡ true → ReadsOver command (λ (x : Within). values (meanings over list) [] frame x) (Ok vs) old mid → ReadsOver command (λ (x : Within). values_if over b list frame x) (Ok (Some vs)) old mid
    passed_over b vs old mid is reads =
        same_over command (λ (x : Within). values_if over b list frame x) (λ (x : Within). values_if over true list frame x) (Ok (Some vs)) old mid (λ x. ap (λ (b : Bool). values_if over b list frame x) is)
        (goes_over command (λ (x : Within). values (meanings over list) [] frame x) (λ vs x. got (Some vs) x) vs (Ok (Some vs)) old mid mid reads (got_over command (λ (x : Within). got (Some vs) x) (Some vs) mid (λ x. refl)))

    pub passed_stops : (b : Bool) (why : Unsettled) (old mid : Standing) → b ≡ true → ReadsOver {A = Row} command (λ (x : Within). values (meanings over list) [] frame x) (Err why) old mid → ReadsOver {A = Option Row} command (λ (x : Within). values_if over b list frame x) (Err why) old mid
    passed_stops b why old mid is reads =
        same_over command {A = Option Row} (λ (x : Within). values_if over b list frame x) (λ (x : Within). values_if over true list frame x) (Err why) old mid (λ x. ap (λ (b : Bool). values_if over b list frame x) is)
        (stops_over command {A = Row} {B = Option Row} (λ (x : Within). values (meanings over list) [] frame x) (λ vs x. got (Some vs) x) why old mid reads)

    pub not_passed : (b : Bool) (s : Standing) → b ≡ false → ReadsOver {A = Option Row} command (λ (x : Within). values_if over b list frame x) (Ok None) s s
    not_passed b s is = got_over command {A = Option Row} (λ (x : Within). values_if over b list frame x) None s (λ x. ap (λ (b : Bool). values_if over b list frame x) is)
