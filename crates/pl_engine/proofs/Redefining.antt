-- Definitions, and those that a running change keeps from being carried out.
use Rattle.std.proofs.Common.{◌≡◌, ◌<◌, ◌+◌, ◌∙◌, ℕ, Bool, true, false, List, [], ◌∷◌, ◌++◌, Option, Some, None, Result, Ok, Err, ap, arith, get_or, length, length-append, refl, subst, sym, take}
use Rattle.std.specs.Prelude.{OnErr}
use Rattle.std.specs.Result.{IsErr, IsErrAnd}
use Rattle.std.proofs.Math.Seq.{get_or-append_seam, take-append_seam}
use Rattle.pl_base.specs.States.{OBJECT_IN_USE}
use Rattle.pl_base.specs.declared.state.State.{State}
use Rattle.pl_engine.specs.Changing.{Defined}
use Rattle.pl_engine.specs.Engines.{Kept, kept, world}
use Rattle.pl_engine.specs.Handling.{kept_at, with_mark, with_marks}
use Rattle.pl_engine.specs.declared.engine.Engine.{Engine}
use Rattle.pl_world.specs.pl_journal.Definitions.{Behind, behind}
use Rattle.pl_world.specs.pl_journal.Journal.{Redefines}
use Rattle.pl_world.specs.pl_names.Names.{Name}
use Rattle.pl_tree.specs.declared.command.Definition.{Definition}
use Rattle.pl_typing.specs.Resolved.{Resolved}
use Rattle.pl_typing.specs.declared.fail.ScopeFail.{ScopeFail}
use Rattle.pl_typing.specs.declared.fail.ScopeFail.TheVariants as scope
use Rattle.pl_undo.specs.Database.{Database}
use Rattle.pl_undo.specs.Store.{Stored}
use Rattle.pl_world.specs.Blocks.{deeper}
use Rattle.pl_world.specs.Commands.{checked, is_changing, table_of, unless_changing, with_database}
use Rattle.pl_world.specs.World.{World}

-- ---- the state of the journal behind a definition

module _ (e : Engine) (k : Stored) (last : k.last ≡ e.journal.last) (marks : k.marks ≡ e.journal.marks) where
  pub carried_kept : kept (record e { journal = k }) ≡ kept e
  carried_kept = λ i. record (kept e) { marks = marks i }

  with_now : (db : Database) → k.now ≡ db → world (record e { journal = k }) ≡ with_database db (world e)
  with_now db now = λ i. record (world e) { database = now i; last = last i; depth = length (marks i) }

  pub carried : (wanted : Resolved Behind) (r : Result (Option State) ScopeFail) → Redefines wanted r k.now → OnErr r (k.now ≡ e.journal.now) → Defined wanted r (world e) (world (record e { journal = k }))
  carried wanted (Ok notice) is err = (k.now, is, with_now k.now refl)
  carried wanted (Err (scope.State state)) is err = (is, with_now e.journal.now err)
  carried wanted (Err scope.Memory) is err = with_now e.journal.now err

-- there was no memory for a mark
pub lost : (wanted : Resolved Behind) (r : Result (Option State) ScopeFail) {old new : World} → IsErr r × IsErrAnd r (λ (f : ScopeFail). f ≡ scope.Memory) → new ≡ old → Defined wanted r old new
lost wanted (Ok notice) is same = let none = is.0 in absurd cc
lost wanted (Err f) {old} {new} is same = subst (λ (f : ScopeFail). let r : Result (Option State) ScopeFail = Err f in Defined wanted r old new) (sym is.1) same

-- ---- a change of the table runs, or none does

module _ (d : Definition) (tables : List Name) where
  pub checks : (wanted : Resolved Behind) (r : Result (Option State) ScopeFail) (old new : World) → (r ≡ Ok None → is_changing (table_of d) tables ≡ false) → Defined wanted r old new → Defined (checked wanted d tables) r old new
  checks wanted (Ok None) old new free (db, is, w) = (db, ap (λ (m : Resolved Behind). checked m d tables) is ∙ ap (λ (b : Bool). unless_changing b (behind db None)) (free refl), w)
  checks wanted (Ok (Some notice)) old new free (db, is, w) = (db, ap (λ (m : Resolved Behind). checked m d tables) is, w)
  checks wanted (Err (scope.State state)) old new free (is, w) = (ap (λ (m : Resolved Behind). checked m d tables) is, w)
  checks wanted (Err scope.Memory) old new free w = w

  -- it would be carried out, but a change runs
  pub in_use : (wanted : Resolved Behind) (old new : World) → is_changing (table_of d) tables ≡ true → Defined wanted (Ok None) old new → checked wanted d tables ≡ Err OBJECT_IN_USE
  in_use wanted old new runs (db, is, w) = ap (λ (m : Resolved Behind). checked m d tables) is ∙ ap (λ (b : Bool). unless_changing b (behind db None)) runs

-- ---- a definition under a mark, at which so many were live

module _ (old marked tried new : Engine) (at : ℕ) (deep : world marked ≡ deeper (world old)) (set : kept marked ≡ with_mark (world old).database (kept old)) (here : at ≡ (world old).depth) (stays : kept tried ≡ kept marked) where
  pub live : at < (world tried).depth
  live =
      let long : length (kept tried).marks ≡ length (kept old).marks + 1 = ap (λ (k : Kept). length k.marks) (stays ∙ set) ∙ length-append (kept old).marks ((world old).database ∷ []) in
      omega (arith, long, here)

  -- the mark is gone
  pub kept_back : kept new ≡ with_marks at (kept tried) → kept new ≡ kept old
  kept_back gone =
      let few : take at ((kept old).marks ++ (world old).database ∷ []) ≡ (kept old).marks = ap (λ (n : ℕ). take n ((kept old).marks ++ (world old).database ∷ [])) here ∙ take-append_seam (kept old).marks ((world old).database ∷ []) in
      gone ∙ (ap (λ (k : Kept). with_marks at k) (stays ∙ set) ∙ (λ i. record (kept old) { marks = few i }))

  -- what was carried out is undone
  pub undone : (db : Database) → world tried ≡ with_database db (world marked) → world new ≡ kept_at at tried → world new ≡ world old
  undone db done back =
      let w : world tried ≡ with_database db (deeper (world old)) = done ∙ ap (λ (w : World). with_database db w) deep in
      let marks : (kept tried).marks ≡ (kept old).marks ++ (world old).database ∷ [] = ap (λ (k : Kept). k.marks) (stays ∙ set) in
      let first : get_or (kept tried).marks at (world tried).database ≡ (world old).database =
      ap (λ (ds : List Database). get_or ds at (world tried).database) marks
      ∙ (ap (λ (n : ℕ). get_or ((kept old).marks ++ (world old).database ∷ []) n (world tried).database) here ∙ get_or-append_seam (kept old).marks (world old).database [] (world tried).database) in
      back ∙ (λ i. record (w i) { database = first i; depth = here i })

  -- nothing was carried out
  pub left : (wanted : Resolved Behind) (r : Result (Option State) ScopeFail) → Defined wanted r (world marked) (world tried) → world new ≡ record (world tried) { depth = at } → Defined wanted r (world old) (world new)
  left wanted (Ok notice) (db, is, w) out = (db, is, out ∙ (λ i. record ((w ∙ ap (λ (w : World). with_database db w) deep) i) { depth = here i }))
  left wanted (Err (scope.State state)) (is, w) out = (is, out ∙ (λ i. record ((w ∙ deep) i) { depth = here i }))
  left wanted (Err scope.Memory) w out = out ∙ (λ i. record ((w ∙ deep) i) { depth = here i })
