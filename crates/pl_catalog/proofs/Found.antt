-- The entry of an object, and the object.
use Rattle.std.proofs.Common.{◌≡◌, ◌≤◌, ◌<◌, ◌+◌, ◌&&◌, ℕ, zero, suc, List, [], ◌∷◌, ◌++◌, length, filter, cond, not, nat_lt, Bool, true, false, Option, Some, None, Result, Ok, Err, subst, refl, sym, ◌∙◌, ap, arith}
use Rattle.std.specs.Result.{IsErr, IsErrAnd}
use Rattle.std.specs.Prelude.{is_some, slice_get, slice_set}
use Rattle.std.specs.List.{position, position_or_len, prefix_len}
use Rattle.std.proofs.lemmas.Bool.Decides.{nat_tests}
use Rattle.pl_history.specs.History.{changed, back, history, seen_as}
use Rattle.pl_history.specs.HistoryLaws.{history_changed, history_back, seen_changed, seen_back, before_last}
use Rattle.pl_catalog.specs.declared.object.Object.{Object}
use Rattle.pl_catalog.specs.declared.object.Which.{Which}
use Rattle.pl_catalog.specs.declared.entries.Entry.{Entry}
use Rattle.pl_catalog.specs.declared.entries.Step.{Step}
use Rattle.pl_catalog.specs.declared.entries.Step.TheVariants.{Added}
use Rattle.pl_catalog.specs.declared.catalog.CatalogFail.{CatalogFail}
use Rattle.pl_catalog.specs.declared.catalog.CatalogFail.TheVariants as fail
use Rattle.pl_catalog.specs.Entries.{kept, there, is_at, with_entry, gone, holding, undo_step}
use Rattle.pl_catalog.specs.Objects.{is_called, object_called, exchanged, without}
use Rattle.pl_catalog.specs.Refusals.{Answers, refusal_beside, refusal_of, refusal_without}

no_place : (n m : ℕ) → (let o : Option ℕ = cond (nat_lt n m) (Some n) None in o ≡ None) → m ≤ n
no_place n m is = grind (arith, nat_tests)

is_place : (n m at : ℕ) → (let o : Option ℕ = cond (nat_lt n m) (Some n) None in o ≡ Some at) → (n ≡ at) × (n < m)
is_place n m at is = (grind (arith, nat_tests), grind (arith, nat_tests))

abbrev first_or : Bool → Object → Option Object → Option Object
first_or b o rest = cond b (Some o) rest

-- a written entry
pub entry_set : (es : List Entry) (at : ℕ) (e : Entry) (change : Entry → Entry) → slice_get es at ≡ Some e → slice_set es at (change e) ≡ with_entry es at change
entry_set [] at e change is = refl
entry_set (f ∷ es) zero e change is = ap (λ (g : Entry). change g ∷ es) (let h : Some e ≡ Some f = sym is in cc)
entry_set (f ∷ es) (suc at) e change is = ap (λ (gs : List Entry). f ∷ gs) (entry_set es at e change is)

pub entry_past : (es : List Entry) (at : ℕ) (change : Entry → Entry) → length es ≤ at → with_entry es at change ≡ es
entry_past [] at change le = refl
entry_past (e ∷ es) zero change le = absurd (omega (arith, le))
entry_past (e ∷ es) (suc at) change le = ap (λ (gs : List Entry). e ∷ gs) (entry_past es at change (omega (arith, le)))

-- the object that an entry had is put back
pub held_again : (es : List Entry) (at : ℕ) (e : Entry) (o : Object) → slice_get es at ≡ Some e → with_entry (with_entry es at (holding o)) at (holding e.object) ≡ es
held_again [] at e o is = refl
held_again (f ∷ es) zero e o is =
    let same : e ≡ f = (let h : Some e ≡ Some f = sym is in cc) in
    ap (λ (g : Entry). (record { object = g.object; is_there = f.is_there }) ∷ es) same
held_again (f ∷ es) (suc at) e o is = ap (λ (gs : List Entry). f ∷ gs) (held_again es at e o is)

pub there_append : (es : List Entry) (o : Object) → there (es ++ (record { object = o; is_there = true }) ∷ []) ≡ there es ++ o ∷ []
there_append [] o = refl
there_append (e ∷ es) o = ap (kept e.is_there e.object) (there_append es o) ∙ kept_append e.is_there e.object (there es) (o ∷ [])
  where
    kept_append : (b : Bool) (p : Object) (xs ys : List Object) → kept b p (xs ++ ys) ≡ kept b p xs ++ ys
    kept_append true p xs ys = refl
    kept_append false p xs ys = refl

pub back_added : (es : List Entry) (e : Entry) → undo_step Added (es ++ e ∷ []) ≡ es
back_added es e = before_last es e

module _ (w : Which) where
  abbrev rest_of : List Entry → ℕ
  rest_of es = 1 + prefix_len (λ (u : Entry). not (is_at w u)) es

  has_none : (es : List Entry) → length es ≤ position_or_len (is_at w) es → object_called w (there es) ≡ None
  has_none [] long = refl
  has_none (e ∷ es) long =
      (elim e.is_there as (λ (b : Bool). (suc (length es) ≤ cond (not (b && is_called w e.object)) (rest_of es) 0) → object_called w (kept b e.object (there es)) ≡ None) [
        | true ↦ (elim (is_called w e.object) as (λ (s : Bool). (suc (length es) ≤ cond (not s) (rest_of es) 0) → first_or s e.object (object_called w (there es)) ≡ None)
            [ true ↦ λ h. absurd (omega (arith, h)) | false ↦ λ h. has_none es (omega (arith, h)) ])
        | false ↦ λ h. has_none es (omega (arith, h))
      ]) long

  has_some : (es : List Entry) → position_or_len (is_at w) es < length es → is_some (object_called w (there es)) ≡ true
  has_some [] below = absurd (omega (arith, below))
  has_some (e ∷ es) below =
      (elim e.is_there as (λ (b : Bool). (cond (not (b && is_called w e.object)) (rest_of es) 0 < suc (length es)) → is_some (object_called w (kept b e.object (there es))) ≡ true) [
        | true ↦ (elim (is_called w e.object) as (λ (s : Bool). (cond (not s) (rest_of es) 0 < suc (length es)) → is_some (first_or s e.object (object_called w (there es))) ≡ true)
            [ true ↦ λ h. refl | false ↦ λ h. has_some es (omega (arith, h)) ])
        | false ↦ λ h. has_some es (omega (arith, h))
      ]) below

  gone_at : (es : List Entry) (at : ℕ) → at ≡ position_or_len (is_at w) es → at < length es → there (with_entry es at (gone false)) ≡ without w (there es)
  gone_at [] at is below = absurd (omega (arith, below))
  gone_at (e ∷ es) zero is below =
      (elim e.is_there as (λ (b : Bool). (0 ≡ cond (not (b && is_called w e.object)) (rest_of es) 0) → there es ≡ without w (kept b e.object (there es))) [
        | true ↦ (elim (is_called w e.object) as (λ (s : Bool). (0 ≡ cond (not s) (rest_of es) 0) → there es ≡ cond s (there es) (e.object ∷ without w (there es)))
            [ true ↦ λ h. refl | false ↦ λ h. absurd (omega (arith, h)) ])
        | false ↦ λ h. absurd (omega (arith, h))
      ]) is
  gone_at (e ∷ es) (suc at) is below =
      (elim e.is_there as (λ (b : Bool). (suc at ≡ cond (not (b && is_called w e.object)) (rest_of es) 0) → kept b e.object (there (with_entry es at (gone false))) ≡ without w (kept b e.object (there es))) [
        | true ↦ (elim (is_called w e.object) as (λ (s : Bool). (suc at ≡ cond (not s) (rest_of es) 0) → e.object ∷ there (with_entry es at (gone false)) ≡ cond s (there es) (e.object ∷ without w (there es)))
            [ true ↦ λ h. absurd (omega (arith, h)) | false ↦ λ h. ap (λ (l : List Object). e.object ∷ l) (gone_at es at (omega (arith, h)) (omega (arith, below))) ])
        | false ↦ λ h. gone_at es at (omega (arith, h)) (omega (arith, below))
      ]) is

  back_at : (es : List Entry) (at : ℕ) → at ≡ position_or_len (is_at w) es → at < length es → with_entry (with_entry es at (gone false)) at (gone true) ≡ es
  back_at [] at is below = refl
  back_at (e ∷ es) zero is below =
      (elim e.is_there as (λ (b : Bool). (0 ≡ cond (not (b && is_called w e.object)) (rest_of es) 0) → (record { object = e.object; is_there = true }) ∷ es ≡ (record { object = e.object; is_there = b }) ∷ es)
      [ true ↦ λ h. refl | false ↦ λ h. absurd (omega (arith, h)) ]) is
  back_at (e ∷ es) (suc at) is below =
      (elim (is_at w e) as (λ (b : Bool). (suc at ≡ cond (not b) (rest_of es) 0) → e ∷ with_entry (with_entry es at (gone false)) at (gone true) ≡ e ∷ es)
      [ true ↦ λ h. absurd (omega (arith, h)) | false ↦ λ h. ap (λ (l : List Entry). e ∷ l) (back_at es at (omega (arith, h)) (omega (arith, below))) ]) is

  exchanged_at : (o : Object) (es : List Entry) (at : ℕ) → at ≡ position_or_len (is_at w) es → at < length es → there (with_entry es at (holding o)) ≡ exchanged w o (there es)
  exchanged_at o [] at is below = absurd (omega (arith, below))
  exchanged_at o (e ∷ es) zero is below =
      (elim e.is_there as (λ (b : Bool). (0 ≡ cond (not (b && is_called w e.object)) (rest_of es) 0) → kept b o (there es) ≡ exchanged w o (kept b e.object (there es))) [
        | true ↦ (elim (is_called w e.object) as (λ (s : Bool). (0 ≡ cond (not s) (rest_of es) 0) → o ∷ there es ≡ cond s (o ∷ there es) (e.object ∷ exchanged w o (there es)))
            [ true ↦ λ h. refl | false ↦ λ h. absurd (omega (arith, h)) ])
        | false ↦ λ h. absurd (omega (arith, h))
      ]) is
  exchanged_at o (e ∷ es) (suc at) is below =
      (elim e.is_there as (λ (b : Bool). (suc at ≡ cond (not (b && is_called w e.object)) (rest_of es) 0) → kept b e.object (there (with_entry es at (holding o))) ≡ exchanged w o (kept b e.object (there es))) [
        | true ↦ (elim (is_called w e.object) as (λ (s : Bool). (suc at ≡ cond (not s) (rest_of es) 0) → e.object ∷ there (with_entry es at (holding o)) ≡ cond s (o ∷ there es) (e.object ∷ exchanged w o (there es)))
            [ true ↦ λ h. absurd (omega (arith, h)) | false ↦ λ h. ap (λ (l : List Object). e.object ∷ l) (exchanged_at o es at (omega (arith, h)) (omega (arith, below))) ])
        | false ↦ λ h. exchanged_at o es at (omega (arith, h)) (omega (arith, below))
      ]) is

  pub absent : (es : List Entry) → position (is_at w) es ≡ None → object_called w (there es) ≡ None
  absent es is = has_none es (no_place _ _ is)

  pub is_there : (es : List Entry) (at : ℕ) → position (is_at w) es ≡ Some at → is_some (object_called w (there es)) ≡ true
  is_there es at is = has_some es (is_place _ _ at is).1

  pub within : (es : List Entry) (at : ℕ) → position (is_at w) es ≡ Some at → at < length es
  within es at is = let h = is_place _ _ at is in omega (arith, h.0, h.1)

  pub removed : (es : List Entry) (at : ℕ) → position (is_at w) es ≡ Some at → there (with_entry es at (gone false)) ≡ without w (there es)
  removed es at is = let h = is_place (position_or_len (is_at w) es) (length es) at is in gone_at es at (sym h.0) (omega (arith, h.0, h.1))

  pub replaced : (o : Object) (es : List Entry) (at : ℕ) → position (is_at w) es ≡ Some at → there (with_entry es at (holding o)) ≡ exchanged w o (there es)
  replaced o es at is = let h = is_place (position_or_len (is_at w) es) (length es) at is in exchanged_at o es at (sym h.0) (omega (arith, h.0, h.1))

  pub back_removed : (es : List Entry) (at : ℕ) → position (is_at w) es ≡ Some at → with_entry (with_entry es at (gone false)) at (gone true) ≡ es
  back_removed es at is = let h = is_place (position_or_len (is_at w) es) (length es) at is in back_at es at (sym h.0) (omega (arith, h.0, h.1))

  pub wants_memory : {A : Type 0} (r : Result A CatalogFail) (refusal : Option CatalogFail) → IsErr r × IsErrAnd r (λ (f : CatalogFail). f ≡ fail.Memory) → refusal ≡ None → Answers r refusal
  wants_memory (Ok a) refusal want none = absurd want.1
  wants_memory {A} (Err f) refusal want none = subst (λ (g : CatalogFail). let r : Result A CatalogFail = Err g in Answers r refusal) (sym want.1) none

  taken_by : (o : Option Object) → is_some o ≡ true → refusal_beside o ≡ Some fail.Taken
  taken_by None is = absurd cc
  taken_by (Some o) is = refl

  pub taken : (es : List Entry) (r : Option ℕ) → position (is_at w) es ≡ r → is_some r ≡ true → refusal_beside (object_called w (there es)) ≡ Some fail.Taken
  taken es None is some = absurd cc
  taken es (Some at) is some = taken_by (object_called w (there es)) (is_there es at is)

  pub free : (es : List Entry) (r : Option ℕ) → position (is_at w) es ≡ r → is_some r ≡ false → refusal_beside (object_called w (there es)) ≡ None
  free es None is none = ap refusal_beside (absent es is)
  free es (Some at) is none = absurd cc

  missing_of : (o : Option Object) → is_some o ≡ true → refusal_without o ≡ None
  missing_of None is = absurd cc
  missing_of (Some o) is = refl

  pub replaceable : (es : List Entry) (at : ℕ) → position (is_at w) es ≡ Some at → refusal_without (object_called w (there es)) ≡ None
  replaceable es at is = missing_of (object_called w (there es)) (is_there es at is)

  pub missing : (es : List Entry) → position (is_at w) es ≡ None → refusal_without (object_called w (there es)) ≡ Some fail.Absent
  missing es is = ap refusal_without (absent es is)

  dependent_of : (o : Option Object) (name : List ℕ) → is_some o ≡ true → refusal_of o (Some name) ≡ Some (fail.Dependent name)
  dependent_of None name is = absurd cc
  dependent_of (Some o) name is = refl

  pub dependent : (es : List Entry) (at : ℕ) (name : List ℕ) (d : Option (List ℕ)) → position (is_at w) es ≡ Some at → d ≡ Some name → refusal_of (object_called w (there es)) d ≡ Some (fail.Dependent name)
  dependent es at name d is has = ap (refusal_of (object_called w (there es))) has ∙ dependent_of (object_called w (there es)) name (is_there es at is)

  free_of : (o : Option Object) → is_some o ≡ true → refusal_of o None ≡ None
  free_of None is = absurd cc
  free_of (Some o) is = refl

  pub droppable : (es : List Entry) (at : ℕ) (d : Option (List ℕ)) → position (is_at w) es ≡ Some at → d ≡ None → refusal_of (object_called w (there es)) d ≡ None
  droppable es at d is none = ap (refusal_of (object_called w (there es))) none ∙ free_of (object_called w (there es)) (is_there es at is)

  pub none : (es : List Entry) (d : Option (List ℕ)) → position (is_at w) es ≡ None → refusal_of (object_called w (there es)) d ≡ Some fail.Absent
  none es d is = ap (λ (o : Option Object). refusal_of o d) (absent es is)

-- a change was made
pub gone_on : (ss all : List Step) (s : Step) (old new : List Entry) → all ≡ ss ++ s ∷ [] → undo_step s new ≡ old
    → seen_as there (history undo_step all new) ≡ changed (there new) (seen_as there (history undo_step ss old))
gone_on ss all s old new is undone = ap (λ (l : List Step). seen_as there (history undo_step l new)) is
    ∙ (ap (seen_as there) (history_changed undo_step ss s old new undone) ∙ seen_changed there new (history undo_step ss old))

-- a change is undone
pub gone_back : (ss all : List Step) (s : Step) (old new : List Entry) → all ≡ ss ++ s ∷ [] → new ≡ undo_step s old
    → seen_as there (history undo_step ss new) ≡ back (seen_as there (history undo_step all old))
gone_back ss all s old new is e =
    ap (λ (k : List Entry). seen_as there (history undo_step ss k)) e
    ∙ (ap (seen_as there) (history_back undo_step ss s old ∙ ap (λ (l : List Step). back (history undo_step l old)) (sym is))
    ∙ seen_back there (history undo_step all old))

-- as many states as changes
pub length_past : (ss : List Step) (es : List Entry) → length (seen_as there (history undo_step ss es)).past ≡ length ss
length_past [] es = refl
length_past (s ∷ ss) es = ap suc (length_past ss es)

pub there_filtered : (es : List Entry) → there (filter (λ (e : Entry). e.is_there) es) ≡ there es
there_filtered [] = refl
there_filtered (e ∷ es) =
    (elim e.is_there as (λ (b : Bool). e.is_there ≡ b → there (cond b (e ∷ filter (λ (u : Entry). u.is_there) es) (filter (λ (u : Entry). u.is_there) es)) ≡ kept b e.object (there es))
    [ true ↦ λ is. (ap (λ (b : Bool). kept b e.object (there (filter (λ (u : Entry). u.is_there) es))) is ∙ ap (λ (os : List Object). e.object ∷ os) (there_filtered es)) | false ↦ λ is. there_filtered es ]) refl
