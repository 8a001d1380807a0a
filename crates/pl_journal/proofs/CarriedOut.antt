-- Definitions that are carried out: what they add isn't there, what they drop or replace is, what
-- they replace is no table, and a journal stays kept.
use Rattle.std.proofs.Common.{◌≡◌, ◌∙◌, ◌++◌, ℕ, List, [], ◌∷◌, Option, None, Some, Ok, ap, refl, subst, sym}
use Rattle.std.specs.Prelude.{is_some, IsSome}
use Rattle.pl_base.specs.declared.operation.Op.TheVariants.{Define}
use Rattle.pl_base.specs.declared.state.State.{State}
use Rattle.pl_catalog.specs.Objects.{object_called, tables_in, which_of}
use Rattle.pl_catalog.specs.declared.object.Object.{Object}
use Rattle.pl_catalog.specs.declared.object.Which.{Which}
use Rattle.pl_codec.specs.ReadBack.{OpReadsBack}
use Rattle.pl_codec.specs.Spelling.{op_bytes}
use Rattle.pl_define.specs.Definition.{defined}
use Rattle.pl_define.specs.declared.definition.Defined.{Defined}
use Rattle.pl_define.specs.declared.definition.Defined.TheVariants.{Add, Drop, Replace}
use Rattle.pl_define.proofs.Done as laws
use Rattle.pl_journal.specs.Definitions.{behind, redefined}
use Rattle.pl_journal.specs.Journal.{IsKept}
use Rattle.pl_journal.specs.Steps.{Continues}
use Rattle.pl_journal.proofs.Opening.{define_done, noticed}
use Rattle.pl_journal.proofs.Steps.{kept_more}
use Rattle.pl_define.specs.pl_reading.Computed.{definition_in}
use Rattle.pl_tree.specs.declared.command.Definition.{Definition}
use Rattle.pl_define.specs.pl_typing.Resolved.{Resolved}
use Rattle.pl_undo.specs.Store.{Stored}

module _ (known objects : List Object) (same : known ≡ objects) (definition : Definition) (text : List ℕ) (d : Defined) (is : defined known definition text ≡ Ok d) where
  gives : (e : Defined) → d ≡ e → defined objects definition text ≡ Ok e
  gives e same_d = subst (λ (os : List Object). defined os definition text ≡ Ok e) same (is ∙ ap (λ (x : Defined). let r : Resolved Defined = Ok x in r) same_d)

  pub added_new : (o : Object) → d ≡ Add o → object_called (which_of o) objects ≡ None
  added_new o same_d = laws.added_new objects definition text o (gives (Add o) same_d)

  pub replaced_there : (o : Object) → d ≡ Replace o → IsSome (object_called (which_of o) objects)
  replaced_there o same_d = ap (λ (x : Option Object). is_some x) (laws.replaced_there objects definition text o (gives (Replace o) same_d)).1

  pub replaced_plain : (o : Object) → d ≡ Replace o → tables_in (o ∷ []) ≡ []
  replaced_plain o same_d = subst (λ (x : Object). tables_in (x ∷ []) ≡ []) (sym (laws.replaced_routine objects definition text o (gives (Replace o) same_d)).1) refl

  pub dropped_there : (w : Which) → d ≡ Drop w → IsSome (object_called w objects)
  dropped_there w same_d = ap (λ (o : Option Object). is_some o) (laws.dropped_there objects definition text w (gives (Drop w) same_d)).1

module _ (payload : List ℕ) (s t : Stored) (kept : IsKept payload s) (definition : Definition) (text : List ℕ) (reads : definition_in text ≡ Some definition) where
  pub define_kept : (longer : List ℕ) → OpReadsBack (Define text) → longer ≡ payload ++ op_bytes (Define text) → (notice : Option State) → redefined definition text s.now ≡ Ok (behind t.now notice) → t.last ≡ s.last → t.marks ≡ s.marks → Continues payload longer s t
  define_kept longer back longer_is notice is is_last is_marks = kept_more payload longer s t (Define text) kept back (define_done definition text s.now reads t.now notice is) longer_is is_last is_marks

  pub as_noticed : (state : State) → redefined definition text s.now ≡ Ok (behind t.now (Some state)) → t.now ≡ s.now
  as_noticed state is = noticed s.now t.now state (defined s.now.objects definition text) is
