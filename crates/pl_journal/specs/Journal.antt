-- How a journal stands to what was changed.
use Rattle.std.specs.Prelude.{◌≡◌, ◌≤◌, ℕ, min, Bool, true, false, List, [], ◌∷◌, length, take}
use Rattle.std.specs.Prelude.{Option, Some, None, Result, Ok, Err, nat_eq, IsSome}
use Rattle.std.specs.Cmp.Lexicographic.{pointwise}
use Rattle.std.specs.List.{AllByRecursion}
use Rattle.pl_base.specs.declared.operation.Op.{Op}
use Rattle.pl_base.specs.declared.state.State.{State}
use Rattle.pl_codec.specs.ReadBack.{OpReadsBack}
use Rattle.pl_codec.specs.Spelling.{ops_bytes}
use Rattle.pl_journal.specs.Definitions.{Behind, behind}
use Rattle.pl_journal.specs.Operation.{apply_all}
use Rattle.pl_journal.specs.Sound.{IsSound}
use Rattle.pl_tables.specs.Named.{Named, content_named}
use Rattle.pl_define.specs.pl_typing.Resolved.{Resolved}
use Rattle.pl_define.specs.pl_typing.declared.fail.ScopeFail.{ScopeFail}
use Rattle.pl_define.specs.pl_typing.declared.fail.ScopeFail.TheVariants as scope
use Rattle.pl_undo.specs.Database.{Database}
use Rattle.pl_undo.specs.Store.{Stored}
use Rattle.pl_value.specs.declared.operand.Unsettled.{Unsettled}
use Rattle.pl_value.specs.declared.operand.Unsettled.TheVariants.{Fails, Memory}

-- the payload spells operations that lead from the one database to the other, each of which is read
-- back from its spelling
pub record LeadsTo (payload : List ℕ) (last now : Database) : Type 0 where
  pub ops : List Op
  pub spelled : payload ≡ ops_bytes ops
  pub back : AllByRecursion OpReadsBack ops
  pub leads : apply_all ops last ≡ Some now

-- the database now and that of the last commit are sound, and the payload leads from that one to
-- this one
pub record IsKept (payload : List ℕ) (s : Stored) : Type 0 where
  pub now : IsSound s.now
  pub last : IsSound s.last
  pub leads : LeadsTo payload s.last s.now

-- at each mark the payload was so long, no shorter than at the one before, and that front of it leads
-- from the last commit's database to that of the mark
abbrev pub AreFronts : List ℕ → (last : Database) → (least : ℕ) → List ℕ → (marks : List Database)
    → Type 0
AreFronts payload last least [] [] = least ≤ length payload
AreFronts payload last least (n ∷ ns) (d ∷ ds) =
    (least ≤ n) × LeadsTo (take n payload) last d × AreFronts payload last n ns ds
AreFronts payload last least ns ds = ⊥

-- so are the marks, at which the payload was so long
pub record IsMarked (payload : List ℕ) (sizes : List ℕ) (s : Stored) : Type 0 where
  pub kept : IsKept payload s
  pub fronts : AreFronts payload s.last 0 sizes s.marks

-- the store, with so much room for marks at the most
abbrev pub with_room : ℕ → Stored → Stored
with_room room s = record s { spare = min s.spare room }

-- a write led to these tables, or memory was wanting
abbrev pub Leads : {A : Type 0} → Result (List Named) State → Result A Unsettled → List Named
    → Type 0
Leads wanted (Ok x) now = wanted ≡ Ok now
Leads wanted (Err (Fails state)) now = wanted ≡ Err state
Leads wanted (Err Memory) now = Unit {0}

-- a definition led to this database and this notice, or memory was wanting
abbrev pub Redefines : Resolved Behind → Result (Option State) ScopeFail → Database → Type 0
Redefines wanted (Ok notice) now = wanted ≡ Ok (behind now notice)
Redefines wanted (Err (scope.State state)) now = wanted ≡ Err state
Redefines wanted (Err scope.Memory) now = Unit {0}

-- done, and the new value is the one wanted; or none is wanted, and the old one stays
abbrev pub Becomes : {A : Type 0} → Bool → (old new : A) → (wanted : Option A) → Type 0
Becomes true old new wanted = wanted ≡ Some new
Becomes false old new wanted = (wanted ≡ None) × (new ≡ old)

-- all of them were done, and lead to this value; or one of them doesn't apply
abbrev pub AllApply : {A : Type 0} → Bool → (new : A) → (wanted : Option A) → Type 0
AllApply true new wanted = wanted ≡ Some new
AllApply false new wanted = wanted ≡ None

-- nothing but the table of this name was changed, and it is still there
pub record ChangesOnly (name : List ℕ) (old new : Stored) : Type 0 where
  pub there : IsSome (content_named name old.now.tables)
      → IsSome (content_named name new.now.tables)
  pub others : (other : List ℕ) → pointwise nat_eq name other ≡ false
      → content_named other new.now.tables ≡ content_named other old.now.tables
  pub objects : new.now.objects ≡ old.now.objects
  pub last : new.last ≡ old.last
  pub marks : new.marks ≡ old.marks
