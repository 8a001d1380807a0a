-- Rows that WHERE turns down since they have another key: they needn't be visited.
use Rattle.std.specs.Prelude.{◌≡◌, ◌⊎◌, ◌↔◌, ℕ, Bool, true, false, List, [], ◌∷◌, length}
use Rattle.std.specs.Prelude.{Option, Some, None, slice_get}
use Rattle.pl_base.specs.declared.operator.Operator.TheVariants.{Compare}
use Rattle.pl_base.specs.declared.operator.Comparison.TheVariants as cmp
use Rattle.pl_base.specs.declared.types.Ty.{Ty}
use Rattle.pl_base.specs.declared.types.Ty.TheVariants as ty
use Rattle.pl_base.specs.declared.value.Value.{Value}
use Rattle.pl_base.specs.declared.value.Value.TheVariants.{Null, Int, Big, Text, Bool as Truth}
use Rattle.pl_catalog.specs.declared.object.Column.{Column}
use Rattle.pl_catalog.specs.declared.object.TableDef.{TableDef}
use Rattle.pl_journal.specs.declared.by_key.Candidates.{Candidates}
use Rattle.pl_journal.specs.declared.by_key.Candidates.TheVariants.{All, Only}
use Rattle.pl_journal.specs.Sound.{IsSoundTable}
use Rattle.pl_resolved.specs.declared.expression.RExpr.{RExpr}
use Rattle.pl_resolved.specs.declared.expression.RExpr.TheVariants as e
use Rattle.pl_resolved.specs.declared.expression.RPair.{RPair, roll-RPair}
use Rattle.pl_tables.specs.Named.{Named, content_named, row_named}
use Rattle.pl_tables.specs.Rows.{Content, key_at}
use Rattle.pl_unique.specs.Key.{key_of}
use Rattle.pl_unique.specs.declared.key.Part.{Part}
use Rattle.pl_value.specs.Frames.{Frame, Row, cell}

-- ---- what a condition asks of the row behind these

-- an operand has this value whatever the row is: a constant, or a cell of the rows before it
abbrev pub IsFixed : Frame → RExpr → Value → Type 0
IsFixed around x v =
    (x ≡ e.Constant v)
    ⊎ ((row : ℕ) × (column : ℕ) × (x ≡ e.Place row column) × (cell around row column ≡ Some v))

abbrev pub operands : RExpr → RExpr → RPair
operands a b = roll-RPair (record { first = a; second = b })

-- the one operand is the row's column, and the other one has this value
abbrev pub IsCompared : Frame → ℕ → Value → RExpr → RExpr → Type 0
IsCompared around column v own other =
    (own ≡ e.Place (length around) column) × IsFixed around other v

-- so it is, whichever stands on the left
abbrev pub AreCompared : Frame → ℕ → Value → RExpr → RExpr → Type 0
AreCompared around column v a b = IsCompared around column v a b ⊎ IsCompared around column v b a

-- the row's column is equal to this value
pub record IsEquality (around : Frame) (column : ℕ) (v : Value) (x : RExpr) : Type 0 where
  pub first : RExpr
  pub second : RExpr
  pub compared : AreCompared around column v first second
  pub is : x ≡ e.Binary (Compare cmp.Equal) (operands first second)

-- values of this type can be compared with this one, which isn't null
abbrev pub compares : Ty → Value → Bool
compares ty.Int (Int z) = true
compares ty.Int (Big z) = true
compares ty.Big (Int z) = true
compares ty.Big (Big z) = true
compares ty.Text (Text t) = true
compares ty.Bool (Truth b) = true
compares type v = false

-- the equality neither fails nor is unknown; it may be unknown where it is the whole condition
pub record IsTest (is_whole : Bool) (around : Frame) (columns : List Column) (c : ℕ) (v : Value)
    (x : RExpr) : Type 0 where
  pub equality : IsEquality around c v x
  pub column : Column
  pub is : slice_get columns c ≡ Some column
  pub fits : compares column.ty v ≡ true
  pub known : is_whole ≡ false → column.is_not_null ≡ true

-- it is one of the equalities with which the parts of AND begin
abbrev pub Begins : Frame → List Column → ℕ → Value → List RExpr → Type 0
Begins around columns c v [] = ⊥
Begins around columns c v (x ∷ parts) =
    IsTest false around columns c v x
    ⊎ ((d : ℕ) × (u : Value) × IsTest false around columns d u x × Begins around columns c v parts)

-- the condition asks that this column is equal to this value, before it asks anything that may fail
abbrev pub Asks : Frame → List Column → RExpr → ℕ → Value → Type 0
Asks around columns x c v =
    IsTest true around columns c v x
    ⊎ ((parts : List RExpr) × (x ≡ e.And parts) × Begins around columns c v parts)

-- a value for each column, null where the condition asks for none
abbrev pub AreAsked : Frame → List Column → RExpr → Row → Type 0
AreAsked around columns x asked =
    (c : ℕ) (v : Value) → slice_get asked c ≡ Some v → (v ≡ Null) ⊎ Asks around columns x c v

-- ---- the rows that are left

-- what is asked for has a key, which the row of this id has alone, or none has
pub record IsByKey (asked : Row) (content : Content) (found : Option ℕ) : Type 0 where
  pub columns : List ℕ
  pub parts : List Part
  pub key : key_of columns asked ≡ Some parts
  pub only : (id : ℕ) → (found ≡ Some id) ↔ (key_at columns id content.rows ≡ Some parts)

abbrev pub AreByKey : Row → Content → Candidates → Type 0
AreByKey asked content All = Unit {0}
AreByKey asked content (Only found) = IsByKey asked content found

-- so has what the condition asks for
pub record IsOnly (table : TableDef) (content : Content) (around : Frame) (x : RExpr)
    (found : Option ℕ) : Type 0 where
  pub asked : Row
  pub asks : AreAsked around table.columns x asked
  pub by : IsByKey asked content found

abbrev pub AreLeft : TableDef → Content → Frame → RExpr → Candidates → Type 0
AreLeft table content around x All = Unit {0}
AreLeft table content around x (Only found) = IsOnly table content around x found

-- the table of this name keeps its rules, and the condition turns down its rows but for this one
pub record IsFound (name : List ℕ) (x : RExpr) (around : Frame) (ts : List Named)
    (found : Option ℕ) : Type 0 where
  pub table : TableDef
  pub content : Content
  pub is : content_named name ts ≡ Some content
  pub sound : IsSoundTable table content
  pub only : IsOnly table content around x found

abbrev pub AreFound : List ℕ → RExpr → Frame → List Named → Candidates → Type 0
AreFound name x around ts All = Unit {0}
AreFound name x around ts (Only found) = IsFound name x around ts found

-- WHERE turns down its rows but for this one; where it is left out, it turns down none
abbrev pub IsFoundFor : List ℕ → Option RExpr → Frame → List Named → Option ℕ → Type 0
IsFoundFor name None around ts found = ⊥
IsFoundFor name (Some x) around ts found = IsFound name x around ts found

-- the rows of the table of this name that a command with this WHERE has to visit
abbrev pub AreFoundFor : List ℕ → Option RExpr → Frame → List Named → Candidates → Type 0
AreFoundFor name condition around ts All = Unit {0}
AreFoundFor name condition around ts (Only found) = IsFoundFor name condition around ts found

-- the row that was found, if one was
abbrev pub row_found : List ℕ → Option ℕ → List Named → Option Row
row_found name None ts = None
row_found name (Some id) ts = row_named name id ts
