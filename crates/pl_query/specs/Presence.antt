-- How the code asks whether a query has a row of its only table; no definition.
use Rattle.std.specs.Prelude.{◌≡◌, ℕ, Bool, List, [], ◌∷◌, Some, None}
use Rattle.pl_base.specs.declared.value.Value.{Value}
use Rattle.pl_query.specs.Few.{IsOnly}
use Rattle.pl_query.specs.Query.{query}
use Rattle.pl_query.specs.Sources.{Tables, alone, frames}
use Rattle.pl_query.specs.declared.presence.Bare.{Bare}
use Rattle.pl_resolved.specs.declared.expression.RExpr.{RExpr}
use Rattle.pl_resolved.specs.declared.query.RQuery.{RQuery}
use Rattle.pl_value.specs.Frames.{Frame}
use Rattle.pl_value.specs.Meaning.{Calls, Sub, is_some, passes, value}
use Rattle.pl_value.specs.Reading.{got, then_read}

-- the rows are those of the only item of FROM, the condition is WHERE, and there are no groups, and
-- neither OFFSET nor LIMIT
pub record IsBare (tables : Tables) (q : RQuery) (b : Bare) : Type 0 where
  pub name : List ℕ
  pub only : IsOnly q.from name
  pub rows : b.bundles.now ≡ frames (alone (tables name))
  pub where_is : q.condition ≡ Some b.condition.now
  pub items : q.items ≡ b.items.now
  pub groups : q.groups ≡ None
  pub offset : q.offset ≡ None
  pub limit : q.limit ≡ None

-- an expression has a value over these rows, whatever calls of routines and the queries inside give
abbrev pub IsRead : Type 0 → RExpr → Frame → Type 0
IsRead W x frame =
    (v : Value) × ((calls : Calls W) (sub : Sub W) (w : W) → value calls sub x frame w ≡ got v w)

-- each of them has
abbrev pub AreRead : Type 0 → List RExpr → Frame → Type 0
AreRead W [] frame = Unit {0}
AreRead W (x ∷ xs) frame = IsRead W x frame × AreRead W xs frame

-- the condition passes or doesn't, and the values of the select list are read
pub record PassesAs (W : Type 0) (b : Bare) (frame : Frame) (is : Bool) : Type 0 where
  pub condition : (calls : Calls W) (sub : Sub W) (w : W)
      → passes (value calls sub b.condition.now) frame w ≡ got is w
  pub items : AreRead W b.items.now frame

-- the query has a row or not
abbrev pub HasRow : Type 0 → Tables → RQuery → Frame → Bool → Type 0
HasRow W tables q outer b =
    (calls : Calls W) (sub : Sub W) (w : W)
    → then_read (query calls sub tables q outer w) (λ rows w. got (is_some rows) w) ≡ got b w
