-- What it is to have a value directly: what resolution makes of the tree, and that it has the value,
-- without either being built.
use Rattle.std.specs.Prelude.{◌≡◌, Bool, List, [], ◌∷◌, Ok}
use Rattle.pl_base.specs.declared.types.Ty.{Ty}
use Rattle.pl_base.specs.declared.value.Value.{Value}
use Rattle.pl_catalog.specs.declared.object.Object.{Object}
use Rattle.pl_direct.specs.Known.{NullIs, type_of, value_of}
use Rattle.pl_direct.specs.declared.known.Known.{Known}
use Rattle.pl_names.specs.Names.{Around, Name}
use Rattle.pl_names.specs.declared.scope.Scope.{Scope}
use Rattle.pl_resolved.specs.declared.expression.RExpr.{RExpr}
use Rattle.pl_scope.specs.Answers.{got}
use Rattle.pl_scope.specs.Parts.{Part}
use Rattle.pl_scope.specs.Resolution.{part, resolved_expr}
use Rattle.pl_scope.specs.declared.made.Made.{Made}
use Rattle.pl_scope.specs.declared.resolve.ResolvedExpr.{ResolvedExpr}
use Rattle.pl_tree.specs.declared.tree.Expr.{Expr}
use Rattle.pl_typing.specs.Typing.{headed}
use Rattle.pl_value.specs.Frames.{Row}
use Rattle.pl_value.specs.Meaning.{Calls, Sub, value}
use Rattle.pl_value.specs.Reading as reading

-- the tree has this value over the row of variables, whatever makes calls and runs queries
abbrev pub Valued : Type 0 → RExpr → Row → Value → Type 0
Valued W tree row v =
    (calls : Calls W) (sub : Sub W) (w : W) → value calls sub tree (row ∷ []) w ≡ reading.got v w

-- The expression is resolved to a tree of the value's type, which has the value, and there is no
-- query inside it.
pub record Directly (W : Type 0) (objects : List Object) (scope : Scope) (e : Expr) (row : Row)
    (k : Known) : Type 0 where
  pub expr : ResolvedExpr
  pub resolves : resolved_expr objects scope e ≡ Ok expr
  pub is_type : expr.typed.ty ≡ type_of k
  pub no_queries : expr.queries ≡ []
  pub is_value : Valued W expr.typed.tree row (value_of k)

-- the same of a part where it stands; it makes nothing but its tree
pub record Means (W : Type 0) (p : Part) (a : Around) (row : Row) (ty : Ty) (v : Value) : Type 0
  where
    pub tree : RExpr
    pub head : Name
    pub resolves : (made : Made) → p.means a made ≡ got (headed tree ty head) made
    pub is_value : Valued W tree row v

abbrev pub Is : Type 0 → Expr → Around → Row → Known → Type 0
Is W e a row k = Means W (part e) a row (type_of k) (value_of k)

-- the part has a value of which IS NULL says this
pub record Nullness (W : Type 0) (e : Expr) (a : Around) (row : Row) (is : Bool) : Type 0 where
  pub ty : Ty
  pub v : Value
  pub means : Means W (part e) a row ty v
  pub says : NullIs v is
