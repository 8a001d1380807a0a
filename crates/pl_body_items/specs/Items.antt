-- The items of a tree, in reading order: PostgreSQL manual, "PL/pgSQL", "Structure of PL/pgSQL" and
-- "Control Structures".
use Rattle.std.specs.Prelude.{List, [], ◌∷◌, ◌++◌, flat_map, Option, Some, None}
use Rattle.pl_bodies.specs.declared.statement.Block.{Block, fold-Block}
use Rattle.pl_bodies.specs.declared.statement.Body.{Body}
use Rattle.pl_bodies.specs.declared.statement.Caught.{Caught}
use Rattle.pl_bodies.specs.declared.statement.Statement.{Statement, fold-Statement}
use Rattle.pl_bodies.specs.declared.statement.StatementKind.TheOpen as l
use Rattle.pl_bodies.specs.declared.statement.StatementKind.TheOpen.{StatementKind-F, Block-F}
use Rattle.pl_bodies.specs.declared.statement.StatementKind.TheOpen.{Branch-F, CaseArm-F, Handler-F}
use Rattle.pl_bodies.specs.declared.statement.StatementKind.TheOpen.{Loop-F, Otherwise-F}
use Rattle.pl_bodies.specs.declared.statement.StatementKind.TheOpen.{Statement-F}
use Rattle.pl_tree.specs.declared.tree.Expr.{Expr}
use Rattle.pl_body_items.specs.declared.items.Item.{Item}
use Rattle.pl_body_items.specs.declared.items.Item.TheVariants as i
use Rattle.pl_body_items.specs.declared.items.Spot.{Spot}
use Rattle.pl_body_items.specs.declared.items.Word.TheVariants as w

-- an item that a tree has
pub data Said : Type 0 where
  item : Item → Said
  -- nothing spells it
  nothing : Said

-- what the item of a part has beside its statements, and the items of these
abbrev pub Parted : Type 0 → Type 0
Parted A = A × List Said

-- parts, where the item of the first is another than that of the others
abbrev pub parted : {A : Type 0} → (A → Item) → (A → Item) → List (Parted A) → List Said
parted first more [] = []
parted first more (p ∷ ps) = item (first p.0) ∷ p.1 ++ parted more more ps

-- parts, of which there is at least one
abbrev pub some_parted : {A : Type 0} → (A → Item) → (A → Item) → List (Parted A) → List Said
some_parted first more [] = nothing ∷ []
some_parted first more (p ∷ ps) = parted first more (p ∷ ps)

abbrev pub else_said : Option (List Said) → List Said
else_said None = []
else_said (Some statements) = item (i.Word w.Else) ∷ statements

-- ---- one level of each tree, over the items of its parts

abbrev pub Placed : Type 0
Placed = Spot → List Said

abbrev pub Kinds : Type 1
Kinds = Type 0 → Type 0 → Type 0 → Type 0 → Type 0 → Type 0 → Type 0 → Type 0 → Type 0

-- statements' kinds, blocks, branches, arms, handlers, loops, ELSE, statements
abbrev pub Over : Kinds → Type 0
Over F =
    F Placed Placed (Parted Expr) (Parted (List Expr)) (Parted (List Caught)) Placed (List Said)
    (List Said)

abbrev pub kind_step : Over StatementKind-F → Placed
kind_step (l.Block block) spot = block spot
kind_step (l.If branches otherwise) spot =
    some_parted (i.If spot) i.Elsif branches ++ else_said otherwise ++ item (i.Word w.EndIf) ∷ []
kind_step (l.Case operand arms otherwise) spot =
    some_parted (i.Case spot operand) i.Arm arms ++ else_said otherwise ++ item (i.Word w.EndCase)
    ∷ []
kind_step (l.Loop inner) spot = inner spot
kind_step (l.Simple simple) spot = item (i.Simple spot simple) ∷ []

abbrev pub all_said : List (List Said) → List Said
all_said rows = flat_map (λ row. row) rows

abbrev pub block_step : Over Block-F → Placed
block_step b spot =
    item (i.Block spot b.label b.declarations) ∷ all_said b.statements
    ++ parted i.Exception i.Handler b.handlers ++ item (i.Word (w.End b.end_label)) ∷ []

abbrev pub branch_step : Over Branch-F → Parted Expr
branch_step b = (b.condition, all_said b.statements)

abbrev pub arm_step : Over CaseArm-F → Parted (List Expr)
arm_step a = (a.values, all_said a.statements)

abbrev pub handler_step : Over Handler-F → Parted (List Caught)
handler_step h = (h.conditions, all_said h.statements)

abbrev pub loop_step : Over Loop-F → Placed
loop_step x spot =
    item (i.Loop spot x.label x.head) ∷ all_said x.statements ++ item
    (i.Word (w.EndLoop x.end_label)) ∷ []

abbrev pub otherwise_step : Over Otherwise-F → List Said
otherwise_step o = all_said o.statements

abbrev pub statement_step : Over Statement-F → List Said
statement_step s = s.kind (record { line = s.line; ordinal = s.ordinal })

-- ---- whole trees

unfoldable pub statement_said : Statement → List Said
statement_said =
    fold-Statement Placed Placed (Parted Expr) (Parted (List Expr)) (Parted (List Caught)) Placed
    (List Said) (List Said)
    kind_step block_step branch_step arm_step handler_step loop_step otherwise_step statement_step

unfoldable pub block_said : Block → Placed
block_said =
    fold-Block Placed Placed (Parted Expr) (Parted (List Expr)) (Parted (List Caught)) Placed
    (List Said) (List Said)
    kind_step block_step branch_step arm_step handler_step loop_step otherwise_step statement_step

-- the outermost block has no ordinal
abbrev pub body_said : Body → List Said
body_said body = block_said body.block (record { line = body.line; ordinal = 0 })
