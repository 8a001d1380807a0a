-- What acts stand for which statements, over objects and what names mean.
use Rattle.std.specs.Prelude.{◌≡◌, ℕ, zero, suc, Bool, true, false, List, [], ◌∷◌, Option, Some}
use Rattle.std.specs.Prelude.{None, Ok, length, nat_lt}
use Rattle.pl_base.specs.declared.types.Ty.{Ty}
use Rattle.pl_bodies.specs.declared.simple.Simple.TheVariants as simple
use Rattle.pl_bodies.specs.declared.simple.Target.{Target}
use Rattle.pl_bodies.specs.declared.statement.Block.{out-Block}
use Rattle.pl_bodies.specs.declared.statement.Branch.{Branch, out-Branch}
use Rattle.pl_bodies.specs.declared.statement.Otherwise.{Otherwise}
use Rattle.pl_bodies.specs.declared.statement.Statement.{Statement, out-Statement}
use Rattle.pl_bodies.specs.declared.statement.StatementKind.{out-StatementKind}
use Rattle.pl_bodies.specs.declared.statement.StatementKind.TheOpen as kind
use Rattle.pl_catalog.specs.Objects.{routine_named, routines_in}
use Rattle.pl_catalog.specs.declared.object.Object.{Object}
use Rattle.pl_catalog.specs.declared.object.Routine.{Routine}
use Rattle.pl_direct.specs.pl_scope.declared.resolve.ResolvedExpr.{ResolvedExpr}
use Rattle.pl_engine.specs.pl_world.Calls.{is_called_by, most_calls, result_type}
use Rattle.pl_engine.specs.pl_world.Control.{else_of}
use Rattle.pl_engine.specs.pl_world.Resolving.{aiming, giving, reading}
use Rattle.pl_engine.specs.pl_world.Statements.{Layer}
use Rattle.pl_engine.specs.pl_world.Variables.{entering, opening}
use Rattle.pl_engine.specs.pl_world.World.{Static, World}
use Rattle.pl_names.specs.Names.{Name}
use Rattle.pl_quick.specs.declared.act.Act.{Act, out-Act}
use Rattle.pl_quick.specs.declared.act.Act.TheOpen.{Act-F}
use Rattle.pl_quick.specs.declared.act.Act.TheOpen as act
use Rattle.pl_quick.specs.declared.act.Arm.{Arm, out-Arm}
use Rattle.pl_quick.specs.declared.act.Assign.{Assign}
use Rattle.pl_quick.specs.declared.callees.Callee.{Callee}
use Rattle.pl_quick.specs.declared.making.Place.{Place}
use Rattle.pl_quick.specs.declared.quick.Plan.{Plan}
use Rattle.pl_quick.specs.declared.quick.Plan.TheVariants as plan
use Rattle.pl_quick.specs.declared.quick.Quick.{Quick}
use Rattle.pl_quick.specs.declared.turning.Round.{Round}
use Rattle.pl_resolved.specs.declared.expression.RExpr.{RExpr}
use Rattle.pl_resolved.specs.declared.expression.RExpr.TheVariants as expr
use Rattle.pl_tree.specs.declared.tree.Expr.{Expr}

-- each of the one list belongs to the one that stands at its place in the other
abbrev pub Pairwise : {A B : Type 0} → (A → B → Type 0) → List A → List B → Type 0
Pairwise R [] [] = Unit {0}
Pairwise R [] (y ∷ ys) = ⊥
Pairwise R (x ∷ xs) [] = ⊥
Pairwise R (x ∷ xs) (y ∷ ys) = R x y × Pairwise R xs ys

-- one level of an act
abbrev pub ActLayer : Type 0
ActLayer = Act-F Act Arm

-- ---- routines that are called

-- the body is one block, which neither declares nor catches, of a function that takes so many values
pub record IsPlain (r : Routine) (count : ℕ) : Type 0 where
  pub is_function : is_called_by false r.heading.kind ≡ true
  pub takes : length r.heading.params ≡ count
  pub no_declarations : (out-Block r.body.block).declarations ≡ []
  pub no_handlers : (out-Block r.body.block).handlers ≡ []

-- what names mean in its block, where it has a result of this type
abbrev pub names_inside : Routine → Ty → Static
names_inside r ty =
    opening (out-Block r.body.block).label (entering r.name r.heading.params (Some ty))

-- what of a function is held whose result has this type
abbrev pub IsHeld : Callee → Routine → Ty → Type 0
IsHeld c r ty = (c.ty ≡ ty) × (c.declared ≡ names_inside r ty) × (c.body ≡ r.body)

-- such a function, as the code holds it
pub record IsCallee (c : Callee) (r : Routine) (count : ℕ) : Type 0 where
  pub plain : IsPlain r count
  pub gives : result_type r.heading.result ≡ Some c.ty
  pub names : c.declared ≡ names_inside r c.ty
  pub body : c.body ≡ r.body

module _ (objects : List Object) where
  -- the whole of the expression is a call of such a function, which so many calls below the newest
  -- one leave room for; its result, what names mean in its block, and the statements there
  pub record Calls (below : ℕ) (x : ResolvedExpr) (ty : Ty) (inside : Static)
      (ss : List Statement) : Type 0 where
    pub name : Name
    pub arguments : List RExpr
    pub is_call : x.typed.tree ≡ expr.Call name arguments
    pub routine : Routine
    pub found : routine_named name (routines_in objects) ≡ Some routine
    pub plain : IsPlain routine (length arguments)
    pub room : nat_lt below most_calls ≡ true
    pub gives : result_type routine.heading.result ≡ Some ty
    pub names : inside ≡ names_inside routine ty
    pub statements : ss ≡ (out-Block routine.body.block).statements

module _ (objects : List Object) (st : Static) where
  -- the expression is resolved to this
  abbrev pub Read : ResolvedExpr → Expr → Type 0
  Read x e = reading e objects st ≡ Ok x

  abbrev pub ReadIf : Option ResolvedExpr → Option Expr → Type 0
  ReadIf None None = Unit {0}
  ReadIf None (Some e) = ⊥
  ReadIf (Some x) None = ⊥
  ReadIf (Some x) (Some e) = Read x e

  -- the target is this variable, and the value is resolved to this
  pub record Assigns (a : Assign) (t : Target) (e : Expr) : Type 0 where
    pub is_required : Bool
    pub aims : aiming t objects st
        ≡ Ok (record { at = a.column; ty = a.ty; is_required = is_required })
    pub reads : Read a.value e

  -- a value is due, and is resolved to this
  abbrev pub Returns : ResolvedExpr → Expr → Type 0
  Returns x e = giving e objects st ≡ Ok x

module _ (objects : List Object) where
  -- over acts and statements where so many calls run below the newest one, and names mean this
  module _ (R : ℕ → Static → Act → Statement → Type 0) (below : ℕ) (st : Static) where
    -- the condition is resolved to this, and the statements do what the acts do
    abbrev pub IsForBranch : Arm → Branch → Type 0
    IsForBranch a b =
        Read objects st (out-Arm a).condition (out-Branch b).condition
        × Pairwise (R below st) (out-Arm a).acts (out-Branch b).statements

    -- the act is what a statement of this form does
    abbrev pub IsForKind : ActLayer → Layer → Type 0
    IsForKind act.Nothing k = k ≡ kind.Simple simple.Null
    IsForKind (act.Assign a) k =
        (t : Target) × (e : Expr) × (k ≡ kind.Simple (simple.Assign t e)) × Assigns objects st a t e
    IsForKind (act.Jump j x) k =
        (e : Option Expr) × (k ≡ kind.Simple (simple.Jump j None e)) × ReadIf objects st x e
    IsForKind (act.Choose arms acts) k =
        (bs : List Branch) × (o : Option Otherwise) × (k ≡ kind.If bs o)
        × Pairwise IsForBranch arms bs × Pairwise (R below st) acts (else_of o)
    IsForKind (act.Call a ty acts) k =
        (t : Target) × (e : Expr) × (inside : Static) × (ss : List Statement)
        × (k ≡ kind.Simple (simple.Assign t e)) × Assigns objects st a t e
        × Calls objects below a.value ty inside ss × Pairwise (R (suc below) inside) acts ss
    IsForKind (act.Return x) k =
        (e : Expr) × (k ≡ kind.Simple (simple.Return (Some e))) × Returns objects st x e

  -- The act is what the statement does. The first number bounds how deep statements stand in
  -- statements and in routines that are called.
  abbrev pub IsFor : ℕ → ℕ → Static → Act → Statement → Type 0
  IsFor zero below st a s = ⊥
  IsFor (suc n) below st a s =
      IsForKind (IsFor n) below st (out-Act a) (out-StatementKind (out-Statement s).kind)

  -- ---- plans

  module _ (below : ℕ) (st : Static) where
    -- the condition is resolved to this, and the acts are what the statements do
    abbrev pub RoundStands : Round → Option Expr → List Statement → Type 0
    RoundStands r condition body =
        ReadIf objects st r.condition condition
        × ((n : ℕ) × Pairwise (IsFor n below st) r.acts body)

    -- what is planned is what the rounds of a loop do
    abbrev pub PlanStands : Plan → Option Expr → List Statement → Type 0
    PlanStands (plan.Waiting turns) condition body = Unit {0}
    PlanStands (plan.Made r) condition body = RoundStands r condition body
    PlanStands plan.GivenUp condition body = Unit {0}

-- ---- in a world

-- an act is what a statement does
abbrev pub IsForOne : ℕ → Act → Statement → World → Type 0
IsForOne n a s w = IsFor w.database.objects n (length w.below) w.frame.static a s

-- what it does behind its step
abbrev pub IsForLayer : ℕ → ActLayer → Layer → World → Type 0
IsForLayer n y k w =
    IsForKind w.database.objects (IsFor w.database.objects n) (length w.below) w.frame.static y k

abbrev pub IsForForm : ℕ → Act → Layer → World → Type 0
IsForForm n a k w = IsForLayer n (out-Act a) k w

-- acts are what statements do
abbrev pub AreFor : ℕ → List Act → List Statement → World → Type 0
AreFor n acts ss w =
    Pairwise (IsFor w.database.objects n (length w.below) w.frame.static) acts ss

-- an arm is what IF or ELSIF does
abbrev pub IsForArm : ℕ → Arm → Branch → World → Type 0
IsForArm n a b w =
    IsForBranch w.database.objects (IsFor w.database.objects n) (length w.below) w.frame.static a b

-- arms are what IF and each ELSIF do
abbrev pub AreForBranches : ℕ → List Arm → List Branch → World → Type 0
AreForBranches n arms bs w =
    Pairwise (IsForBranch w.database.objects (IsFor w.database.objects n) (length w.below)
    w.frame.static) arms bs

-- the whole of the expression is a call of this function
pub record CanBeCalled (c : Callee) (x : ResolvedExpr) (w : World) : Type 0 where
  pub name : Name
  pub arguments : List RExpr
  pub is_call : x.typed.tree ≡ expr.Call name arguments
  pub routine : Routine
  pub found : routine_named name (routines_in w.database.objects) ≡ Some routine
  pub callee : IsCallee c routine (length arguments)
  pub room : nat_lt (length w.below) most_calls ≡ true

-- acts are what the statements of a function do that is called
abbrev pub AreWithin : ℕ → List Act → Callee → World → Type 0
AreWithin n acts c w =
    Pairwise (IsFor w.database.objects n (suc (length w.below)) c.declared) acts
    (out-Block c.body.block).statements

-- a value is what an assignment gives, and where
abbrev pub IsGiven : Assign → Target → Expr → World → Type 0
IsGiven a t e w = Assigns w.database.objects w.frame.static a t e

-- the expression, or the condition if there is one, is resolved to this
abbrev pub IsRead : ResolvedExpr → Expr → World → Type 0
IsRead x e w = Read w.database.objects w.frame.static x e

abbrev pub IsReadIf : Option ResolvedExpr → Option Expr → World → Type 0
IsReadIf x e w = ReadIf w.database.objects w.frame.static x e

-- a value is due, and is resolved to this
abbrev pub IsReturned : ResolvedExpr → Expr → World → Type 0
IsReturned x e w = Returns w.database.objects w.frame.static x e

-- the target names the variable of this place
abbrev pub IsPlace : Place → Target → World → Type 0
IsPlace p t w =
    (is_required : Bool) × (aiming t w.database.objects w.frame.static
    ≡ Ok (record { at = p.column; ty = p.ty; is_required = is_required }))

-- what a loop's rounds do, of this condition and body
abbrev pub RoundFits : Round → Option Expr → List Statement → World → Type 0
RoundFits r condition body w =
    RoundStands w.database.objects (length w.below) w.frame.static r condition body

abbrev pub PlanFits : Plan → Option Expr → List Statement → World → Type 0
PlanFits p condition body w =
    PlanStands w.database.objects (length w.below) w.frame.static p condition body

abbrev pub Suits : Quick → Option Expr → List Statement → World → Type 0
Suits q condition body w = PlanFits q.plan condition body w
