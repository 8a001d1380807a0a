-- Acts that are made, one after another, and what they stand for.
use Rattle.std.proofs.Common.{◌≡◌, ◌∙◌, ℕ, suc, List, [], ◌∷◌, ◌++◌, Option, None, Some, ap, append_assoc, append-nil, arith, refl, rules, subst, sym}
use Rattle.pl_bodies.specs.declared.simple.Jump.{Jump}
use Rattle.pl_bodies.specs.declared.simple.Simple.{Simple}
use Rattle.pl_bodies.specs.declared.simple.Simple.TheVariants as simple
use Rattle.pl_bodies.specs.declared.simple.Target.{Target}
use Rattle.pl_bodies.specs.declared.statement.Block.{out-Block}
use Rattle.pl_bodies.specs.declared.statement.Body.{Body}
use Rattle.pl_bodies.specs.declared.statement.Branch.{Branch}
use Rattle.pl_bodies.specs.declared.statement.Otherwise.{Otherwise}
use Rattle.pl_bodies.specs.declared.statement.Statement.{Statement, out-Statement}
use Rattle.pl_bodies.specs.declared.statement.StatementKind.{StatementKind, out-StatementKind, the_lemmas as kind_lemmas}
use Rattle.pl_bodies.specs.declared.statement.StatementKind.TheOpen as kind
use Rattle.pl_bodies.specs.declared.statement.StatementKind.TheVariants as variant
use Rattle.pl_direct.specs.pl_scope.declared.resolve.ResolvedExpr.{ResolvedExpr}
use Rattle.pl_engine.specs.pl_world.Control.{else_of}
use Rattle.pl_engine.specs.pl_world.Statements.{Layer}
use Rattle.pl_engine.specs.pl_world.World.{World}
use Rattle.pl_quick.proofs.Forms.{assign_layer, assign_out, call_layer, call_out, choose_layer, choose_out, jump_layer, jump_out, nothing_layer, nothing_out, return_layer, return_out}
use Rattle.pl_quick.specs.Acts.{ActLayer, AreFor, AreForBranches, AreWithin, CanBeCalled, IsForForm, IsForLayer, IsForOne, IsGiven, IsReadIf, IsReturned, Pairwise}
use Rattle.pl_quick.specs.declared.act.Act.{Act, out-Act}
use Rattle.pl_quick.specs.declared.act.Act.TheVariants as act
use Rattle.pl_quick.specs.declared.act.Arm.{Arm}
use Rattle.pl_quick.specs.declared.act.Assign.{Assign}
use Rattle.pl_quick.specs.declared.callees.Callee.{Callee}
use Rattle.pl_tree.specs.declared.tree.Expr.{Expr}

-- ---- lists

module _ {A B : Type 0} (R : A → B → Type 0) where
  -- what belongs to the others makes the whole belong
  abbrev pub PairedBy : List A → (all left : List B) → Type 0
  PairedBy done all left = (more : List A) → Pairwise R more left → Pairwise R (done ++ more) all

  pub none_paired : (done : List A) (all : List B) → done ≡ [] → PairedBy done all all
  none_paired done all none more stand = subst (λ (xs : List A). Pairwise R (xs ++ more) all) (sym none) stand

  pub one_paired : (done : List A) (a : A) (next : List A) (all left : List B) (b : B) (rest : List B) → PairedBy done all left → left ≡ b ∷ rest → R a b → next ≡ done ++ a ∷ [] → PairedBy next all rest
  one_paired done a next all left b rest so_far is one same more stand =
      subst (λ (xs : List A). Pairwise R xs all) (sym (ap (λ (xs : List A). xs ++ more) same ∙ append_assoc done (a ∷ []) more))
      (so_far (a ∷ more) (subst (λ (ys : List B). Pairwise R (a ∷ more) ys) (sym is) (one, stand)))

  pub all_paired : (done : List A) (all left : List B) → PairedBy done all left → left ≡ [] → Pairwise R done all
  all_paired done all left so_far none =
      subst (λ (xs : List A). Pairwise R xs all) (append-nil done) (so_far [] (subst (λ (ys : List B). Pairwise R [] ys) (sym none) tt))

-- ---- forms

abbrev kind_of : Simple → Layer
kind_of s = kind.Simple s

module _ (n : ℕ) (w : World) where
  closed : (a : Act) (y : ActLayer) (k : Layer) → out-Act a ≡ y → IsForLayer n y k w → IsForForm n a k w
  closed a y k is stands = subst (λ (y : ActLayer). IsForLayer n y k w) (sym is) stands

  pub null_for : (s : Simple) → s ≡ simple.Null → IsForForm n act.Nothing (kind.Simple s) w
  null_for s is = closed act.Nothing nothing_layer (kind.Simple s) nothing_out (ap kind_of is)

  pub assign_for : (a : Assign) (t : Target) (e : Expr) → IsGiven a t e w → IsForForm n (act.Assign a) (kind.Simple (simple.Assign t e)) w
  assign_for a t e given = closed (act.Assign a) (assign_layer a) (kind.Simple (simple.Assign t e)) (assign_out a) (t, e, refl, given)

  pub jump_for : (j : Jump) (x : Option ResolvedExpr) (e : Option Expr) → IsReadIf x e w → IsForForm n (act.Jump j x) (kind.Simple (simple.Jump j None e)) w
  jump_for j x e read = closed (act.Jump j x) (jump_layer j x) (kind.Simple (simple.Jump j None e)) (jump_out j x) (e, refl, read)

  pub return_for : (x : ResolvedExpr) (e : Expr) → IsReturned x e w → IsForForm n (act.Return x) (kind.Simple (simple.Return (Some e))) w
  return_for x e gives = closed (act.Return x) (return_layer x) (kind.Simple (simple.Return (Some e))) (return_out x) (e, refl, gives)

  -- the statements are those of the function that is called
  pub call_for : (a : Assign) (c : Callee) (acts : List Act) (t : Target) (e : Expr) → IsGiven a t e w → CanBeCalled c a.value w → AreWithin n acts c w → IsForForm n (act.Call a c.ty acts) (kind.Simple (simple.Assign t e)) w
  call_for a c acts t e given can within =
      closed (act.Call a c.ty acts) (call_layer a c.ty acts) (kind.Simple (simple.Assign t e)) (call_out a c.ty acts) (
        t,
        e,
        c.declared,
        (out-Block c.body.block).statements,
        refl,
        given,
        record {
          name = can.name;
          arguments = can.arguments;
          is_call = can.is_call;
          routine = can.routine;
          found = can.found;
          plain = can.callee.plain;
          room = can.room;
          gives = can.callee.gives;
          names = can.callee.names;
          statements = ap (λ (b : Body). (out-Block b.block).statements) can.callee.body;
        },
        within,
      )

  pub choice_for : (arms : List Arm) (acts : List Act) (bs : List Branch) (o : Option Otherwise) → AreForBranches n arms bs w → AreFor n acts (else_of o) w → IsForForm n (act.Choose arms acts) (kind.If bs o) w
  choice_for arms acts bs o some others = closed (act.Choose arms acts) (choose_layer arms acts) (kind.If bs o) (choose_out arms acts) (bs, o, refl, some, others)

-- ---- statements

abbrev pub simple_layer : Simple → Layer
simple_layer s = kind.Simple s

abbrev pub if_layer : List Branch → Option Otherwise → Layer
if_layer bs o = kind.If bs o

simple_out : (s : Simple) → out-StatementKind (variant.Simple s) ≡ simple_layer s
simple_out s = first_of (search (rules, kind_lemmas), grind (arith, kind_lemmas))

if_out : (bs : List Branch) (o : Option Otherwise) → out-StatementKind (variant.If bs o) ≡ if_layer bs o
if_out bs o = first_of (search (rules, kind_lemmas), grind (arith, kind_lemmas))

one_for : (n depth : ℕ) (a : Act) (s : Statement) (k : Layer) (w : World) → depth ≡ suc n → out-StatementKind (out-Statement s).kind ≡ k → IsForForm n a k w → IsForOne depth a s w
one_for n depth a s k w more is stands =
    subst (λ (d : ℕ). IsForOne d a s w) (sym more) (subst (λ (k : Layer). IsForForm n a k w) (sym is) stands)

pub simple_for : (n depth : ℕ) (a : Act) (s : Statement) (x x' : Simple) (w : World) → depth ≡ suc n → (out-Statement s).kind ≡ variant.Simple x → x' ≡ x → IsForForm n a (kind.Simple x') w → IsForOne depth a s w
simple_for n depth a s x x' w more is same stands =
    one_for n depth a s (simple_layer x') w more (ap (λ (k : StatementKind). out-StatementKind k) is ∙ (simple_out x ∙ ap (λ (x : Simple). simple_layer x) (sym same))) stands

pub if_for : (n depth : ℕ) (a : Act) (s : Statement) (bs bs' : List Branch) (o o' : Option Otherwise) (w : World) → depth ≡ suc n → (out-Statement s).kind ≡ variant.If bs o → bs' ≡ bs → o' ≡ o → IsForForm n a (kind.If bs' o') w → IsForOne depth a s w
if_for n depth a s bs bs' o o' w more is same-bs same-o stands =
    one_for n depth a s (if_layer bs' o') w more
    (ap (λ (k : StatementKind). out-StatementKind k) is ∙ (if_out bs o ∙ (ap (λ (bs : List Branch). if_layer bs o) (sym same-bs) ∙ ap (λ (o : Option Otherwise). if_layer bs' o) (sym same-o)))) stands

-- EXIT or CONTINUE without a label
pub jump_of : (n : ℕ) (w : World) (a : Act) (j : Jump) (e e' : Option Expr) (s : Simple) → s ≡ simple.Jump j None e → e' ≡ e → IsForForm n a (kind.Simple (simple.Jump j None e')) w → IsForForm n a (kind.Simple s) w
jump_of n w a j e e' s is same stands =
    subst (λ (s : Simple). IsForForm n a (kind.Simple s) w) (sym is) (subst (λ (e : Option Expr). IsForForm n a (kind.Simple (simple.Jump j None e)) w) same stands)

pub assign_of : (n : ℕ) (w : World) (a : Act) (t t' : Target) (e e' : Expr) (s : Simple) → s ≡ simple.Assign t e → t' ≡ t → e' ≡ e → IsForForm n a (kind.Simple (simple.Assign t' e')) w → IsForForm n a (kind.Simple s) w
assign_of n w a t t' e e' s is same-t same-e stands =
    subst (λ (s : Simple). IsForForm n a (kind.Simple s) w) (sym is)
    (subst (λ (t : Target). IsForForm n a (kind.Simple (simple.Assign t e)) w) same-t (subst (λ (e : Expr). IsForForm n a (kind.Simple (simple.Assign t' e)) w) same-e stands))

-- RETURN with a value
pub return_of : (n : ℕ) (w : World) (a : Act) (e e' : Expr) (s : Simple) → s ≡ simple.Return (Some e) → e' ≡ e → IsForForm n a (kind.Simple (simple.Return (Some e'))) w → IsForForm n a (kind.Simple s) w
return_of n w a e e' s is same stands =
    subst (λ (s : Simple). IsForForm n a (kind.Simple s) w) (sym is) (subst (λ (e : Expr). IsForForm n a (kind.Simple (simple.Return (Some e))) w) same stands)
