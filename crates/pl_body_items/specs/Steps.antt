-- What the parts that are open become with one item more, computed. These serve the reader alone:
-- `one_tree` proves what they make.
use Rattle.std.specs.Prelude.{ℕ, zero, Bool, true, false, List, [], ◌∷◌, ◌++◌, Option, Some, None}
use Rattle.pl_bodies.specs.declared.declaration.Declaration.{Declaration}
use Rattle.pl_bodies.specs.declared.statement.Block.{Block, roll-Block}
use Rattle.pl_bodies.specs.declared.statement.Body.{Body}
use Rattle.pl_bodies.specs.declared.statement.Branch.{Branch, roll-Branch}
use Rattle.pl_bodies.specs.declared.statement.CaseArm.{CaseArm, roll-CaseArm}
use Rattle.pl_bodies.specs.declared.statement.Caught.{Caught}
use Rattle.pl_bodies.specs.declared.statement.Handler.{Handler, roll-Handler}
use Rattle.pl_bodies.specs.declared.statement.Loop.{Loop, roll-Loop}
use Rattle.pl_bodies.specs.declared.statement.LoopHead.{LoopHead}
use Rattle.pl_bodies.specs.declared.statement.Otherwise.{Otherwise, roll-Otherwise}
use Rattle.pl_bodies.specs.declared.statement.Statement.{Statement, roll-Statement, out-Statement}
use Rattle.pl_bodies.specs.declared.statement.StatementKind.TheOpen as l
use Rattle.pl_bodies.specs.declared.statement.StatementKind.TheVariants as k
use Rattle.pl_bodies.specs.declared.statement.StatementKind.{StatementKind, out-StatementKind}
use Rattle.pl_bodies.specs.Layers.{StatementKindLayer}
use Rattle.pl_tree.specs.declared.tree.Expr.{Expr}
use Rattle.pl_body_items.specs.declared.items.Item.{Item}
use Rattle.pl_body_items.specs.declared.items.Item.TheVariants as i
use Rattle.pl_body_items.specs.declared.items.Spot.{Spot}
use Rattle.pl_body_items.specs.declared.items.Word.TheVariants as w
use Rattle.pl_body_items.specs.declared.items.Word.{Word}
use Rattle.pl_body_items.specs.declared.making.Making.{Making}
use Rattle.pl_body_items.specs.declared.parts.Open.{Open}
use Rattle.pl_body_items.specs.declared.parts.Section.{Section}
use Rattle.pl_body_items.specs.declared.parts.Section.TheVariants as s

-- ---- trees of their parts

abbrev pub branch_of : Expr → List Statement → Branch
branch_of e ss = roll-Branch (record { condition = e; statements = ss })

abbrev pub arm_of : List Expr → List Statement → CaseArm
arm_of vs ss = roll-CaseArm (record { values = vs; statements = ss })

abbrev pub handler_of : List Caught → List Statement → Handler
handler_of cs ss = roll-Handler (record { conditions = cs; statements = ss })

abbrev pub otherwise_of : List Statement → Otherwise
otherwise_of ss = roll-Otherwise (record { statements = ss })

abbrev pub loop_of : Option (List ℕ) → LoopHead → List Statement → Option (List ℕ) → Loop
loop_of label head ss end_label =
    roll-Loop (record { label = label; head = head; statements = ss; end_label = end_label })

abbrev pub block_of : Option (List ℕ) → List Declaration → List Statement → List Handler
    → Option (List ℕ) → Block
block_of label ds ss hs end_label = roll-Block (record {
  label = label;
  declarations = ds;
  statements = ss;
  handlers = hs;
  end_label = end_label;
})

abbrev pub statement_of : Spot → StatementKind → Statement
statement_of spot kind =
    roll-Statement (record { line = spot.line; ordinal = spot.ordinal; kind = kind })

-- ---- open parts

abbrev pub open_of : Spot → Section → List Statement → Open
open_of spot section ss = record { spot = spot; section = section; statements = ss }

abbrev pub making_of : List Open → Open → Making
making_of around inner = record { around = around; inner = inner }

abbrev pub start : Making
start = making_of [] (open_of (record { line = 0; ordinal = 0 }) s.Body [])

abbrev pub with_statement : Open → Statement → Open
with_statement o x = open_of o.spot o.section (o.statements ++ x ∷ [])

abbrev pub added : Making → Statement → Making
added m x = making_of m.around (with_statement m.inner x)

abbrev pub opened : Making → Spot → Section → Making
opened m spot section = making_of (m.inner ∷ m.around) (open_of spot section [])

-- ---- items that divide

abbrev pub divided : Open → Option Section → Option Open
divided o None = None
divided o (Some section) = Some (open_of o.spot section [])

abbrev pub elsif : Section → List Statement → Expr → Option Section
elsif (s.If bs e) ss new = Some (s.If (bs ++ branch_of e ss ∷ []) new)
elsif _ ss new = None

abbrev pub otherwise : Section → List Statement → Option Section
otherwise (s.If bs e) ss = Some (s.IfElse (bs ++ branch_of e ss ∷ []))
otherwise (s.Case x arms vs) ss = Some (s.CaseElse x (arms ++ arm_of vs ss ∷ []))
otherwise _ ss = None

abbrev pub arm : Section → List Statement → List Expr → Option Section
arm (s.Case x arms vs) ss new = Some (s.Case x (arms ++ arm_of vs ss ∷ []) new)
arm _ ss new = None

abbrev pub exception : Section → List Statement → List Caught → Option Section
exception (s.Block label ds) ss new = Some (s.Handler label ds ss [] new)
exception _ ss new = None

abbrev pub handler : Section → List Statement → List Caught → Option Section
handler (s.Handler label ds bs hs cs) ss new =
    Some (s.Handler label ds bs (hs ++ handler_of cs ss ∷ []) new)
handler _ ss new = None

abbrev pub with_inner : List Open → Option Open → Option Making
with_inner around None = None
with_inner around (Some inner) = Some (making_of around inner)

-- ---- items that end

abbrev pub if_ended : Section → List Statement → Option StatementKind
if_ended (s.If bs e) ss = Some (k.If (bs ++ branch_of e ss ∷ []) None)
if_ended (s.IfElse bs) ss = Some (k.If bs (Some (otherwise_of ss)))
if_ended _ ss = None

abbrev pub case_ended : Section → List Statement → Option StatementKind
case_ended (s.Case x arms vs) ss = Some (k.Case x (arms ++ arm_of vs ss ∷ []) None)
case_ended (s.CaseElse x arms) ss = Some (k.Case x arms (Some (otherwise_of ss)))
case_ended _ ss = None

abbrev pub loop_ended : Section → List Statement → Option (List ℕ) → Option StatementKind
loop_ended (s.Loop label head) ss end_label = Some (k.Loop (loop_of label head ss end_label))
loop_ended _ ss end_label = None

abbrev pub block_ended : Section → List Statement → Option (List ℕ) → Option StatementKind
block_ended (s.Block label ds) ss end_label = Some (k.Block (block_of label ds ss [] end_label))
block_ended (s.Handler label ds bs hs cs) ss end_label =
    Some (k.Block (block_of label ds bs (hs ++ handler_of cs ss ∷ []) end_label))
block_ended _ ss end_label = None

-- the innermost part ends as a statement of the one around it
abbrev pub closed : List Open → Statement → Option Making
closed [] x = None
closed (o ∷ os) x = Some (making_of os (with_statement o x))

abbrev pub ended : Open → Option StatementKind → Option Statement
ended o None = None
ended o (Some kind) = Some (statement_of o.spot kind)

abbrev pub with_ended : List Open → Option Statement → Option Making
with_ended around None = None
with_ended around (Some x) = closed around x

-- ---- any item

abbrev pub word_step : Making → Word → Option Making
word_step m w.Else =
    with_inner m.around (divided m.inner (otherwise m.inner.section m.inner.statements))
word_step m w.EndIf =
    with_ended m.around (ended m.inner (if_ended m.inner.section m.inner.statements))
word_step m w.EndCase =
    with_ended m.around (ended m.inner (case_ended m.inner.section m.inner.statements))
word_step m (w.EndLoop label) =
    with_ended m.around (ended m.inner (loop_ended m.inner.section m.inner.statements label))
word_step m (w.End label) =
    with_ended m.around (ended m.inner (block_ended m.inner.section m.inner.statements label))

unfoldable pub step : Making → Item → Option Making
step m (i.Simple spot x) = Some (added m (statement_of spot (k.Simple x)))
step m (i.Block spot label ds) = Some (opened m spot (s.Block label ds))
step m (i.Exception cs) =
    with_inner m.around (divided m.inner (exception m.inner.section m.inner.statements cs))
step m (i.Handler cs) =
    with_inner m.around (divided m.inner (handler m.inner.section m.inner.statements cs))
step m (i.If spot e) = Some (opened m spot (s.If [] e))
step m (i.Elsif e) =
    with_inner m.around (divided m.inner (elsif m.inner.section m.inner.statements e))
step m (i.Case spot x vs) = Some (opened m spot (s.Case x [] vs))
step m (i.Arm vs) =
    with_inner m.around (divided m.inner (arm m.inner.section m.inner.statements vs))
step m (i.Loop spot label head) = Some (opened m spot (s.Loop label head))
step m (i.Word word) = word_step m word

abbrev pub then_steps : (Making → Option Making) → Option Making → Option Making
then_steps more None = None
then_steps more (Some m) = more m

abbrev pub steps : Making → List Item → Option Making
steps m [] = Some m
steps m (x ∷ xs) = then_steps (λ m. steps m xs) (step m x)

-- ---- what is made

-- the body itself is open
abbrev pub is_body : Section → Bool
is_body s.Body = true
is_body _ = false

-- an arm of CASE may come
abbrev pub in_case : Section → Bool
in_case (s.Case x arms vs) = true
in_case _ = false

-- the outermost block has no ordinal
abbrev pub Layer : Type 0
Layer = StatementKindLayer StatementKind Block Branch CaseArm Handler Loop Otherwise Statement

abbrev pub block_body : ℕ → ℕ → Layer → Option Body
block_body line zero (l.Block block) = Some (record { line = line; block = block })
block_body line _ _ = None

abbrev pub statement_body : Statement → Option Body
statement_body x =
    block_body (out-Statement x).line (out-Statement x).ordinal
    (out-StatementKind (out-Statement x).kind)

abbrev pub only_body : List Open → Section → List Statement → Option Body
only_body [] s.Body (x ∷ []) = statement_body x
only_body around section ss = None

abbrev pub body_of : Making → Option Body
body_of m = only_body m.around m.inner.section m.inner.statements

abbrev pub body_in : Option Making → Option Body
body_in None = None
body_in (Some m) = body_of m

-- the body of these items
abbrev pub made : List Item → Option Body
made xs = body_in (steps start xs)
