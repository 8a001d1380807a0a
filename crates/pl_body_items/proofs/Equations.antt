-- One equation for each kind of part: its items, from those of its parts.
use Rattle.std.proofs.Common.{◌≡◌, ℕ, List, [], ◌∷◌, ◌++◌, Option, map, rules, arith}
use Rattle.std.specs.Option.{option_map}
use Rattle.pl_bodies.specs.declared.declaration.Declaration.{Declaration}
use Rattle.pl_bodies.specs.declared.simple.Simple.{Simple}
use Rattle.pl_bodies.specs.declared.statement.Block.{Block}
use Rattle.pl_bodies.specs.declared.statement.Branch.{Branch, fold-Branch}
use Rattle.pl_bodies.specs.declared.statement.CaseArm.{CaseArm, fold-CaseArm}
use Rattle.pl_bodies.specs.declared.statement.Caught.{Caught}
use Rattle.pl_bodies.specs.declared.statement.Handler.{Handler, fold-Handler}
use Rattle.pl_bodies.specs.declared.statement.Loop.{Loop, fold-Loop}
use Rattle.pl_bodies.specs.declared.statement.LoopHead.{LoopHead}
use Rattle.pl_bodies.specs.declared.statement.Otherwise.{Otherwise, fold-Otherwise}
use Rattle.pl_bodies.specs.declared.statement.Statement.{Statement}
use Rattle.pl_bodies.specs.declared.statement.StatementKind.TheVariants as k
use Rattle.pl_bodies.specs.declared.statement.StatementKind.{StatementKind, fold-StatementKind, the_lemmas}
use Rattle.pl_tree.specs.declared.tree.Expr.{Expr}
use Rattle.pl_body_items.specs.declared.items.Item.TheVariants as i
use Rattle.pl_body_items.specs.declared.items.Spot.{Spot}
use Rattle.pl_body_items.specs.declared.items.Word.TheVariants as w
use Rattle.pl_body_items.specs.Items.{Said, item, Parted, Placed, parted, some_parted, else_said, all_said, kind_step, block_step, branch_step, arm_step, handler_step, loop_step, otherwise_step, statement_step, statement_said, block_said}
use Rattle.pl_body_items.specs.Steps.{branch_of, arm_of, handler_of, otherwise_of, loop_of, block_of, statement_of}

-- ---- the folds of the parts

unfoldable pub kind_said : StatementKind → Placed
kind_said =
    fold-StatementKind Placed Placed (Parted Expr) (Parted (List Expr)) (Parted (List Caught)) Placed (List Said) (List Said)
    kind_step block_step branch_step arm_step handler_step loop_step otherwise_step statement_step

unfoldable pub loop_said : Loop → Placed
loop_said =
    fold-Loop Placed Placed (Parted Expr) (Parted (List Expr)) (Parted (List Caught)) Placed (List Said) (List Said)
    kind_step block_step branch_step arm_step handler_step loop_step otherwise_step statement_step

unfoldable pub branch_said : Branch → Parted Expr
branch_said =
    fold-Branch Placed Placed (Parted Expr) (Parted (List Expr)) (Parted (List Caught)) Placed (List Said) (List Said)
    kind_step block_step branch_step arm_step handler_step loop_step otherwise_step statement_step

unfoldable pub arm_said : CaseArm → Parted (List Expr)
arm_said =
    fold-CaseArm Placed Placed (Parted Expr) (Parted (List Expr)) (Parted (List Caught)) Placed (List Said) (List Said)
    kind_step block_step branch_step arm_step handler_step loop_step otherwise_step statement_step

unfoldable pub handler_said : Handler → Parted (List Caught)
handler_said =
    fold-Handler Placed Placed (Parted Expr) (Parted (List Expr)) (Parted (List Caught)) Placed (List Said) (List Said)
    kind_step block_step branch_step arm_step handler_step loop_step otherwise_step statement_step

unfoldable pub otherwise_said : Otherwise → List Said
otherwise_said =
    fold-Otherwise Placed Placed (Parted Expr) (Parted (List Expr)) (Parted (List Caught)) Placed (List Said) (List Said)
    kind_step block_step branch_step arm_step handler_step loop_step otherwise_step statement_step

abbrev pub statements_said : List Statement → List Said
statements_said ss = all_said (map statement_said ss)

-- ---- their equations

pub statement_is : (spot : Spot) (kind : StatementKind) → statement_said (statement_of spot kind) ≡ kind_said kind spot
unfolding statement_said kind_said
statement_is spot kind = first_of (search (rules, the_lemmas), grind (arith, the_lemmas))

pub branch_is : (e : Expr) (ss : List Statement) → branch_said (branch_of e ss) ≡ (e, statements_said ss)
unfolding branch_said statement_said
branch_is e ss = first_of (search (rules, the_lemmas), grind (arith, the_lemmas))

pub arm_is : (vs : List Expr) (ss : List Statement) → arm_said (arm_of vs ss) ≡ (vs, statements_said ss)
unfolding arm_said statement_said
arm_is vs ss = first_of (search (rules, the_lemmas), grind (arith, the_lemmas))

pub handler_is : (cs : List Caught) (ss : List Statement) → handler_said (handler_of cs ss) ≡ (cs, statements_said ss)
unfolding handler_said statement_said
handler_is cs ss = first_of (search (rules, the_lemmas), grind (arith, the_lemmas))

pub otherwise_is : (ss : List Statement) → otherwise_said (otherwise_of ss) ≡ statements_said ss
unfolding otherwise_said statement_said
otherwise_is ss = first_of (search (rules, the_lemmas), grind (arith, the_lemmas))

pub loop_is : (spot : Spot) (label : Option (List ℕ)) (head : LoopHead) (ss : List Statement) (end : Option (List ℕ))
    → loop_said (loop_of label head ss end) spot ≡ item (i.Loop spot label head) ∷ statements_said ss ++ item (i.Word (w.EndLoop end)) ∷ []
unfolding loop_said statement_said
loop_is spot label head ss end = first_of (search (rules, the_lemmas), grind (arith, the_lemmas))

pub block_is : (spot : Spot) (label : Option (List ℕ)) (ds : List Declaration) (ss : List Statement) (hs : List Handler) (end : Option (List ℕ))
    → block_said (block_of label ds ss hs end) spot
    ≡ item (i.Block spot label ds) ∷ statements_said ss ++ parted i.Exception i.Handler (map handler_said hs) ++ item (i.Word (w.End end)) ∷ []
unfolding block_said handler_said statement_said
block_is spot label ds ss hs end = first_of (search (rules, the_lemmas), grind (arith, the_lemmas))

pub kind_block : (spot : Spot) (b : Block) → kind_said (k.Block b) spot ≡ block_said b spot
unfolding kind_said block_said
kind_block spot b = first_of (search (rules, the_lemmas), grind (arith, the_lemmas))

pub kind_loop : (spot : Spot) (x : Loop) → kind_said (k.Loop x) spot ≡ loop_said x spot
unfolding kind_said loop_said
kind_loop spot x = first_of (search (rules, the_lemmas), grind (arith, the_lemmas))

pub kind_simple : (spot : Spot) (x : Simple) → kind_said (k.Simple x) spot ≡ item (i.Simple spot x) ∷ []
unfolding kind_said
kind_simple spot x = first_of (search (rules, the_lemmas), grind (arith, the_lemmas))

pub kind_if : (spot : Spot) (bs : List Branch) (o : Option Otherwise) → kind_said (k.If bs o) spot
    ≡ some_parted (i.If spot) i.Elsif (map branch_said bs) ++ else_said (option_map otherwise_said o) ++ item (i.Word w.EndIf) ∷ []
unfolding kind_said branch_said otherwise_said
kind_if spot bs o = first_of (search (rules, the_lemmas), grind (arith, the_lemmas))

pub kind_case : (spot : Spot) (x : Option Expr) (arms : List CaseArm) (o : Option Otherwise) → kind_said (k.Case x arms o) spot
    ≡ some_parted (i.Case spot x) i.Arm (map arm_said arms) ++ else_said (option_map otherwise_said o) ++ item (i.Word w.EndCase) ∷ []
unfolding kind_said arm_said otherwise_said
kind_case spot x arms o = first_of (search (rules, the_lemmas), grind (arith, the_lemmas))
