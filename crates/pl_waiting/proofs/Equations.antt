-- One equation for each kind of part: whether it waits, from its parts.
use Rattle.std.proofs.Common.{◌≡◌, ◌∙◌, ap, refl, Bool, ◌||◌, List, [], ◌∷◌, Option, Some, None, map, rules, arith}
use Rattle.std.specs.List.{list_any}
use Rattle.std.specs.Option.{option_map}
use Rattle.pl_bodies.specs.declared.simple.Simple.{Simple}
use Rattle.pl_bodies.specs.declared.statement.Block.{Block, out-Block}
use Rattle.pl_bodies.specs.declared.statement.Branch.{Branch, fold-Branch}
use Rattle.pl_bodies.specs.declared.statement.CaseArm.{CaseArm, fold-CaseArm}
use Rattle.pl_bodies.specs.declared.statement.Handler.{Handler, fold-Handler}
use Rattle.pl_bodies.specs.declared.statement.Loop.{Loop, out-Loop}
use Rattle.pl_bodies.specs.declared.statement.Otherwise.{Otherwise, fold-Otherwise}
use Rattle.pl_bodies.specs.declared.statement.Statement.{Statement, out-Statement}
use Rattle.pl_bodies.specs.declared.statement.StatementKind.TheVariants as k
use Rattle.pl_bodies.specs.declared.statement.StatementKind.{the_lemmas}
use Rattle.pl_tree.specs.declared.tree.Expr.{Expr}
use Rattle.pl_waiting.specs.Waiting.{any_waits, arm_step, arm_waits, block_step, block_waits, branch_step, branch_waits, declaration_waits, handler_step, handler_waits, head_waits, if_there, kind_waits, loop_step, loop_waits, otherwise_step, otherwise_waits, simple_waits, statement_kind_step, statement_step, statement_waits}

-- ---- parts that stand in lists

unfoldable branch_raw : Branch → Bool
branch_raw = fold-Branch Bool Bool Bool Bool Bool Bool Bool Bool
    statement_kind_step block_step branch_step arm_step handler_step loop_step otherwise_step statement_step

branch_out : (x : Branch) → branch_raw x ≡ branch_waits x
unfolding branch_raw statement_waits
branch_out x = first_of (search (rules, the_lemmas), grind (arith, the_lemmas))

map_branch : (xs : List Branch) → map branch_raw xs ≡ map branch_waits xs
map_branch [] = refl
map_branch (x ∷ xs) = cc (branch_out x, map_branch xs)

unfoldable arm_raw : CaseArm → Bool
arm_raw = fold-CaseArm Bool Bool Bool Bool Bool Bool Bool Bool
    statement_kind_step block_step branch_step arm_step handler_step loop_step otherwise_step statement_step

arm_out : (x : CaseArm) → arm_raw x ≡ arm_waits x
unfolding arm_raw statement_waits
arm_out x = first_of (search (rules, the_lemmas), grind (arith, the_lemmas))

map_arm : (xs : List CaseArm) → map arm_raw xs ≡ map arm_waits xs
map_arm [] = refl
map_arm (x ∷ xs) = cc (arm_out x, map_arm xs)

unfoldable otherwise_raw : Otherwise → Bool
otherwise_raw = fold-Otherwise Bool Bool Bool Bool Bool Bool Bool Bool
    statement_kind_step block_step branch_step arm_step handler_step loop_step otherwise_step statement_step

otherwise_out : (x : Otherwise) → otherwise_raw x ≡ otherwise_waits x
unfolding otherwise_raw statement_waits
otherwise_out x = first_of (search (rules, the_lemmas), grind (arith, the_lemmas))

map_otherwise : (x : Option Otherwise) → option_map otherwise_raw x ≡ option_map otherwise_waits x
map_otherwise None = refl
map_otherwise (Some x) = ap (λ (b : Bool). let o : Option Bool = Some b in o) (otherwise_out x)

unfoldable handler_raw : Handler → Bool
handler_raw = fold-Handler Bool Bool Bool Bool Bool Bool Bool Bool
    statement_kind_step block_step branch_step arm_step handler_step loop_step otherwise_step statement_step

handler_out : (x : Handler) → handler_raw x ≡ handler_waits x
unfolding handler_raw statement_waits
handler_out x = first_of (search (rules, the_lemmas), grind (arith, the_lemmas))

map_handler : (xs : List Handler) → map handler_raw xs ≡ map handler_waits xs
map_handler [] = refl
map_handler (x ∷ xs) = cc (handler_out x, map_handler xs)

-- ---- kinds of statements

pub kind_block : (b : Block) → kind_waits (k.Block b) ≡ block_waits b
unfolding kind_waits block_waits
kind_block b = first_of (search (rules, the_lemmas), grind (arith, the_lemmas))

pub kind_loop : (x : Loop) → kind_waits (k.Loop x) ≡ loop_waits x
unfolding kind_waits loop_waits
kind_loop x = first_of (search (rules, the_lemmas), grind (arith, the_lemmas))

pub kind_simple : (s : Simple) → kind_waits (k.Simple s) ≡ simple_waits s
unfolding kind_waits
kind_simple s = first_of (search (rules, the_lemmas), grind (arith, the_lemmas))

if_raw : (bs : List Branch) (o : Option Otherwise) → kind_waits (k.If bs o) ≡ (any_waits (map branch_raw bs) || if_there (option_map otherwise_raw o))
unfolding kind_waits branch_raw otherwise_raw
if_raw bs o = first_of (search (rules, the_lemmas), grind (arith, the_lemmas))

pub kind_if : (bs : List Branch) (o : Option Otherwise) → kind_waits (k.If bs o) ≡ (any_waits (map branch_waits bs) || if_there (option_map otherwise_waits o))
kind_if bs o =
    if_raw bs o
    ∙ ap (λ (ws : List Bool). any_waits ws || if_there (option_map otherwise_raw o)) (map_branch bs)
    ∙ ap (λ (w : Option Bool). any_waits (map branch_waits bs) || if_there w) (map_otherwise o)

case_raw : (e : Option Expr) (xs : List CaseArm) (o : Option Otherwise) → kind_waits (k.Case e xs o) ≡ (any_waits (map arm_raw xs) || if_there (option_map otherwise_raw o))
unfolding kind_waits arm_raw otherwise_raw
case_raw e xs o = first_of (search (rules, the_lemmas), grind (arith, the_lemmas))

pub kind_case : (e : Option Expr) (xs : List CaseArm) (o : Option Otherwise) → kind_waits (k.Case e xs o) ≡ (any_waits (map arm_waits xs) || if_there (option_map otherwise_waits o))
kind_case e xs o =
    case_raw e xs o
    ∙ ap (λ (ws : List Bool). any_waits ws || if_there (option_map otherwise_raw o)) (map_arm xs)
    ∙ ap (λ (w : Option Bool). any_waits (map arm_waits xs) || if_there w) (map_otherwise o)

-- ---- statements, loops and blocks

pub statement_out : (s : Statement) → statement_waits s ≡ kind_waits (out-Statement s).kind
unfolding statement_waits kind_waits
statement_out s = first_of (search (rules, the_lemmas), grind (arith, the_lemmas))

pub loop_out : (x : Loop) → loop_waits x ≡ (head_waits (out-Loop x).head || any_waits (map statement_waits (out-Loop x).statements))
unfolding loop_waits statement_waits
loop_out x = first_of (search (rules, the_lemmas), grind (arith, the_lemmas))

block_raw : (b : Block) → block_waits b ≡ (list_any declaration_waits (out-Block b).declarations || (any_waits (map statement_waits (out-Block b).statements) || any_waits (map handler_raw (out-Block b).handlers)))
unfolding block_waits statement_waits handler_raw
block_raw b = first_of (search (rules, the_lemmas), grind (arith, the_lemmas))

pub block_out : (b : Block) → block_waits b ≡ (list_any declaration_waits (out-Block b).declarations || (any_waits (map statement_waits (out-Block b).statements) || any_waits (map handler_waits (out-Block b).handlers)))
block_out b =
    block_raw b
    ∙ ap (λ (ws : List Bool). list_any declaration_waits (out-Block b).declarations || (any_waits (map statement_waits (out-Block b).statements) || any_waits ws)) (map_handler (out-Block b).handlers)

pub ruleset kind_equations = (kind_block, kind_loop, kind_simple, kind_if, kind_case)
