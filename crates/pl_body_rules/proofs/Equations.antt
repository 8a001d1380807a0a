-- One equation for each kind of part: what it breaks first, from its parts.
use Rattle.std.proofs.Common.{◌≡◌, ◌∙◌, ap, sym, refl, ℕ, true, false, is_some, List, [], ◌∷◌, Option, Some, None, map, rules, arith}
use Rattle.std.specs.Option.{option_map, option_or}
use Rattle.pl_bodies.specs.declared.simple.Simple.{Simple}
use Rattle.pl_bodies.specs.declared.statement.Block.{Block, out-Block}
use Rattle.pl_bodies.specs.declared.statement.Branch.{Branch, fold-Branch}
use Rattle.pl_bodies.specs.declared.statement.CaseArm.{CaseArm, fold-CaseArm}
use Rattle.pl_bodies.specs.declared.statement.Handler.{Handler, fold-Handler}
use Rattle.pl_bodies.specs.declared.statement.Loop.{Loop, out-Loop}
use Rattle.pl_bodies.specs.declared.statement.Otherwise.{Otherwise, fold-Otherwise}
use Rattle.pl_bodies.specs.declared.statement.Statement.{Statement, out-Statement}
use Rattle.pl_bodies.specs.declared.statement.StatementKind.TheVariants as k
use Rattle.pl_bodies.specs.declared.statement.StatementKind.{StatementKind, the_lemmas}
use Rattle.pl_body_rules.specs.Rules.{HandlerPart, Means, Part, arm_step, arm_view, block_means, block_step, branch_step, branch_view, choice_means, first, handler_step, handler_view, if_there, in_block, in_kind, in_loop, in_statement, kind_step, loop_means, loop_step, otherwise_step, otherwise_view, simple_means, statement_step}
use Rattle.pl_body_rules.proofs.Options.{or_next, or_some}
use Rattle.pl_body_rules.specs.declared.breach.Breach.{Breach}
use Rattle.pl_body_rules.specs.declared.frames.Frame.{Frame}
use Rattle.pl_body_rules.specs.declared.returning.Returns.{Returns}
use Rattle.pl_tree.specs.declared.tree.Expr.{Expr}

-- ---- parts that stand in lists

unfoldable branch_raw : Returns → Branch → Means
branch_raw r = fold-Branch Part Part Means Means HandlerPart Part Means Means
    (kind_step r) block_step branch_step arm_step handler_step loop_step otherwise_step statement_step

branch_out : (r : Returns) (x : Branch) → branch_raw r x ≡ branch_view r x
unfolding branch_raw in_statement
branch_out r x = first_of (search (rules, the_lemmas), grind (arith, the_lemmas))

map_branch : (r : Returns) (xs : List Branch) → map (branch_raw r) xs ≡ map (branch_view r) xs
map_branch r [] = refl
map_branch r (x ∷ xs) = cc (branch_out r x, map_branch r xs)

unfoldable arm_raw : Returns → CaseArm → Means
arm_raw r = fold-CaseArm Part Part Means Means HandlerPart Part Means Means
    (kind_step r) block_step branch_step arm_step handler_step loop_step otherwise_step statement_step

arm_out : (r : Returns) (x : CaseArm) → arm_raw r x ≡ arm_view r x
unfolding arm_raw in_statement
arm_out r x = first_of (search (rules, the_lemmas), grind (arith, the_lemmas))

map_arm : (r : Returns) (xs : List CaseArm) → map (arm_raw r) xs ≡ map (arm_view r) xs
map_arm r [] = refl
map_arm r (x ∷ xs) = cc (arm_out r x, map_arm r xs)

unfoldable otherwise_raw : Returns → Otherwise → Means
otherwise_raw r = fold-Otherwise Part Part Means Means HandlerPart Part Means Means
    (kind_step r) block_step branch_step arm_step handler_step loop_step otherwise_step statement_step

otherwise_out : (r : Returns) (x : Otherwise) → otherwise_raw r x ≡ otherwise_view r x
unfolding otherwise_raw in_statement
otherwise_out r x = first_of (search (rules, the_lemmas), grind (arith, the_lemmas))

map_otherwise : (r : Returns) (x : Option Otherwise) → option_map (otherwise_raw r) x ≡ option_map (otherwise_view r) x
map_otherwise r None = refl
map_otherwise r (Some x) = ap (λ (m : Means). Some m) (otherwise_out r x)

unfoldable handler_raw : Returns → Handler → HandlerPart
handler_raw r = fold-Handler Part Part Means Means HandlerPart Part Means Means
    (kind_step r) block_step branch_step arm_step handler_step loop_step otherwise_step statement_step

handler_out : (r : Returns) (x : Handler) → handler_raw r x ≡ handler_view r x
unfolding handler_raw in_statement
handler_out r x = first_of (search (rules, the_lemmas), grind (arith, the_lemmas))

map_handler : (r : Returns) (xs : List Handler) → map (handler_raw r) xs ≡ map (handler_view r) xs
map_handler r [] = refl
map_handler r (x ∷ xs) = cc (handler_out r x, map_handler r xs)

-- ---- kinds of statements

pub kind_block : (r : Returns) (b : Block) → in_kind r (k.Block b) ≡ in_block r b
unfolding in_kind in_block
kind_block r b = first_of (search (rules, the_lemmas), grind (arith, the_lemmas))

pub kind_loop : (r : Returns) (x : Loop) → in_kind r (k.Loop x) ≡ in_loop r x
unfolding in_kind in_loop
kind_loop r x = first_of (search (rules, the_lemmas), grind (arith, the_lemmas))

pub kind_simple : (r : Returns) (s : Simple) → in_kind r (k.Simple s) ≡ simple_means r s
unfolding in_kind
kind_simple r s = first_of (search (rules, the_lemmas), grind (arith, the_lemmas))

if_raw : (r : Returns) (bs : List Branch) (o : Option Otherwise) → in_kind r (k.If bs o) ≡ choice_means (map (branch_raw r) bs) (option_map (otherwise_raw r) o)
unfolding in_kind branch_raw otherwise_raw
if_raw r bs o = first_of (search (rules, the_lemmas), grind (arith, the_lemmas))

pub kind_if : (r : Returns) (bs : List Branch) (o : Option Otherwise) → in_kind r (k.If bs o) ≡ choice_means (map (branch_view r) bs) (option_map (otherwise_view r) o)
kind_if r bs o =
    if_raw r bs o
    ∙ ap (λ (ms : List Means). choice_means ms (option_map (otherwise_raw r) o)) (map_branch r bs)
    ∙ ap (λ (m : Option Means). choice_means (map (branch_view r) bs) m) (map_otherwise r o)

case_raw : (r : Returns) (e : Option Expr) (xs : List CaseArm) (o : Option Otherwise) → in_kind r (k.Case e xs o) ≡ choice_means (map (arm_raw r) xs) (option_map (otherwise_raw r) o)
unfolding in_kind arm_raw otherwise_raw
case_raw r e xs o = first_of (search (rules, the_lemmas), grind (arith, the_lemmas))

pub kind_case : (r : Returns) (e : Option Expr) (xs : List CaseArm) (o : Option Otherwise) → in_kind r (k.Case e xs o) ≡ choice_means (map (arm_view r) xs) (option_map (otherwise_view r) o)
kind_case r e xs o =
    case_raw r e xs o
    ∙ ap (λ (ms : List Means). choice_means ms (option_map (otherwise_raw r) o)) (map_arm r xs)
    ∙ ap (λ (m : Option Means). choice_means (map (arm_view r) xs) m) (map_otherwise r o)

-- ---- IF and CASE, part by part

-- what comes behind parts that break nothing, and before nothing else
chosen : (parts : List Means) (o : Option Means) (line : ℕ) (frames : List Frame) (breach : Option Breach) → breach ≡ first parts frames → is_some breach ≡ true → breach ≡ choice_means parts o line frames
chosen parts o line frames breach is there =
    sym (or_some breach (if_there o frames) there)
    ∙ ap (λ (b : Option Breach). option_or b (if_there o frames)) is

left_over : (parts : List Means) (o : Option Means) (line : ℕ) (frames : List Frame) (breach : Option Breach) → breach ≡ first parts frames → is_some breach ≡ false → choice_means parts o line frames ≡ if_there o frames
left_over parts o line frames breach is none =
    ap (λ (b : Option Breach). option_or b (if_there o frames)) (sym is)
    ∙ or_next breach (if_there o frames) none

pub case_arms : (r : Returns) (kind : StatementKind) (e : Option Expr) (xs : List CaseArm) (o : Option Otherwise) (line : ℕ) (frames : List Frame) (breach : Option Breach) → kind ≡ k.Case e xs o → breach ≡ first (map (arm_view r) xs) frames → is_some breach ≡ true → breach ≡ in_kind r kind line frames
case_arms r kind e xs o line frames breach of is there =
    chosen (map (arm_view r) xs) (option_map (otherwise_view r) o) line frames breach is there
    ∙ sym (ap (λ (m : Part). m line frames) (ap (λ (s : StatementKind). in_kind r s) of ∙ kind_case r e xs o))

pub case_rest : (r : Returns) (kind : StatementKind) (e : Option Expr) (xs : List CaseArm) (o : Option Otherwise) (line : ℕ) (frames : List Frame) (breach : Option Breach) → kind ≡ k.Case e xs o → breach ≡ first (map (arm_view r) xs) frames → is_some breach ≡ false → in_kind r kind line frames ≡ if_there (option_map (otherwise_view r) o) frames
case_rest r kind e xs o line frames breach of is none =
    ap (λ (m : Part). m line frames) (ap (λ (s : StatementKind). in_kind r s) of ∙ kind_case r e xs o)
    ∙ left_over (map (arm_view r) xs) (option_map (otherwise_view r) o) line frames breach is none

pub if_rest : (r : Returns) (kind : StatementKind) (bs : List Branch) (o : Option Otherwise) (line : ℕ) (frames : List Frame) (breach : Option Breach) → kind ≡ k.If bs o → breach ≡ first (map (branch_view r) bs) frames → is_some breach ≡ false → in_kind r kind line frames ≡ if_there (option_map (otherwise_view r) o) frames
if_rest r kind bs o line frames breach of is none =
    ap (λ (m : Part). m line frames) (ap (λ (s : StatementKind). in_kind r s) of ∙ kind_if r bs o)
    ∙ left_over (map (branch_view r) bs) (option_map (otherwise_view r) o) line frames breach is none

-- ---- statements, loops and blocks

pub statement_out : (r : Returns) (s : Statement) → in_statement r s ≡ in_kind r (out-Statement s).kind (out-Statement s).line
unfolding in_statement in_kind
statement_out r s = first_of (search (rules, the_lemmas), grind (arith, the_lemmas))

pub loop_out : (r : Returns) (x : Loop) → in_loop r x ≡ loop_means (out-Loop x).label (out-Loop x).head (map (in_statement r) (out-Loop x).statements) (out-Loop x).end_label
unfolding in_loop in_statement
loop_out r x = first_of (search (rules, the_lemmas), grind (arith, the_lemmas))

block_raw : (r : Returns) (b : Block) → in_block r b ≡ block_means (out-Block b).label (out-Block b).declarations (map (in_statement r) (out-Block b).statements) (map (handler_raw r) (out-Block b).handlers) (out-Block b).end_label
unfolding in_block in_statement handler_raw
block_raw r b = first_of (search (rules, the_lemmas), grind (arith, the_lemmas))

pub block_out : (r : Returns) (b : Block) → in_block r b ≡ block_means (out-Block b).label (out-Block b).declarations (map (in_statement r) (out-Block b).statements) (map (handler_view r) (out-Block b).handlers) (out-Block b).end_label
block_out r b =
    block_raw r b
    ∙ ap (λ (hs : List HandlerPart). block_means (out-Block b).label (out-Block b).declarations (map (in_statement r) (out-Block b).statements) hs (out-Block b).end_label) (map_handler r (out-Block b).handlers)

pub ruleset kind_equations = (kind_block, kind_loop, kind_simple, kind_if, kind_case)
