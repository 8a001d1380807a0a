-- IF, CASE, loops, EXIT, CONTINUE and RETURN: PostgreSQL manual, "PL/pgSQL", "Control Structures".
use Rattle.std.specs.Prelude.{ℕ, zero, suc, ℤ, pos, ◌+ℤ◌, ◌-ℤ◌, neg_ℤ, int_le, nat_abs, ◌/◌}
use Rattle.std.specs.Prelude.{Bool, true, false, if◌then◌else◌, List, [], ◌∷◌, ◌++◌}
use Rattle.std.specs.Prelude.{Option, Some, None, bytes_eq}
use Rattle.pl_base.specs.States.{CASE_NOT_FOUND, INTERNAL_ERROR, INVALID_PARAMETER_VALUE}
use Rattle.pl_base.specs.States.{NULL_VALUE_NOT_ALLOWED, QUERY_CANCELED, SYNTAX_ERROR}
use Rattle.pl_base.specs.declared.types.Ty.{Ty}
use Rattle.pl_base.specs.declared.types.Ty.TheVariants.{Int as Integer}
use Rattle.pl_base.specs.declared.value.Value.{Value}
use Rattle.pl_base.specs.declared.value.Value.TheVariants.{Null, Int}
use Rattle.pl_bodies.specs.declared.simple.Jump.{Jump}
use Rattle.pl_bodies.specs.declared.simple.Jump.TheVariants as jump
use Rattle.pl_bodies.specs.declared.statement.Branch.{Branch, out-Branch}
use Rattle.pl_bodies.specs.declared.statement.CaseArm.{CaseArm, out-CaseArm}
use Rattle.pl_bodies.specs.declared.statement.Otherwise.{Otherwise, out-Otherwise}
use Rattle.pl_bodies.specs.declared.statement.Statement.{Statement}
use Rattle.pl_meaning.specs.pl_names.Names.{Name}
use Rattle.pl_tree.specs.declared.tree.Expr.{Expr}
use Rattle.pl_meaning.specs.pl_typing.Typing.{as_text_type}
use Rattle.pl_meaning.specs.pl_value.Combined.{is_true}
use Rattle.pl_world.specs.Conversions.{as_truth, as_type}
use Rattle.pl_world.specs.Errors.{Spot, raised, resolved}
use Rattle.pl_world.specs.Expressions.{evaluated, read, value_over}
use Rattle.pl_world.specs.Resolving.{giving, matching, reading}
use Rattle.pl_world.specs.Running.{Runner, all, stepped}
use Rattle.pl_world.specs.Variables.{closed, declared, newest_place, opened, row_of, with_found}
use Rattle.pl_world.specs.Variables.{with_value}
use Rattle.pl_world.specs.World.{World, Ran, and_then, ends}
use Rattle.pl_world.specs.declared.outcome.Outcome.{Outcome}
use Rattle.pl_world.specs.declared.outcome.Outcome.TheVariants as outcome

-- ---- conditions

-- a condition is resolved and read when it is reached
unfoldable pub tested : Runner → Spot → Expr → World → (Bool → World → Ran Outcome) → Ran Outcome
tested r at e w k =
    resolved (reading e w.database.objects w.frame.static) at w (λ x.
    evaluated r at x w (λ v w. as_truth v at w k))

-- ---- IF

abbrev pub else_of : Option Otherwise → List Statement
else_of None = []
else_of (Some o) = (out-Otherwise o).statements

unfoldable pub branches : Runner → Spot → List Branch → Option Otherwise → World → Ran Outcome
branches r at [] otherwise w = all r (else_of otherwise) w
branches r at (b ∷ bs) otherwise w =
    tested r at (out-Branch b).condition w (λ is w.
    if is then all r (out-Branch b).statements w else branches r at bs otherwise w)

-- ---- CASE

-- without ELSE an arm has to be found
abbrev pub not_found : Runner → Spot → Option Otherwise → World → Ran Outcome
not_found r at None w = raised CASE_NOT_FOUND at w
not_found r at (Some o) w = all r (out-Otherwise o).statements w

-- the one condition of an arm without an operand
abbrev pub tested_one : Runner → Spot → List Expr → World → (Bool → World → Ran Outcome)
    → Ran Outcome
tested_one r at (e ∷ []) w k = tested r at e w k
tested_one r at values w k = raised SYNTAX_ERROR at w

-- CASE with conditions
unfoldable pub searched : Runner → Spot → List CaseArm → Option Otherwise → World → Ran Outcome
searched r at [] otherwise w = not_found r at otherwise w
searched r at (a ∷ arms) otherwise w =
    tested_one r at (out-CaseArm a).values w (λ is w.
    if is then all r (out-CaseArm a).statements w else searched r at arms otherwise w)

-- the operand, of this value and type, is IN the values
unfoldable pub matched : Runner → Spot → Ty → Value → List Expr → World
    → (Bool → World → Ran Outcome) → Ran Outcome
matched r at t v values w k =
    resolved (matching t values w.database.objects w.frame.static) at w (λ x.
    read (value_over r at x (row_of w.frame ++ v ∷ []) w) at (λ b w. k (is_true b) w))

-- CASE with an operand
unfoldable pub arms_tried : Runner → Spot → Ty → Value → List CaseArm → Option Otherwise → World
    → Ran Outcome
arms_tried r at t v [] otherwise w = not_found r at otherwise w
arms_tried r at t v (a ∷ arms) otherwise w =
    matched r at t v (out-CaseArm a).values w (λ is w.
    if is then all r (out-CaseArm a).statements w else arms_tried r at t v arms otherwise w)

-- the operand is read once
unfoldable pub case : Runner → Spot → Option Expr → List CaseArm → Option Otherwise → World
    → Ran Outcome
case r at None arms otherwise w = searched r at arms otherwise w
case r at (Some e) arms otherwise w =
    resolved (reading e w.database.objects w.frame.static) at w (λ x.
    evaluated r at x w (λ v w. arms_tried r at (as_text_type x.typed.ty) v arms otherwise w))

-- ---- turns of loops

-- EXIT and CONTINUE that name this loop, or none
abbrev pub is_own : Option Name → Option Name → Bool
is_own label None = true
is_own None (Some to) = false
is_own (Some label) (Some to) = bytes_eq label to

-- EXIT ends the loop, CONTINUE goes on; both may speak of a loop around
abbrev pub after_turn : Option Name → (World → Ran Outcome) → Outcome → World → Ran Outcome
after_turn label k outcome.Next w = k w
after_turn label k (outcome.Exit to) w =
    if is_own label to then ends outcome.Next w else ends (outcome.Exit to) w
after_turn label k (outcome.Continue to) w =
    if is_own label to then k w else ends (outcome.Continue to) w
after_turn label k (outcome.Return v) w = ends (outcome.Return v) w
after_turn label k (outcome.Fail f) w = ends (outcome.Fail f) w

-- a turn takes a step
unfoldable pub turn : Runner → Spot → Option Name → List Statement → World → (World → Ran Outcome)
    → Ran Outcome
turn r at label body w k = stepped at w (λ w. and_then (all r body w) (after_turn label k))

-- what is asked before each turn: whether there is one
abbrev pub Test : Type 0
Test = World → (Bool → World → Ran Outcome) → Ran Outcome

-- LOOP asks nothing
abbrev pub forever : Test
forever w k = k true w

-- At most so many turns. No fewer than there are steps: so where none is left, no step is either.
unfoldable pub turns : ℕ → Runner → Spot → Option Name → Test → List Statement → World → Ran Outcome
turns zero r at label test body w =
    test w (λ is w. if is then raised QUERY_CANCELED at w else ends outcome.Next w)
turns (suc n) r at label test body w =
    test w (λ is w.
    if is then turn r at label body w (λ w. turns n r at label test body w)
    else ends outcome.Next w)

-- LOOP and WHILE
unfoldable pub loop : Runner → Spot → Option Name → Test → List Statement → World → Ran Outcome
loop r at label test body w = turns r.room r at label test body w

-- ---- integer FOR

-- so many numbers, each so far from the one before
abbrev pub counted_from : ℤ → ℤ → ℕ → List ℤ
counted_from i by zero = []
counted_from i by (suc n) = i ∷ counted_from (i +ℤ by) by n

-- how many numbers there are from the low one to the high one, where every so many counts
abbrev pub how_many : ℤ → ℤ → ℕ → ℕ
how_many low high by = if int_le low high then suc (nat_abs (high -ℤ low) / by) else 0

-- the numbers of the turns; no number past the last is among them, so that none overflows
abbrev pub numbers : (is_reverse : Bool) → ℤ → ℤ → ℤ → List ℤ
numbers false first last by = counted_from first by (how_many first last (nat_abs by))
numbers true first last by = counted_from first (neg_ℤ by) (how_many last first (nat_abs by))

-- a turn for each number, which the variable has at its start whatever was assigned to it before
unfoldable pub each : Runner → Spot → Option Name → ℕ → List Statement → List ℤ → World
    → Ran Outcome
each r at label to body [] w = ends outcome.Next w
each r at label to body (i ∷ is) w =
    turn r at label body (with_value to (Int i) w) (λ w. each r at label to body is w)

-- FOUND says whether there was a turn, unless an error ended the loop
abbrev pub with_turns : List ℤ → Outcome → World → World
with_turns is (outcome.Fail f) w = w
with_turns [] o w = with_found false w
with_turns (i ∷ is) o w = with_found true w

-- the variable is closed, and the loop is done
abbrev pub for_left : List ℤ → Outcome → World → Ran Outcome
for_left is o w = ends o (with_turns is o (closed w))

-- the variable that was declared last counts
abbrev pub each_newest : Runner → Spot → Option Name → List Statement → List ℤ → World → Ran Outcome
each_newest r at label body is w = each r at label (newest_place w) body is w

-- the variable stands in a block of its own, under the loop's label
unfoldable pub over_numbers : Runner → Spot → Option Name → Name → List Statement → List ℤ → World
    → Ran Outcome
over_numbers r at label variable body is w =
    and_then
    (each_newest r at label body is (declared variable Integer false Null (opened label w)))
    (for_left is)

abbrev pub as_number : Value → Spot → World → (ℤ → World → Ran Outcome) → Ran Outcome
as_number (Int z) at w k = k z w
as_number Null at w k = raised NULL_VALUE_NOT_ALLOWED at w
as_number v at w k = raised INTERNAL_ERROR at w

-- a bound is resolved and read once, as an integer
unfoldable pub bound : Runner → Spot → Expr → World → (ℤ → World → Ran Outcome) → Ran Outcome
bound r at e w k =
    resolved (reading e w.database.objects w.frame.static) at w (λ x.
    evaluated r at x w (λ v w. as_type Integer v at w (λ v w. as_number v at w k)))

abbrev pub positive : ℤ → Spot → World → (ℤ → World → Ran Outcome) → Ran Outcome
positive z at w k =
    if int_le z (pos 0) then raised INVALID_PARAMETER_VALUE at w else k z w

-- BY, which is 1 where it is left out
abbrev pub stride : Runner → Spot → Option Expr → World → (ℤ → World → Ran Outcome) → Ran Outcome
stride r at None w k = k (pos 1) w
stride r at (Some e) w k = bound r at e w (λ z w. positive z at w k)

-- the bounds are read in the order in which they are written, and then BY
unfoldable pub for_numbers : Runner → Spot → Option Name → Name → Bool → Expr → Expr → Option Expr
    → List Statement → World → Ran Outcome
for_numbers r at label variable is_reverse first last by body w =
    bound r at first w (λ a w. bound r at last w (λ b w. stride r at by w (λ c w.
    over_numbers r at label variable body (numbers is_reverse a b c) w)))

-- ---- EXIT, CONTINUE, RETURN

abbrev pub jumped : Jump → Option Name → Outcome
jumped jump.Exit label = outcome.Exit label
jumped jump.Continue label = outcome.Continue label

unfoldable pub jumps : Runner → Spot → Jump → Option Name → Option Expr → World → Ran Outcome
jumps r at j label None w = ends (jumped j label) w
jumps r at j label (Some e) w =
    tested r at e w (λ is w. if is then ends (jumped j label) w else ends outcome.Next w)

unfoldable pub returns : Runner → Spot → Option Expr → World → Ran Outcome
returns r at None w = ends (outcome.Return Null) w
returns r at (Some e) w =
    resolved (giving e w.database.objects w.frame.static) at w (λ x.
    evaluated r at x w (λ v w. ends (outcome.Return v) w))
