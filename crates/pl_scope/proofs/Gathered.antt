-- Nodes that have a list of expressions, by what is made of these one after the other.
use Rattle.std.proofs.Common.{◌≡◌, refl, subst, sym, List, [], ◌∷◌, ◌++◌, Bool, Option, Some, None, Result, Ok, Err}
use Rattle.std.specs.Prelude.{IsErrAnd}
use Rattle.pl_names.specs.Names.{Around}
use Rattle.pl_resolved.specs.declared.expression.RExpr.{RExpr}
use Rattle.pl_resolved.specs.declared.expression.RExpr.TheVariants as r
use Rattle.pl_scope.proofs.Following.{follows_goes, follows_stops}
use Rattle.pl_scope.specs.Answers.{Answer, Meets, got, fails, settled, then_answer}
use Rattle.pl_scope.specs.Expressions.{listed_on, fields_on, conditions, concat_on, run_on, maybe, maybe_condition}
use Rattle.pl_scope.specs.Expressions.{pick_of, row_part, concat_of, and_of, or_of, joined_to, ended_if}
use Rattle.pl_scope.specs.Following.{after}
use Rattle.pl_scope.specs.Gathered.{gather, gathered_with, chain_on, limit_if, truth_if}
use Rattle.pl_scope.specs.Parts.{Part, StepPart}
use Rattle.pl_scope.specs.Queries.{maybe_limit}
use Rattle.pl_scope.specs.declared.gathering.Gathering.{Gathering}
use Rattle.pl_scope.specs.declared.gathering.Gathering.TheVariants as g
use Rattle.pl_scope.specs.declared.made.Made.{Made}
use Rattle.pl_tree.specs.declared.tree.Pick.{Pick}
use Rattle.pl_typing.specs.Calls.{no_arguments, argument_with, row_of}
use Rattle.pl_typing.specs.Operators.{ended, run_of, stepped}
use Rattle.pl_typing.specs.Resolved.{Resolved}
use Rattle.pl_typing.specs.Typing.{limited, truth, truth_of}
use Rattle.pl_typing.specs.Unions.{in_list, listed_none, listed_with, picked}
use Rattle.pl_typing.specs.declared.calls.Arguments.{Arguments}
use Rattle.pl_typing.specs.declared.chain.Run.{Run}
use Rattle.pl_typing.specs.declared.fail.ScopeFail.{ScopeFail}
use Rattle.pl_typing.specs.declared.typed.Typed.{Typed}
use Rattle.pl_typing.specs.declared.unions.Listed.{Listed}

-- where the part failed, both fail with it
in_turn : {A B D : Type 0} (m : Answer A) (f : A → Made → Answer B) (k : B → Made → Answer D)
    (f' : A → Made → Answer D) → ((x : A) (made : Made) → then_answer (f x made) k ≡ f' x made)
    → then_answer (then_answer m f) k ≡ then_answer m f'
in_turn (got x made) f k f' each = each x made
in_turn (fails state) f k f' each = refl

by_step : {A B C D : Type 0} (m : Resolved A) (w : A → C) (made : Made) (f : A → Made → Answer B)
    (k : B → Made → Answer D) (f' : C → Made → Answer D)
    → ((x : A) → then_answer (f x made) k ≡ f' (w x) made)
    → then_answer (then_answer (settled m made) f) k ≡ then_answer (settled (after m w) made) f'
by_step (Ok x) w made f k f' each = each x
by_step (Err state) w made f k f' each = refl

pick_on : (pick : Pick) (ps : List Part) (all : Listed) (a : Around) (made : Made)
    → then_answer (listed_on ps all a made) (λ all made. settled (picked pick all) made)
    ≡ gather ps (g.Pick pick all) a made
pick_on pick [] all a made = refl
pick_on pick (p ∷ ps) all a made =
    in_turn (p.means a made) _ _ _ (λ x made. pick_on pick ps (listed_with all x) a made)

in_list_on : (is_negated : Bool) (ps : List Part) (all : Listed) (a : Around) (made : Made)
    → then_answer (listed_on ps all a made) (λ all made. settled (in_list is_negated all) made)
    ≡ gather ps (g.InList is_negated all) a made
in_list_on is_negated [] all a made = refl
in_list_on is_negated (p ∷ ps) all a made =
    in_turn (p.means a made) _ _ _ (λ x made. in_list_on is_negated ps (listed_with all x) a made)

row_on : (ps : List Part) (all : Arguments) (a : Around) (made : Made)
    → then_answer (fields_on ps all a made) (λ all made. got (row_of all) made)
    ≡ gather ps (g.Row all) a made
row_on [] all a made = refl
row_on (p ∷ ps) all a made =
    in_turn (p.means a made) _ _ _ (λ x made. row_on ps (argument_with all x) a made)

concats_on : (ps : List Part) (run : Option Run) (a : Around) (made : Made)
    → then_answer (concat_on ps run a made) (λ run made. settled (ended_if run) made)
    ≡ gather ps (g.Concat run) a made
concats_on [] run a made = refl
concats_on (p ∷ ps) run a made =
    in_turn (p.means a made) _ _ _ (λ x made.
    by_step (joined_to run x) (λ run. g.Concat (Some run)) made _ _ _ (λ run. concats_on ps (Some run) a made))

and_on : (ps : List Part) (list : List RExpr) (a : Around) (made : Made)
    → then_answer (conditions ps list a made) (λ list made. got (truth_of (r.And list)) made)
    ≡ gather ps (g.And list) a made
and_on [] list a made = refl
and_on (p ∷ ps) list a made =
    in_turn (p.means a made) _ _ _ (λ x made.
    by_step (truth x) (λ t. g.And (list ++ t ∷ [])) made _ _ _ (λ t. and_on ps (list ++ t ∷ []) a made))

or_on : (ps : List Part) (list : List RExpr) (a : Around) (made : Made)
    → then_answer (conditions ps list a made) (λ list made. got (truth_of (r.Or list)) made)
    ≡ gather ps (g.Or list) a made
or_on [] list a made = refl
or_on (p ∷ ps) list a made =
    in_turn (p.means a made) _ _ _ (λ x made.
    by_step (truth x) (λ t. g.Or (list ++ t ∷ [])) made _ _ _ (λ t. or_on ps (list ++ t ∷ []) a made))

chains_on : (ss : List StepPart) (run : Run) (a : Around) (made : Made)
    → then_answer (run_on ss run a made) (λ run made. got (ended run) made)
    ≡ chain_on ss run a made
chains_on [] run a made = refl
chains_on (s ∷ ss) run a made =
    in_turn (s.operand.means a made) _ _ _ (λ y made.
    in_turn (settled (stepped s.by run y) made) _ _ _ (λ run made. chains_on ss run a made))

-- ---- what such a node meets

pub pick_meets : (pick : Pick) (ps : List Part) (all : Listed) (a : Around) (made : Made)
    (r : Result Typed ScopeFail) (last : Made) → all ≡ listed_none
    → Meets (gather ps (g.Pick pick all) a made) r last → Meets (pick_of pick ps a made) r last
pick_meets pick ps all a made r last none meets =
    subst (λ (m : Answer Typed). Meets m r last) (sym (pick_on pick ps listed_none a made))
    (subst (λ (all : Listed). Meets (gather ps (g.Pick pick all) a made) r last) none meets)

pub row_meets : (ps : List Part) (all : Arguments) (a : Around) (made : Made)
    (r : Result Typed ScopeFail) (last : Made) → all ≡ no_arguments
    → Meets (gather ps (g.Row all) a made) r last → Meets (row_part ps a made) r last
row_meets ps all a made r last none meets =
    subst (λ (m : Answer Typed). Meets m r last) (sym (row_on ps no_arguments a made))
    (subst (λ (all : Arguments). Meets (gather ps (g.Row all) a made) r last) none meets)

pub concat_meets : (ps : List Part) (a : Around) (made : Made) (r : Result Typed ScopeFail)
    (last : Made) → Meets (gather ps (g.Concat None) a made) r last
    → Meets (concat_of ps a made) r last
concat_meets ps a made r last meets =
    subst (λ (m : Answer Typed). Meets m r last) (sym (concats_on ps None a made)) meets

pub and_meets : (ps : List Part) (list : List RExpr) (a : Around) (made : Made)
    (r : Result Typed ScopeFail) (last : Made) → list ≡ []
    → Meets (gather ps (g.And list) a made) r last → Meets (and_of ps a made) r last
and_meets ps list a made r last none meets =
    subst (λ (m : Answer Typed). Meets m r last) (sym (and_on ps [] a made))
    (subst (λ (list : List RExpr). Meets (gather ps (g.And list) a made) r last) none meets)

pub or_meets : (ps : List Part) (list : List RExpr) (a : Around) (made : Made)
    (r : Result Typed ScopeFail) (last : Made) → list ≡ []
    → Meets (gather ps (g.Or list) a made) r last → Meets (or_of ps a made) r last
or_meets ps list a made r last none meets =
    subst (λ (m : Answer Typed). Meets m r last) (sym (or_on ps [] a made))
    (subst (λ (list : List RExpr). Meets (gather ps (g.Or list) a made) r last) none meets)

pub chain_meets : (m : Answer Typed) (ss : List StepPart) (a : Around) (more : Made) (x : Typed)
    (run : Run) (r : Result Typed ScopeFail) (last : Made) → m ≡ got x more → run ≡ run_of x
    → Meets (chain_on ss run a more) r last
    → Meets (then_answer m (λ x made. then_answer (run_on ss (run_of x) a made)
    (λ run made. got (ended run) made))) r last
chain_meets m ss a more x run r last is begun meets =
    subst (λ (m : Answer Typed). Meets (then_answer m (λ x made.
    then_answer (run_on ss (run_of x) a made) (λ run made. got (ended run) made))) r last) (sym is)
    (subst (λ (m : Answer Typed). Meets m r last) (sym (chains_on ss (run_of x) a more))
    (subst (λ (run : Run). Meets (chain_on ss run a more) r last) begun meets))

-- IN, whose operand is read before the list
abbrev in_list_by : Bool → List Part → Around → Answer Typed → Answer Typed
in_list_by is_negated ps a m =
    then_answer m (λ x made. then_answer (listed_on ps (listed_with listed_none x) a made)
    (λ all made. settled (in_list is_negated all) made))

in_list_from : (is_negated : Bool) (m : Answer Typed) (ps : List Part) (a : Around)
    → then_answer m (λ x made. then_answer
    (settled (gathered_with (g.InList is_negated listed_none) x) made)
    (λ done made. gather ps done a made)) ≡ in_list_by is_negated ps a m
in_list_from is_negated (got x last) ps a =
    sym (in_list_on is_negated ps (listed_with listed_none x) a last)
in_list_from is_negated (fails state) ps a = refl

pub in_list_stops : (is_negated : Bool) (m : Answer Typed) (ps : List Part) (all : Listed)
    (a : Around) (more : Made) (r : Result Typed ScopeFail) (why : ScopeFail) (last : Made)
    → all ≡ listed_none → IsErrAnd r (λ e. e ≡ why)
    → Meets {A = Gathering} (then_answer m (λ x made.
    settled (gathered_with (g.InList is_negated all) x) made)) (Err why) more
    → Meets (in_list_by is_negated ps a m) r last
in_list_stops is_negated m ps all a more r why last none passed is =
    subst (λ (n : Answer Typed). Meets n r last) (in_list_from is_negated m ps a)
    (follows_stops m (λ x made. settled (gathered_with (g.InList is_negated listed_none) x) made)
    (λ done made. gather ps done a made) r why more last passed
    (subst (λ (all : Listed). Meets {A = Gathering} (then_answer m (λ x made.
    settled (gathered_with (g.InList is_negated all) x) made)) (Err why) more) none is))

pub in_list_goes : (is_negated : Bool) (m : Answer Typed) (ps : List Part) (all : Listed)
    (a : Around) (more : Made) (r : Result Typed ScopeFail) (done : Gathering) (last : Made)
    → all ≡ listed_none
    → then_answer m (λ x made.
    settled (gathered_with (g.InList is_negated all) x) made) ≡ got done more
    → Meets (gather ps done a more) r last → Meets (in_list_by is_negated ps a m) r last
in_list_goes is_negated m ps all a more r done last none is meets =
    subst (λ (n : Answer Typed). Meets n r last) (in_list_from is_negated m ps a)
    (follows_goes m (λ x made. settled (gathered_with (g.InList is_negated listed_none) x) made)
    (λ done made. gather ps done a made) r done more last
    (subst (λ (all : Listed). then_answer m (λ x made.
    settled (gathered_with (g.InList is_negated all) x) made) ≡ got done more) none is) meets)

-- ---- what may be left out

as_some : (m : Resolved RExpr) (made : Made) → settled (after m (λ t. Some t)) made
    ≡ then_answer (settled m made) (λ t made. got (Some t) made)
as_some (Ok t) made = refl
as_some (Err state) made = refl

condition_from : (m : Answer Typed)
    → then_answer (then_answer m (λ x made. got (Some x) made))
    (λ x made. settled (truth_if x) made)
    ≡ then_answer m (λ x made. then_answer (settled (truth x) made) (λ t made. got (Some t) made))
condition_from (got x last) = as_some (truth x) last
condition_from (fails state) = refl

condition_is : (p : Option Part) (a : Around) (made : Made)
    → then_answer (maybe p a made) (λ x made. settled (truth_if x) made)
    ≡ maybe_condition p a made
condition_is None a made = refl
condition_is (Some p) a made = condition_from (p.means a made)

limit_from : (m : Answer Typed)
    → then_answer (then_answer m (λ x made. got (Some x) made))
    (λ x made. settled (limit_if x) made)
    ≡ then_answer m (λ x made. then_answer (settled (limited x) made) (λ t made. got (Some t) made))
limit_from (got x last) = as_some (limited x) last
limit_from (fails state) = refl

limit_is : (p : Option Part) (a : Around) (made : Made)
    → then_answer (maybe p a made) (λ x made. settled (limit_if x) made) ≡ maybe_limit p a made
limit_is None a made = refl
limit_is (Some p) a made = limit_from (p.means a made)

pub condition_meets : (p : Option Part) (a : Around) (made : Made)
    (r : Result (Option RExpr) ScopeFail) (last : Made)
    → Meets (then_answer (maybe p a made) (λ x made. settled (truth_if x) made)) r last
    → Meets (maybe_condition p a made) r last
condition_meets p a made r last meets =
    subst (λ (m : Answer (Option RExpr)). Meets m r last) (condition_is p a made) meets

pub limit_meets : (p : Option Part) (a : Around) (made : Made)
    (r : Result (Option RExpr) ScopeFail) (last : Made)
    → Meets (then_answer (maybe p a made) (λ x made. settled (limit_if x) made)) r last
    → Meets (maybe_limit p a made) r last
limit_meets p a made r last meets =
    subst (λ (m : Answer (Option RExpr)). Meets m r last) (limit_is p a made) meets
