-- Operators from the left.
use Rattle.std.proofs.Common.{◌≡◌, ◌<◌, ◌≤◌, ◌+◌, ◌∙◌, ap, refl, sym, subst, List, [], ◌∷◌, ◌++◌, map, length, drop, get_or, append_assoc, append-nil, Ok, ℕ}
use Rattle.pl_base.specs.declared.operator.Operator.{Operator}
use Rattle.pl_base.specs.declared.operator.Operator.TheVariants as operator
use Rattle.pl_base.specs.declared.operator.Arithmetic.{Arithmetic}
use Rattle.pl_base.specs.declared.types.Ty.{Ty}
use Rattle.pl_base.specs.declared.value.Value.{Value}
use Rattle.pl_calc.specs.Answer.{Answer}
use Rattle.pl_calc.specs.Operators.{binary_value}
use Rattle.pl_calc.specs.Types.{operator_type}
use Rattle.pl_direct.specs.Direct.{Is, Means}
use Rattle.pl_direct.specs.Known.{Operates, type_of, value_of}
use Rattle.pl_direct.specs.Runs.{Leads}
use Rattle.pl_direct.specs.declared.known.Known.{Known}
use Rattle.pl_direct.specs.declared.known.Known.TheVariants as known
use Rattle.pl_direct.proofs.Parts.{same_part}
use Rattle.pl_direct.proofs.Values.{step_with, value_chain}
use Rattle.pl_names.specs.Names.{Around, Name}
use Rattle.pl_resolved.specs.declared.expression.RExpr.{RExpr}
use Rattle.pl_resolved.specs.declared.expression.RExpr.TheVariants as r
use Rattle.pl_resolved.specs.declared.expression.RChain.{roll-RChain}
use Rattle.pl_resolved.specs.declared.expression.RStep.{RStep, roll-RStep}
use Rattle.pl_scope.proofs.Equations.{part_product_view, part_sum_view}
use Rattle.pl_scope.proofs.InTurn.{next as front, ended as past}
use Rattle.pl_scope.specs.Answers as scope
use Rattle.pl_scope.specs.Answers.{Answer as AnswerOf, then_answer}
use Rattle.pl_scope.specs.Expressions.{chain_of, run_on}
use Rattle.pl_scope.specs.Parts.{Part, StepPart}
use Rattle.pl_scope.specs.Resolution.{factor_view, part, term_view}
use Rattle.pl_scope.specs.declared.made.Made.{Made}
use Rattle.pl_scope.specs.declared.written.Written.{Written}
use Rattle.pl_tree.specs.declared.tree.Expr.{Expr}
use Rattle.pl_tree.specs.declared.tree.Expr.TheVariants as e
use Rattle.pl_tree.specs.declared.tree.Factor.{Factor, out-Factor}
use Rattle.pl_tree.specs.declared.tree.Term.{Term, out-Term}
use Rattle.pl_typing.specs.Operators.{ended, extended, run_of, stepped}
use Rattle.pl_typing.specs.Resolved.{Resolved, ◌>>=◌}
use Rattle.pl_typing.specs.Typing.{coerced, headed}
use Rattle.pl_typing.specs.declared.chain.Run.{Run}
use Rattle.pl_typing.specs.declared.typed.Typed.{Typed}
use Rattle.pl_value.specs.Frames.{Frame, Row}
use Rattle.pl_value.specs.Meaning.{Calls, Sub, step, steps_read, value}
use Rattle.pl_value.specs.Reading.{Reading, got, settled, then_read}

abbrev step_with_tree : Operator → RExpr → RStep
step_with_tree op tree = roll-RStep (record { operator = op; operand = tree })

abbrev longer : Operator → RExpr → List RStep → Ty → RExpr → Run
longer op first steps ty tree = record { first = first; steps = steps ++ step_with_tree op tree ∷ []; ty = ty }

-- what is known needs no cast beside what is known
kept_of : (op : Arithmetic) (k y : Known) (first : RExpr) (steps : List RStep) (tree : RExpr) (head : Name) (ty : Ty)
    → extended (operator.Arithmetic op) (record { first = first; steps = steps; ty = type_of k }) (headed tree (type_of y) head) ty
    ≡ longer (operator.Arithmetic op) first steps ty tree
unfolding extended coerced
kept_of op (known.Int k) (known.Int y) first steps tree head ty = refl
kept_of op (known.Int k) (known.Big y) first steps tree head ty = refl
kept_of op (known.Int k) (known.Bool y) first steps tree head ty = refl
kept_of op (known.Big k) (known.Int y) first steps tree head ty = refl
kept_of op (known.Big k) (known.Big y) first steps tree head ty = refl
kept_of op (known.Big k) (known.Bool y) first steps tree head ty = refl
kept_of op (known.Bool k) (known.Int y) first steps tree head ty = refl
kept_of op (known.Bool k) (known.Big y) first steps tree head ty = refl
kept_of op (known.Bool k) (known.Bool y) first steps tree head ty = refl

stepped_by : (op : Operator) (k y : Known) (run : Run) (tree : RExpr) (head : Name) (ty : Ty) (next : Run) → run.ty ≡ type_of k
    → operator_type op (type_of k) (type_of y) ≡ Ok ty
    → extended op (record { first = run.first; steps = run.steps; ty = type_of k }) (headed tree (type_of y) head) ty ≡ next
    → stepped op run (headed tree (type_of y) head) ≡ Ok next
unfolding stepped
stepped_by op k y run tree head ty next is types gives =
    ap (λ (t : Ty). stepped op (record { first = run.first; steps = run.steps; ty = t }) (headed tree (type_of y) head)) is
    ∙ (ap (λ (m : Resolved Ty). m >>= (λ ty. Ok (extended op (record { first = run.first; steps = run.steps; ty = type_of k }) (headed tree (type_of y) head) ty))) types
    ∙ ap (λ (run : Run). Ok run) gives)

-- ---- one more step

abbrev step_part : Arithmetic → Part → StepPart
step_part op p = record { by = operator.Arithmetic op; operand = p }

on_by_one : (op : Arithmetic) (p : Part) (ss : List StepPart) (a : Around) (run next : Run) (tree : RExpr) (ty : Ty) (head : Name) (made : Made)
    → p.means a made ≡ scope.got (headed tree ty head) made → stepped (operator.Arithmetic op) run (headed tree ty head) ≡ Ok next
    → run_on (step_part op p ∷ ss) run a made ≡ run_on ss next a made
on_by_one op p ss a run next tree ty head made reads steps =
    ap (λ (m : AnswerOf Typed). then_answer m (λ y made. then_answer (scope.settled (stepped (operator.Arithmetic op) run y) made) (λ run made. run_on ss run a made))) reads
    ∙ ap (λ (m : Resolved Run). then_answer (scope.settled m made) (λ run made. run_on ss run a made)) steps

value_by_one : {W : Type 0} (calls : Calls W) (sub : Sub W) (op : Operator) (tree : RExpr) (more : List RStep) (x y z : Value) (frame : Frame) (w : W)
    → value calls sub tree frame w ≡ got y w → binary_value op x y ≡ Ok z
    → steps_read (map (step calls sub) (step_with_tree op tree ∷ more)) x frame w ≡ steps_read (map (step calls sub) more) z frame w
value_by_one {W} calls sub op tree more x y z frame w reads gives =
    ap (λ (q : Reading W Value). then_read q (λ v w. steps_read (map (step calls sub) more) v frame w))
    (step_with calls sub op tree x frame w
    ∙ (ap (λ (q : Reading W Value). then_read q (λ y w. settled (binary_value op x y) w)) reads ∙ ap (λ (m : Answer). settled m w) gives))

pub leads_on : {W : Type 0} (op : Arithmetic) (p : Part) (ss : List StepPart) (a : Around) (row : Row) (k y next last : Known)
    → Means W p a row (type_of y) (value_of y) → Operates (operator.Arithmetic op) k y next → Leads W ss a row next last → Leads W (step_part op p ∷ ss) a row k last
leads_on op p ss a row k y next last m operates rest = record {
  more = step_with_tree (operator.Arithmetic op) m.tree ∷ rest.more;
  resolves = λ run made is.
      on_by_one op p ss a run (longer (operator.Arithmetic op) run.first run.steps (type_of next) m.tree) m.tree (type_of y) m.head made (m.resolves made)
      (stepped_by (operator.Arithmetic op) k y run m.tree m.head (type_of next) _ is operates.types (kept_of op k y run.first run.steps m.tree m.head (type_of next)))
      ∙ (rest.resolves (longer (operator.Arithmetic op) run.first run.steps (type_of next) m.tree) made refl
      ∙ ap (λ (steps : List RStep). scope.got (let r : Run = record { first = run.first; steps = steps; ty = type_of last } in r) made)
      (append_assoc run.steps (step_with_tree (operator.Arithmetic op) m.tree ∷ []) rest.more));
  is_value = λ calls sub w.
      value_by_one calls sub (operator.Arithmetic op) m.tree rest.more (value_of k) (value_of y) (value_of next) (row ∷ []) w (m.is_value calls sub w) operates.values
      ∙ rest.is_value calls sub w;
}

pub leads_nowhere : {W : Type 0} (a : Around) (row : Row) (k : Known) → Leads W [] a row k k
leads_nowhere a row k = record {
  more = [];
  resolves = λ run made is.
      ap (λ (steps : List RStep). scope.got (let r : Run = record { first = run.first; steps = steps; ty = run.ty } in r) made) (sym (append-nil run.steps))
      ∙ ap (λ (ty : Ty). scope.got (let r : Run = record { first = run.first; steps = run.steps ++ []; ty = ty } in r) made) is;
  is_value = λ calls sub w. refl;
}

-- ---- whole chains

chain_means : {W : Type 0} (written : Written) (p : Part) (ss : List StepPart) (a : Around) (row : Row) (k last : Known)
    → Means W p a row (type_of k) (value_of k) → Leads W ss a row k last
    → Means W (record { written = written; means = chain_of p ss }) a row (type_of last) (value_of last)
unfolding ended
chain_means {W} written p ss a row k last m leads = record {
  tree = r.Chain (roll-RChain (record { first = m.tree; steps = leads.more }));
  head = [];
  resolves = λ made.
      ap (λ (q : AnswerOf Typed). then_answer q (λ x made. then_answer (run_on ss (run_of x) a made) (λ run made. scope.got (ended run) made))) (m.resolves made)
      ∙ ap (λ (q : AnswerOf Run). then_answer q (λ run made. scope.got (ended run) made)) (leads.resolves (run_of (headed m.tree (type_of k) m.head)) made refl);
  is_value = λ calls sub w.
      value_chain calls sub m.tree leads.more (row ∷ []) w
      ∙ (ap (λ (q : Reading W Value). then_read q (λ v w. steps_read (map (step calls sub) leads.more) v (row ∷ []) w)) (m.is_value calls sub w)
      ∙ leads.is_value calls sub w);
}

pub sum_is : {W : Type 0} (x : Expr) (ts : List Term) (a : Around) (row : Row) (k last : Known) → Is W x a row k → Leads W (map term_view ts) a row k last → Is W (e.Sum x ts) a row last
sum_is x ts a row k last m leads = same_part (part_sum_view x ts) (chain_means _ (part x) (map term_view ts) a row k last m leads)

pub product_is : {W : Type 0} (x : Expr) (fs : List Factor) (a : Around) (row : Row) (k last : Known) → Is W x a row k → Leads W (map factor_view fs) a row k last → Is W (e.Product x fs) a row last
product_is x fs a row k last m leads = same_part (part_product_view x fs) (chain_means _ (part x) (map factor_view fs) a row k last m leads)

-- ---- in loops

pub one_term : {W : Type 0} (ts : List Term) (i : ℕ) (t : Term) (a : Around) (row : Row) (k y next last : Known) → i < length ts → t ≡ get_or ts i t
    → Is W (out-Term t).operand a row y → Operates (operator.Arithmetic (out-Term t).operator) k y next → Leads W (map term_view (drop (i + 1) ts)) a row next last
    → Leads W (map term_view (drop i ts)) a row k last
one_term {W} ts i t a row k y next last lt is m operates rest =
    subst (λ (ts : List Term). Leads W (map term_view ts) a row k last) (sym (front (λ l. l) ts i t (drop i ts) lt is refl))
    (leads_on (out-Term t).operator (part (out-Term t).operand) (map term_view (drop (i + 1) ts)) a row k y next last m operates rest)

pub one_factor : {W : Type 0} (ts : List Factor) (i : ℕ) (t : Factor) (a : Around) (row : Row) (k y next last : Known) → i < length ts → t ≡ get_or ts i t
    → Is W (out-Factor t).operand a row y → Operates (operator.Arithmetic (out-Factor t).operator) k y next → Leads W (map factor_view (drop (i + 1) ts)) a row next last
    → Leads W (map factor_view (drop i ts)) a row k last
one_factor {W} ts i t a row k y next last lt is m operates rest =
    subst (λ (ts : List Factor). Leads W (map factor_view ts) a row k last) (sym (front (λ l. l) ts i t (drop i ts) lt is refl))
    (leads_on (out-Factor t).operator (part (out-Factor t).operand) (map factor_view (drop (i + 1) ts)) a row k y next last m operates rest)

pub no_more : {W X : Type 0} (view : X → StepPart) (xs : List X) (i : ℕ) (a : Around) (row : Row) (k : Known) → length xs ≤ i → Leads W (map view (drop i xs)) a row k k
no_more {W} {X} view xs i a row k le =
    subst (λ (xs : List X). Leads W (map view xs) a row k k) (sym (past (λ l. l) xs i (drop i xs) le refl)) (leads_nowhere a row k)
