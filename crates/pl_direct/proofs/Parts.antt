-- What the nodes mean, from what their parts mean.
use Rattle.std.proofs.Common.{◌≡◌, ◌∙◌, ap, refl, sym, subst, Bool, true, false, List, [], ◌∷◌, Option, Ok, ℕ}
use Rattle.std.specs.Prelude.{not, if◌then◌else◌}
use Rattle.pl_base.specs.declared.operator.Operator.{Operator}
use Rattle.pl_base.specs.declared.operator.Operator.TheVariants as operator
use Rattle.pl_base.specs.declared.operator.Comparison.{Comparison}
use Rattle.pl_base.specs.declared.operator.Test.{Test}
use Rattle.pl_base.specs.declared.operator.Test.TheVariants.{Null}
use Rattle.pl_base.specs.declared.types.Ty.{Ty}
use Rattle.pl_base.specs.declared.types.Ty.TheVariants as type
use Rattle.pl_base.specs.declared.value.Value.{Value}
use Rattle.pl_base.specs.declared.value.Value.TheVariants as value
use Rattle.pl_calc.specs.Answer.{Answer}
use Rattle.pl_calc.specs.Operators.{binary_value, unary_value}
use Rattle.pl_calc.specs.Types.{operator_type}
use Rattle.pl_catalog.specs.declared.object.Object.{Object}
use Rattle.pl_direct.specs.Direct.{Directly, Is, Means, Nullness}
use Rattle.pl_direct.specs.Known.{NullAt, NullIs, Operates, Opposes, Stands, Turns, type_of, value_of}
use Rattle.pl_direct.specs.declared.known.Known.{Known}
use Rattle.pl_direct.specs.declared.known.Known.TheVariants.{Int, Big, Bool as Truth}
use Rattle.pl_direct.proofs.Values.{value_constant, value_place, value_unary, value_binary}
use Rattle.pl_names.specs.Names.{Around, Name, name_means, parameter_means, placed}
use Rattle.pl_names.specs.declared.found.Meaning.{Meaning}
use Rattle.pl_names.specs.declared.scope.Scope.{Scope}
use Rattle.pl_resolved.specs.declared.expression.RExpr.{RExpr}
use Rattle.pl_resolved.specs.declared.expression.RExpr.TheVariants as r
use Rattle.pl_resolved.specs.declared.expression.RPair.{RPair, roll-RPair}
use Rattle.pl_scope.proofs.Equations.{part_compare, part_is, part_literal, part_name, part_not, part_parameter, part_signed}
use Rattle.pl_scope.specs.Answers.{Answer as AnswerOf, got, settled, then_answer}
use Rattle.pl_scope.specs.Expressions.{one_of, two_of}
use Rattle.pl_scope.specs.Parts.{Part}
use Rattle.pl_scope.specs.Resolution.{as_expr, expr_step, nothing_made, part, standing}
use Rattle.pl_scope.specs.declared.made.Made.{Made}
use Rattle.pl_scope.specs.declared.written.Written.{Written}
use Rattle.pl_tree.specs.declared.tree.Argument.TheOpen as l
use Rattle.pl_tree.specs.declared.tree.Expr.{Expr}
use Rattle.pl_tree.specs.declared.tree.Expr.TheVariants as e
use Rattle.pl_tree.specs.declared.tree.Literal.{Literal}
use Rattle.pl_tree.specs.declared.tree.Sign.{Sign}
use Rattle.pl_tree.specs.declared.tree.Sign.TheVariants.{Minus}
use Rattle.pl_typing.specs.Literals.{constant, literal_means}
use Rattle.pl_typing.specs.Operators.{asked, asking, compared, negated, pair, paired, signed}
use Rattle.pl_typing.specs.Resolved.{Resolved, ◌>>=◌}
use Rattle.pl_typing.specs.Typing.{coerced, headed, truth, typed}
use Rattle.pl_typing.specs.declared.typed.Typed.{Typed}
use Rattle.pl_value.specs.Combined.{repeated, then_answer as answer_then}
use Rattle.pl_value.specs.Frames.{Row, cell, or_null}
use Rattle.pl_value.specs.Meaning as meaning
use Rattle.pl_value.specs.Reading as reading

-- the same part
pub same_part : {W : Type 0} {a : Around} {row : Row} {ty : Ty} {v : Value} {p q : Part} → p ≡ q → Means W q a row ty v → Means W p a row ty v
same_part {W} {a} {row} {ty} {v} same m = subst (λ (p : Part). Means W p a row ty v) (sym same) m

-- ---- leaves

pub literal_is : {W : Type 0} (x : Literal) (a : Around) (row : Row) (k : Known) → literal_means x ≡ Ok (constant (value_of k) (type_of k)) → Is W (e.Literal x) a row k
literal_is x a row k is = same_part (part_literal x) (record {
  tree = r.Constant (value_of k);
  head = [];
  resolves = λ made. ap (λ (m : Resolved Typed). settled m made) is;
  is_value = λ calls sub w. value_constant calls sub (value_of k) (row ∷ []) w;
})

place_is : {W : Type 0} (p : Part) (a : Around) (row : Row) (ty : Ty) (v : Value) (head : Name) (m : Meaning)
    → ((made : Made) → p.means a made ≡ got (placed head m) made) → m.row ≡ 0 → Stands m row ty v → Means W p a row ty v
place_is p a row ty v head m reads first stands = record {
  tree = r.Place m.row m.column;
  head = head;
  resolves = λ made. reads made ∙ ap (λ (ty : Ty). got (headed (r.Place m.row m.column) ty head) made) stands.is_type;
  is_value = λ calls sub w. value_place calls sub m.row m.column (row ∷ []) w
      ∙ (ap (λ (n : ℕ). reading.got (or_null (cell (row ∷ []) n m.column)) w) first ∙ ap (λ (o : Option Value). reading.got (or_null o) w) stands.is_value);
}

pub name_is : {W : Type 0} (x : Name) (a : Around) (row : Row) (k : Known) (m : Meaning)
    → name_means x a ≡ Ok m → m.row ≡ 0 → Stands m row (type_of k) (value_of k) → Is W (e.Name x) a row k
name_is x a row k m is first stands =
    same_part (part_name x) (place_is _ a row _ _ x m (λ made. ap (λ (r : Resolved Meaning). settled (r >>= (λ m. Ok (placed x m))) made) is) first stands)

pub parameter_is : {W : Type 0} (n : ℕ) (a : Around) (row : Row) (k : Known) (m : Meaning)
    → parameter_means n a ≡ Ok m → m.row ≡ 0 → Stands m row (type_of k) (value_of k) → Is W (e.Parameter n) a row k
parameter_is n a row k m is first stands =
    same_part (part_parameter n) (place_is _ a row _ _ [] m (λ made. ap (λ (r : Resolved Meaning). settled (r >>= (λ m. Ok (placed [] m))) made) is) first stands)

-- ---- one operand

once : (op : Operator) (v v' : Value) → unary_value op v ≡ Ok v' → repeated op 1 v ≡ Ok v'
unfolding repeated
once op v v' is = ap (λ (m : Answer). answer_then m (repeated op 0)) is

unary_means : {W : Type 0} (written : Written) (f : Typed → Resolved Typed) (op : Operator) (p : Part) (a : Around) (row : Row) (ty ty' : Ty) (v v' : Value)
    → ((tree : RExpr) (head : Name) → f (headed tree ty head) ≡ Ok (typed (r.Unary op 1 tree) ty')) → unary_value op v ≡ Ok v'
    → Means W p a row ty v → Means W (record { written = written; means = one_of f p }) a row ty' v'
unary_means {W} written f op p a row ty ty' v v' makes gives m = record {
  tree = r.Unary op 1 m.tree;
  head = [];
  resolves = λ made.
      ap (λ (q : AnswerOf Typed). then_answer q (λ x made. settled (f x) made)) (m.resolves made)
      ∙ ap (λ (q : Resolved Typed). settled q made) (makes m.tree m.head);
  is_value = λ calls sub w.
      value_unary calls sub op 1 m.tree (row ∷ []) w
      ∙ (ap (λ (q : reading.Reading W Value). reading.then_read q (λ v w. reading.settled (repeated op 1 v) w)) (m.is_value calls sub w)
      ∙ ap (λ (q : Answer). reading.settled q w) (once op v v' gives));
}

-- a minus

minus_makes : (k turned : Known) → Turns k turned → (tree : RExpr) (head : Name)
    → signed (Minus ∷ []) (headed tree (type_of k) head) ≡ Ok (typed (r.Unary operator.Minus 1 tree) (type_of turned))
unfolding signed
minus_makes k turned turns tree head = ap (λ (q : Resolved Ty). q >>= (λ ty. Ok (typed (r.Unary operator.Minus 1 tree) ty))) turns.types

pub minus_is : {W : Type 0} (ss : List Sign) (x : Expr) (a : Around) (row : Row) (k turned : Known) → ss ≡ Minus ∷ [] → Turns k turned → Is W x a row k → Is W (e.Signed ss x) a row turned
minus_is {W} ss x a row k turned is turns m =
    subst (λ (ss : List Sign). Is W (e.Signed ss x) a row turned) (sym is)
    (same_part (part_signed (Minus ∷ []) x)
    (unary_means _ (signed (Minus ∷ [])) operator.Minus (part x) a row (type_of k) (type_of turned) (value_of k) (value_of turned) (minus_makes k turned turns) turns.values m))

-- NOT

not_makes : (k : Known) → type_of k ≡ type.Bool → (tree : RExpr) (head : Name) → negated 1 (headed tree (type_of k) head) ≡ Ok (typed (r.Unary operator.Not 1 tree) type.Bool)
unfolding negated truth coerced
not_makes k is tree head = ap (λ (ty : Ty). negated 1 (headed tree ty head)) is

pub not_is : {W : Type 0} (n : ℕ) (x : Expr) (a : Around) (row : Row) (k turned : Known) → n ≡ 1 → Opposes k turned → Is W x a row k → Is W (e.Not n x) a row turned
not_is {W} n x a row k turned is opposes m =
    subst (λ (n : ℕ). Is W (e.Not n x) a row turned) (sym is)
    (same_part (part_not 1 x)
    (subst (λ (ty : Ty). Means W (expr_step (l.Not 1 (part x))) a row ty (value_of turned)) (sym opposes.types)
    (unary_means _ (negated 1) operator.Not (part x) a row (type_of k) type.Bool (value_of k) (value_of turned) (not_makes k opposes.operand) opposes.values m)))

-- IS NULL and IS NOT NULL

null_makes : (is_negated : Bool) (ty : Ty) (tree : RExpr) (head : Name)
    → asked is_negated (headed tree ty head) Null ≡ Ok (typed (r.Unary (asking is_negated Null) 1 tree) type.Bool)
unfolding asked
null_makes is_negated ty tree head = refl

null_gives : (is_negated : Bool) (v : Value) (is : Bool) → NullIs v is → unary_value (asking is_negated Null) v ≡ Ok (value.Bool (if is_negated then not is else is))
null_gives true v is says = says.is_not_null
null_gives false v is says = says.is_null

pub null_is : {W : Type 0} (is_negated : Bool) (x : Expr) (test : Test) (a : Around) (row : Row) (is : Bool) (k : Known) → test ≡ Null → k ≡ Truth (if is_negated then not is else is)
    → Nullness W x a row is → Is W (e.Is is_negated x test) a row k
null_is {W} is_negated x test a row is k for-null is-known n =
    subst (λ (test : Test). Is W (e.Is is_negated x test) a row k) (sym for-null)
    (subst (λ (k : Known). Is W (e.Is is_negated x Null) a row k) (sym is-known)
    (same_part (part_is is_negated x Null)
    (unary_means _ (λ t. asked is_negated t Null) (asking is_negated Null) (part x) a row n.ty type.Bool n.v (value.Bool (if is_negated then not is else is))
    (null_makes is_negated n.ty) (null_gives is_negated n.v is n.says) n.means)))

pub null_variable : {W : Type 0} (x : Name) (a : Around) (row : Row) (is : Bool) (m : Meaning) → name_means x a ≡ Ok m → m.row ≡ 0 → NullAt m row is → Nullness W (e.Name x) a row is
null_variable x a row is m means first at = record {
  ty = m.ty;
  v = at.v;
  means = same_part (part_name x) (place_is _ a row _ _ x m (λ made. ap (λ (r : Resolved Meaning). settled (r >>= (λ m. Ok (placed x m))) made) means) first (record { is_type = refl; is_value = at.stands }));
  says = at.says;
}

not_null : (k : Known) → NullIs (value_of k) false
not_null (Int z) = record { is_null = refl; is_not_null = refl }
not_null (Big z) = record { is_null = refl; is_not_null = refl }
not_null (Truth b) = record { is_null = refl; is_not_null = refl }

pub known_not_null : {W : Type 0} (x : Expr) (a : Around) (row : Row) (k : Known) → Is W x a row k → Nullness W x a row false
known_not_null x a row k m = record { ty = type_of k; v = value_of k; means = m; says = not_null k }

-- ---- two operands

pair_of : (op : Comparison) (x y : Known) (tree tree' : RExpr) (head head' : Name)
    → pair (operator.Compare op) (headed tree (type_of x) head) (headed tree' (type_of y) head') ≡ roll-RPair (record { first = tree; second = tree' })
unfolding coerced
pair_of op (Int x) (Int y) tree tree' head head' = refl
pair_of op (Int x) (Big y) tree tree' head head' = refl
pair_of op (Int x) (Truth y) tree tree' head head' = refl
pair_of op (Big x) (Int y) tree tree' head head' = refl
pair_of op (Big x) (Big y) tree tree' head head' = refl
pair_of op (Big x) (Truth y) tree tree' head head' = refl
pair_of op (Truth x) (Int y) tree tree' head head' = refl
pair_of op (Truth x) (Big y) tree tree' head head' = refl
pair_of op (Truth x) (Truth y) tree tree' head head' = refl

abbrev both_operands : RExpr → RExpr → RPair
both_operands x y = roll-RPair (record { first = x; second = y })

compared_by : (op : Comparison) (x y k : Known) (tree tree' : RExpr) (head head' : Name) → operator_type (operator.Compare op) (type_of x) (type_of y) ≡ Ok (type_of k)
    → compared op (headed tree (type_of x) head) (headed tree' (type_of y) head') ≡ Ok (typed (r.Binary (operator.Compare op) (both_operands tree tree')) (type_of k))
unfolding compared paired
compared_by op x y k tree tree' head head' types =
    ap (λ (q : Resolved Ty). q >>= (λ ty. Ok (typed (r.Binary (operator.Compare op) (pair (operator.Compare op) (headed tree (type_of x) head) (headed tree' (type_of y) head'))) ty))) types
    ∙ ap (λ (ps : RPair). Ok (typed (r.Binary (operator.Compare op) ps) (type_of k))) (pair_of op x y tree tree' head head')

compare_means : {W : Type 0} (written : Written) (op : Comparison) (p q : Part) (a : Around) (row : Row) (x y k : Known)
    → Means W p a row (type_of x) (value_of x) → Means W q a row (type_of y) (value_of y) → Operates (operator.Compare op) x y k
    → Means W (record { written = written; means = two_of (compared op) p q }) a row (type_of k) (value_of k)
compare_means {W} written op p q a row x y k m n operates = record {
  tree = r.Binary (operator.Compare op) (both_operands m.tree n.tree);
  head = [];
  resolves = λ made.
      ap (λ (z : AnswerOf Typed). then_answer z (λ x made. then_answer (q.means a made) (λ y made. settled (compared op x y) made))) (m.resolves made)
      ∙ (ap (λ (z : AnswerOf Typed). then_answer z (λ y made. settled (compared op (headed m.tree (type_of x) m.head) y) made)) (n.resolves made)
      ∙ ap (λ (z : Resolved Typed). settled z made) (compared_by op x y k m.tree n.tree m.head n.head operates.types));
  is_value = λ calls sub w.
      value_binary calls sub (operator.Compare op) m.tree n.tree (row ∷ []) w
      ∙ (ap (λ (z : reading.Reading W Value). reading.then_read z (λ x w. reading.then_read (meaning.value calls sub n.tree (row ∷ []) w) (λ y w. reading.settled (binary_value (operator.Compare op) x y) w))) (m.is_value calls sub w)
      ∙ (ap (λ (z : reading.Reading W Value). reading.then_read z (λ y w. reading.settled (binary_value (operator.Compare op) (value_of x) y) w)) (n.is_value calls sub w)
      ∙ ap (λ (z : Answer). reading.settled z w) operates.values));
}

pub compare_is : {W : Type 0} (op : Comparison) (x y : Expr) (a : Around) (row : Row) (k k' t : Known) → Is W x a row k → Is W y a row k' → Operates (operator.Compare op) k k' t → Is W (e.Compare op x y) a row t
compare_is op x y a row k k' t m n operates = same_part (part_compare op x y) (compare_means _ op (part x) (part y) a row k k' t m n operates)

-- ---- the whole

stands_whole : {W : Type 0} (objects : List Object) (scope : Scope) (x : Expr) (row : Row) (k : Known) → Is W x (standing objects scope) row k → Directly W objects scope x row k
stands_whole objects scope x row k m = record {
  expr = record { typed = headed m.tree (type_of k) m.head; queries = [] };
  resolves = ap as_expr (m.resolves nothing_made);
  is_type = refl;
  no_queries = refl;
  is_value = m.is_value;
}

pub whole_is : {W : Type 0} (objects : List Object) (scope : Scope) (x : Expr) (row : Row) (a : Around) (k : Known) → a ≡ standing objects scope → Is W x a row k → Directly W objects scope x row k
whole_is {W} objects scope x row a k is m = stands_whole objects scope x row k (subst (λ (a : Around). Is W x a row k) is m)
