-- AND and OR.
use Rattle.std.proofs.Common.{◌≡◌, ◌<◌, ◌≤◌, ◌+◌, ◌∙◌, ap, refl, sym, subst, Bool, true, false, List, [], ◌∷◌, ◌++◌, map, length, drop, get_or, append_assoc, append-nil, Option, Some, Ok, ℕ}
use Rattle.std.specs.Prelude.{if◌then◌else◌}
use Rattle.pl_base.specs.declared.types.Ty.TheVariants as type
use Rattle.pl_base.specs.declared.value.Value.{Value}
use Rattle.pl_base.specs.declared.value.Value.TheVariants as values
use Rattle.pl_calc.specs.Logic.{truth_of, truth_value}
use Rattle.pl_direct.specs.Direct.{Is, Means}
use Rattle.pl_direct.specs.Known.{together, type_of, value_of}
use Rattle.pl_direct.specs.Runs.{Joins}
use Rattle.pl_direct.specs.declared.known.Known.{Known}
use Rattle.pl_direct.specs.declared.known.Known.TheVariants.{Bool as Truth}
use Rattle.pl_direct.proofs.Parts.{same_part}
use Rattle.pl_direct.proofs.Values.{value_and, value_or}
use Rattle.pl_names.specs.Names.{Around, Name}
use Rattle.pl_resolved.specs.declared.expression.RExpr.{RExpr}
use Rattle.pl_resolved.specs.declared.expression.RExpr.TheVariants as r
use Rattle.pl_scope.proofs.Equations.{part_and, part_or}
use Rattle.pl_scope.proofs.InTurn.{next as front, ended as past}
use Rattle.pl_scope.specs.Answers as scope
use Rattle.pl_scope.specs.Answers.{Answer as AnswerOf, then_answer}
use Rattle.pl_scope.specs.Expressions.{conditions}
use Rattle.pl_scope.specs.Parts.{Part}
use Rattle.pl_scope.specs.Resolution.{part}
use Rattle.pl_tree.specs.declared.tree.Expr.{Expr}
use Rattle.pl_tree.specs.declared.tree.Expr.TheVariants as e
use Rattle.pl_typing.specs.Resolved.{Resolved}
use Rattle.pl_typing.specs.Typing.{coerced, headed, truth, truth_of as truth_typed}
use Rattle.pl_typing.specs.declared.typed.Typed.{Typed}
use Rattle.pl_value.specs.Frames.{Row}
use Rattle.pl_value.specs.Meaning.{is_fixed, joined, joint, value}
use Rattle.pl_value.specs.Reading.{Reading, got, settled, then_read}

-- a truth is a condition as it is
as_it_is : (tree : RExpr) (head : Name) → truth (headed tree type.Bool head) ≡ Ok tree
unfolding truth coerced
as_it_is tree head = refl

stays_fixed : (fixed first b : Bool) → first ≡ fixed → together fixed first b ≡ fixed
stays_fixed true true b is = refl
stays_fixed true false b is = absurd (let no : false ≡ true = is in cc)
stays_fixed false true b is = absurd (let no : true ≡ false = is in cc)
stays_fixed false false b is = refl

decided : {W : Type 0} (fixed first b last : Bool) (w : W) (on : Option Bool → Reading W (Option Bool))
    → (together fixed first b ≡ fixed → last ≡ fixed) → on (Some (together fixed first b)) ≡ got (Some last) w
    → (let q : Reading W (Option Bool) = if is_fixed fixed (joint fixed (Some first) (Some b)) then got (joint fixed (Some first) (Some b)) w else on (joint fixed (Some first) (Some b)) in q) ≡ got (Some last) w
decided true true b last w on fixes rest = ap (λ (t : Bool). got (Some t) w) (sym (fixes refl))
decided true false true last w on fixes rest = ap (λ (t : Bool). got (Some t) w) (sym (fixes refl))
decided true false false last w on fixes rest = rest
decided false true true last w on fixes rest = rest
decided false true false last w on fixes rest = ap (λ (t : Bool). got (Some t) w) (sym (fixes refl))
decided false false b last w on fixes rest = ap (λ (t : Bool). got (Some t) w) (sym (fixes refl))

pub joins_on : {W : Type 0} (fixed : Bool) (p : Part) (ps : List Part) (a : Around) (row : Row) (first b last : Bool)
    → Means W p a row type.Bool (values.Bool b) → Joins W fixed ps a row (together fixed first b) last → Joins W fixed (p ∷ ps) a row first last
joins_on {W} fixed p ps a row first b last m rest = record {
  trees = m.tree ∷ rest.trees;
  resolves = λ done made.
      ap (λ (q : AnswerOf Typed). then_answer q (λ x made. then_answer (scope.settled (truth x) made) (λ t made. conditions ps (done ++ t ∷ []) a made))) (m.resolves made)
      ∙ (ap (λ (q : Resolved RExpr). then_answer (scope.settled q made) (λ t made. conditions ps (done ++ t ∷ []) a made)) (as_it_is m.tree m.head)
      ∙ (rest.resolves (done ++ m.tree ∷ []) made ∙ ap (λ (all : List RExpr). scope.got all made) (append_assoc done (m.tree ∷ []) rest.trees)));
  is_fixed = λ is. rest.is_fixed (stays_fixed fixed first b is);
  is_value = λ calls sub w.
      ap (λ (q : Reading W Value). then_read (then_read q (λ v w. settled (truth_of v) w)) (λ t w.
      if is_fixed fixed (joint fixed (Some first) t) then got (joint fixed (Some first) t) w
      else joined fixed (map (value calls sub) rest.trees) (joint fixed (Some first) t) (row ∷ []) w)) (m.is_value calls sub w)
      ∙ decided fixed first b last w (λ t. joined fixed (map (value calls sub) rest.trees) t (row ∷ []) w) rest.is_fixed (rest.is_value calls sub w);
}

pub joins_none : {W : Type 0} (fixed : Bool) (a : Around) (row : Row) (first : Bool) → Joins W fixed [] a row first first
joins_none fixed a row first = record {
  trees = [];
  resolves = λ done made. ap (λ (all : List RExpr). scope.got all made) (sym (append-nil done));
  is_fixed = λ is. is;
  is_value = λ calls sub w. refl;
}

pub and_is : {W : Type 0} (xs : List Expr) (a : Around) (row : Row) (t : Bool) → Joins W false (map part xs) a row true t → Is W (e.And xs) a row (Truth t)
and_is {W} xs a row t joins = same_part (part_and xs) (record {
  tree = r.And joins.trees;
  head = [];
  resolves = λ made. ap (λ (q : AnswerOf (List RExpr)). then_answer q (λ list made. scope.got (truth_typed (r.And list)) made)) (joins.resolves [] made);
  is_value = λ calls sub w.
      value_and calls sub joins.trees (row ∷ []) w
      ∙ ap (λ (q : Reading W (Option Bool)). then_read q (λ t w. got (truth_value t) w)) (joins.is_value calls sub w);
})

pub or_is : {W : Type 0} (xs : List Expr) (a : Around) (row : Row) (t : Bool) → Joins W true (map part xs) a row false t → Is W (e.Or xs) a row (Truth t)
or_is {W} xs a row t joins = same_part (part_or xs) (record {
  tree = r.Or joins.trees;
  head = [];
  resolves = λ made. ap (λ (q : AnswerOf (List RExpr)). then_answer q (λ list made. scope.got (truth_typed (r.Or list)) made)) (joins.resolves [] made);
  is_value = λ calls sub w.
      value_or calls sub joins.trees (row ∷ []) w
      ∙ ap (λ (q : Reading W (Option Bool)). then_read q (λ t w. got (truth_value t) w)) (joins.is_value calls sub w);
})

-- ---- in loops

pub one_condition : {W : Type 0} (fixed : Bool) (xs : List Expr) (i : ℕ) (x : Expr) (a : Around) (row : Row) (first b next last : Bool) (k : Known) → i < length xs → x ≡ get_or xs i x
    → Is W x a row k → k ≡ Truth b → next ≡ together fixed first b → Joins W fixed (map part (drop (i + 1) xs)) a row next last → Joins W fixed (map part (drop i xs)) a row first last
one_condition {W} fixed xs i x a row first b next last k lt is m is-truth is-next rest =
    subst (λ (xs : List Expr). Joins W fixed (map part xs) a row first last) (sym (front (λ l. l) xs i x (drop i xs) lt is refl))
    (joins_on fixed (part x) (map part (drop (i + 1) xs)) a row first b last
    (subst (λ (k : Known). Means W (part x) a row (type_of k) (value_of k)) is-truth m)
    (subst (λ (t : Bool). Joins W fixed (map part (drop (i + 1) xs)) a row t last) is-next rest))

pub no_condition : {W : Type 0} (fixed : Bool) (xs : List Expr) (i : ℕ) (a : Around) (row : Row) (first : Bool) → length xs ≤ i → Joins W fixed (map part (drop i xs)) a row first first
no_condition {W} fixed xs i a row first le =
    subst (λ (xs : List Expr). Joins W fixed (map part xs) a row first first) (sym (past (λ l. l) xs i (drop i xs) le refl)) (joins_none fixed a row first)
