-- Variables that targets name, one after another, and what is resolved for CASE.
use Rattle.std.proofs.Common.{◌≡◌, ◌<◌, ◌≤◌, ◌+◌, ◌∙◌, ℕ, List, [], ◌∷◌, ◌++◌, Result, Ok, Err, add-one, ap, append_assoc, append-nil, drop, drop-cons, drop_of_length-le, false, get_or, length, map, refl, subst, sym}
use Rattle.std.specs.Prelude.{IsErrAnd}
use Rattle.pl_base.specs.declared.state.State.{State}
use Rattle.pl_bodies.specs.declared.simple.Target.{Target}
use Rattle.pl_catalog.specs.declared.object.Object.{Object}
use Rattle.pl_base.specs.declared.types.Ty.{Ty}
use Rattle.pl_calling.specs.pl_names.Names.{Around}
use Rattle.pl_resolved.specs.declared.expression.RExpr.TheVariants.{Place}
use Rattle.pl_direct.specs.pl_scope.Answers.{Answer, Meets, got, settled, then_answer}
use Rattle.pl_direct.specs.pl_scope.Expressions.{listed_on}
use Rattle.pl_direct.specs.pl_scope.Resolution.{as_expr, nothing_made, part, standing}
use Rattle.pl_direct.specs.pl_scope.declared.made.Made.{Made}
use Rattle.pl_direct.specs.pl_scope.declared.resolve.ResolvedExpr.{ResolvedExpr}
use Rattle.pl_tree.specs.declared.tree.Expr.{Expr}
use Rattle.pl_typing.specs.Resolved.{Gives, Resolved, ◌>>=◌}
use Rattle.pl_typing.specs.Typing.{typed}
use Rattle.pl_typing.specs.Unions.{in_list, listed_none, listed_with}
use Rattle.pl_typing.specs.declared.fail.ScopeFail.{ScopeFail}
use Rattle.pl_typing.specs.declared.fail.ScopeFail.TheVariants.{State as Fails, Memory}
use Rattle.pl_typing.specs.declared.typed.Typed.{Typed}
use Rattle.pl_typing.specs.declared.unions.Listed.{Listed}
use Rattle.pl_world.specs.Resolving.{Variable, aiming, aiming_all, matching}
use Rattle.pl_world.specs.Variables.{variables_of}
use Rattle.pl_world.specs.World.{Static}

-- what `?` hands on
pub handed_on : {A : Type 0} (r : Result A ScopeFail) (why : ScopeFail) (m : Resolved A) → IsErrAnd r (λ e. e ≡ why) → Gives {A = A} (Err why) m → Gives r m
handed_on (Ok x) why m passed is = absurd passed
handed_on {A} (Err e) why m passed is = subst (λ (e : ScopeFail). Gives {A = A} (Err e) m) (sym passed) is

-- ---- targets

abbrev found_all : List Variable → Resolved (List Variable)
found_all vs = Ok vs

-- what targets that are left name, behind what was named
abbrev pub behind_those : List Variable → Resolved (List Variable) → Resolved (List Variable)
behind_those done m = m >>= (λ vs. Ok (done ++ vs))

module _ (objects : List Object) (st : Static) where
  cons_is : (t : Target) (ts : List Target) → aiming_all (t ∷ ts) objects st ≡ aiming t objects st >>= (λ v. aiming_all ts objects st >>= (λ vs. Ok (v ∷ vs)))
  unfolding aiming_all
  cons_is t ts = refl

  nil_is : aiming_all [] objects st ≡ Ok []
  unfolding aiming_all
  nil_is = refl

  moved : (done : List Variable) (v : Variable) (m : Resolved (List Variable)) → behind_those done (m >>= (λ vs. Ok (v ∷ vs))) ≡ behind_those (done ++ v ∷ []) m
  moved done v (Ok vs) = ap found_all (sym (append_assoc done (v ∷ []) vs))
  moved done v (Err state) = refl

  unmoved : (m : Resolved (List Variable)) → m ≡ behind_those [] m
  unmoved (Ok vs) = refl
  unmoved (Err state) = refl

  pub aimed_none : (ts : List Target) → aiming_all ts objects st ≡ behind_those [] (aiming_all ts objects st)
  aimed_none ts = unmoved (aiming_all ts objects st)

  module _ (ts : List Target) (i : ℕ) (done : List Variable) (m : Resolved (List Variable)) (so_far : m ≡ behind_those done (aiming_all (drop i ts) objects st)) where
    module _ (t : Target) (lt : i < length ts) (is : t ≡ get_or ts i t) where
      front : drop i ts ≡ t ∷ drop (i + 1) ts
      front = rw (add-one, drop-cons ts i t lt, ← is) refl

      opened : m ≡ behind_those done (aiming t objects st >>= (λ v. aiming_all (drop (i + 1) ts) objects st >>= (λ vs. Ok (v ∷ vs))))
      opened = so_far ∙ ap (λ (x : Resolved (List Variable)). behind_those done x) (ap (λ (ys : List Target). aiming_all ys objects st) front ∙ cons_is t (drop (i + 1) ts))

      pub aimed_more : (v : Variable) → aiming t objects st ≡ Ok v → m ≡ behind_those (done ++ v ∷ []) (aiming_all (drop (i + 1) ts) objects st)
      aimed_more v one = opened ∙ (ap (λ (x : Resolved Variable). behind_those done (x >>= (λ v. aiming_all (drop (i + 1) ts) objects st >>= (λ vs. Ok (v ∷ vs))))) one ∙ moved done v (aiming_all (drop (i + 1) ts) objects st))

      pub aimed_not : (state : State) → aiming t objects st ≡ Err state → m ≡ Err state
      aimed_not state one = opened ∙ ap (λ (x : Resolved Variable). behind_those done (x >>= (λ v. aiming_all (drop (i + 1) ts) objects st >>= (λ vs. Ok (v ∷ vs))))) one

      pub aimed_failed : (r : Result (List Variable) ScopeFail) (why : ScopeFail) → IsErrAnd r (λ e. e ≡ why) → Gives {A = Variable} (Err why) (aiming t objects st) → Gives r m
      aimed_failed r (Fails state) passed one = handed_on r (Fails state) m passed (aimed_not state one)
      aimed_failed r Memory passed one = handed_on r Memory m passed one

    pub aimed_all : length ts ≤ i → m ≡ Ok done
    aimed_all le = so_far ∙ (ap (λ (ys : List Target). behind_those done (aiming_all ys objects st)) (drop_of_length-le ts le)
        ∙ (ap (λ (x : Resolved (List Variable)). behind_those done x) nil_is ∙ ap found_all (append-nil done)))

-- ---- CASE

abbrev pub in_those : Listed → Made → Answer Typed
in_those all made = settled (in_list false all) made

abbrev pub operand_first : Ty → Static → Listed
operand_first t st = listed_with listed_none (typed (Place 0 (variables_of st.scope.frames)) t)

abbrev pub listed_all : Ty → List Expr → List Object → Static → Answer Listed
listed_all t values objects st = listed_on (map part values) (operand_first t st) (standing objects st.scope) nothing_made

matching_is : (t : Ty) (values : List Expr) (objects : List Object) (st : Static) → matching t values objects st ≡ as_expr (then_answer (listed_all t values objects st) in_those)
unfolding matching
matching_is t values objects st = refl

-- the list, as the code begins it
pub listed_here : (t : Ty) (values : List Expr) (objects : List Object) (st : Static) (first : Listed) (a : Around) (begun : Made) (r : Result Listed ScopeFail) (made : Made)
    → first ≡ operand_first t st → a ≡ standing objects st.scope → begun ≡ nothing_made → Meets (listed_on (map part values) first a begun) r made → Meets (listed_all t values objects st) r made
listed_here t values objects st first a begun r made one two three meets =
    subst (λ (f : Listed). Meets (listed_on (map part values) f (standing objects st.scope) nothing_made) r made) one
    (subst (λ (a : Around). Meets (listed_on (map part values) first a nothing_made) r made) two
    (subst (λ (m : Made). Meets (listed_on (map part values) first a m) r made) three meets))

listed_failed : (m : Answer Listed) (why : ScopeFail) (made : Made) → Meets {A = Listed} m (Err why) made → Gives {A = ResolvedExpr} (Err why) (as_expr (then_answer m in_those))
listed_failed m (Fails state) made is = ap (λ (m : Answer Listed). as_expr (then_answer m in_those)) is
listed_failed m Memory made is = is

in_failed : (m : Resolved Typed) (why : ScopeFail) (made : Made) → Gives {A = Typed} (Err why) m → Gives {A = ResolvedExpr} (Err why) (as_expr (settled m made))
in_failed m (Fails state) made is = ap (λ (m : Resolved Typed). as_expr (settled m made)) is
in_failed m Memory made is = is

module _ (t : Ty) (values : List Expr) (objects : List Object) (st : Static) where
  pub found_not_listed : (r : Result ResolvedExpr ScopeFail) (why : ScopeFail) (made : Made) → IsErrAnd r (λ e. e ≡ why) → Meets {A = Listed} (listed_all t values objects st) (Err why) made → Gives r (matching t values objects st)
  found_not_listed r why made passed is = subst (λ (m : Resolved ResolvedExpr). Gives r m) (sym (matching_is t values objects st)) (handed_on r why (as_expr (then_answer (listed_all t values objects st) in_those)) passed (listed_failed (listed_all t values objects st) why made is))

  module _ (all : Listed) (made : Made) (listed : listed_all t values objects st ≡ got all made) where
    all_opened : matching t values objects st ≡ as_expr (settled (in_list false all) made)
    all_opened = matching_is t values objects st ∙ ap (λ (m : Answer Listed). as_expr (then_answer m in_those)) listed

    pub found_not_in : (r : Result ResolvedExpr ScopeFail) (why : ScopeFail) → IsErrAnd r (λ e. e ≡ why) → Gives {A = Typed} (Err why) (in_list false all) → Gives r (matching t values objects st)
    found_not_in r why passed is = subst (λ (m : Resolved ResolvedExpr). Gives r m) (sym all_opened) (handed_on r why (as_expr (settled (in_list false all) made)) passed (in_failed (in_list false all) why made is))

    pub found : (x : Typed) → in_list false all ≡ Ok x → matching t values objects st ≡ Ok (record { typed = x; queries = made.queries })
    found x is = all_opened ∙ ap (λ (m : Resolved Typed). as_expr (settled m made)) is
