-- What a node answers, from what its parts gave in their turn: where one failed, the rest isn't
-- looked at.
use Rattle.std.proofs.Common.{◌≡◌, ◌<◌, ◌≤◌, ◌+◌, ◌∙◌, refl, ap, sym, subst, ℕ, List, [], ◌∷◌, drop, get_or, length, Result, Ok, Err, add-one, drop-cons, rules, arith}
use Rattle.std.proofs.lemmas.Grind.{common_steps}
use Rattle.std.specs.Prelude.{IsErrAnd}
use Rattle.pl_scope.proofs.Lifted.{lifted}
use Rattle.pl_scope.specs.Answers.{Answer, Meets, got, settled, then_answer}
use Rattle.pl_scope.specs.declared.made.Made.{Made}
use Rattle.pl_typing.specs.Resolved.{Resolved, Gives}
use Rattle.pl_typing.specs.declared.fail.ScopeFail.{ScopeFail}
use Rattle.pl_typing.specs.declared.fail.ScopeFail.TheVariants.{State as Fails, Memory}

handed_on : {A : Type 0} (m : Answer A) (r : Result A ScopeFail) (why : ScopeFail) (made : Made)
    → IsErrAnd r (λ e. e ≡ why) → Meets {A = A} m (Err why) made → Meets m r made
handed_on m (Ok x) why made passed is = absurd passed
handed_on {A} m (Err e) why made passed is =
    subst (λ (e : ScopeFail). Meets {A = A} m (Err e) made) (sym passed) is

pub failed : {A B : Type 0} (m : Answer A) (f : A → Made → Answer B) (why : ScopeFail) (made last : Made)
    → Meets {A = A} m (Err why) made → Meets {A = B} (then_answer m f) (Err why) last
failed {A} m f (Fails state) made last is = ap (λ (m : Answer A). then_answer m f) is
failed m f Memory made last is = is

-- a part failed, and the call hands its failure on
pub stops : {A B : Type 0} (m : Answer A) (f : A → Made → Answer B) (r : Result B ScopeFail)
    (why : ScopeFail) (made last : Made) → IsErrAnd r (λ e. e ≡ why)
    → Meets {A = A} m (Err why) made → Meets (then_answer m f) r last
stops m f r why made last passed is =
    handed_on (then_answer m f) r why last passed (failed m f why made last is)

-- a part gave something, and the rest goes on with that
pub goes_on : {A B : Type 0} (m : Answer A) (f : A → Made → Answer B) (r : Result B ScopeFail)
    (x : A) (made last : Made) → m ≡ got x made → Meets (f x made) r last
    → Meets (then_answer m f) r last
goes_on {A} m f r x made last is meets =
    subst (λ (m : Answer A). Meets (then_answer m f) r last) (sym is) meets

-- a step that makes nothing failed
pub step_stops : {A B : Type 0} (m : Resolved A) (f : A → Made → Answer B) (r : Result B ScopeFail)
    (why : ScopeFail) (made last : Made) → IsErrAnd r (λ e. e ≡ why) → Gives {A = A} (Err why) m
    → Meets (then_answer (settled m made) f) r last
step_stops {A} m f r why made last passed is =
    stops (settled m made) f r why made last passed (lifted {A = A} (Err why) m made is)

-- a step that makes nothing gave something
pub step_goes : {A B : Type 0} (m : Resolved A) (f : A → Made → Answer B) (r : Result B ScopeFail)
    (x : A) (made last : Made) → m ≡ Ok x → Meets (f x made) r last
    → Meets (then_answer (settled m made) f) r last
step_goes {A} m f r x made last is meets =
    goes_on (settled m made) f r x made last (ap (λ (m : Resolved A). settled m made) is) meets

-- the last step always gives something, or memory is wanting
pub given : {A : Type 0} (r : Result A ScopeFail) (x : A) (made : Made) → Gives r (Ok x)
    → Meets (got x made) r made
given {A} (Ok y) x made is = ap (λ (m : Resolved A). settled m made) is
given {A} (Err (Fails state)) x made is = ap (λ (m : Resolved A). settled m made) is
given (Err Memory) x made is = is

-- ---- lists of parts, of which the first ones have been read

front : {X : Type 0} (xs : List X) (i : ℕ) (x : X) → i < length xs → x ≡ get_or xs i x
    → drop i xs ≡ x ∷ drop (i + 1) xs
front xs i x lt is = rw (add-one, drop-cons xs i x lt, ← is) refl

past : {X : Type 0} (xs : List X) (i : ℕ) → length xs ≤ i → drop i xs ≡ []
past xs i le = first_of (search rules, grind (arith, common_steps))

-- the next part, and then the rest
pub next : {X B : Type 0} (on : List X → B) (xs : List X) (i : ℕ) (x : X) (whole : B)
    → i < length xs → x ≡ get_or xs i x → whole ≡ on (drop i xs) → whole ≡ on (x ∷ drop (i + 1) xs)
next on xs i x whole lt is reads = reads ∙ ap on (front xs i x lt is)

-- no part is left
pub ended : {X B : Type 0} (on : List X → B) (xs : List X) (i : ℕ) (whole : B) → length xs ≤ i
    → whole ≡ on (drop i xs) → whole ≡ on []
ended on xs i whole le reads = reads ∙ ap on (past xs i le)
