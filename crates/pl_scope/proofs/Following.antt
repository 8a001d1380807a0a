-- What follows from a part that was read.
use Rattle.std.proofs.Common.{◌≡◌, ap, refl, subst, sym, Result, Ok, Err}
use Rattle.std.specs.Prelude.{IsErrAnd}
use Rattle.pl_scope.proofs.InTurn.{failed, goes_on, stops}
use Rattle.pl_scope.proofs.Lifted.{lifted}
use Rattle.pl_scope.specs.Answers.{Answer, Meets, got, fails, settled, then_answer}
use Rattle.pl_scope.specs.Following.{Continues, Follows}
use Rattle.pl_scope.specs.declared.made.Made.{Made}
use Rattle.pl_typing.specs.Resolved.{Resolved, Gives}
use Rattle.pl_typing.specs.declared.fail.ScopeFail.{ScopeFail}

-- ---- a call that is given the part's result

pub follows_err : {A B : Type 0} (part : Result A ScopeFail) (f : A → Resolved B) (why : ScopeFail)
    → part ≡ Err why → Follows {A = A} {B = B} part f (Err why)
follows_err {A} {B} part f why is = λ m made meets.
    failed {A = A} {B = B} m (λ x made. settled (f x) made) why made made
    (subst (λ (e : Result A ScopeFail). Meets m e made) is meets)

pub follows_ok : {A B : Type 0} (part : Result A ScopeFail) (f : A → Resolved B) (x : A)
    (r : Result B ScopeFail) → part ≡ Ok x → Gives r (f x) → Follows part f r
follows_ok {A} {B} part f x r is gives = λ m made meets.
    goes_on m (λ x made. settled (f x) made) r x made made
    (subst (λ (e : Result A ScopeFail). Meets m e made) is meets) (lifted r (f x) made gives)

pub continues_err : {A B : Type 0} (part : Result A ScopeFail) (f : A → Made → Answer B)
    (why : ScopeFail) (made last : Made) → part ≡ Err why
    → Continues {A = A} {B = B} part f made (Err why) last
continues_err {A} {B} part f why made last is = λ m meets.
    failed {A = A} {B = B} m f why made last
    (subst (λ (e : Result A ScopeFail). Meets m e made) is meets)

pub continues_ok : {A B : Type 0} (part : Result A ScopeFail) (f : A → Made → Answer B) (x : A)
    (r : Result B ScopeFail) (made last : Made) → part ≡ Ok x → Meets (f x made) r last
    → Continues part f made r last
continues_ok {A} part f x r made last is meets = λ m first.
    goes_on m f r x made last (subst (λ (e : Result A ScopeFail). Meets m e made) is first) meets

-- ---- the node, from what such a call gave

pub follows_is : {A B C : Type 0} (m : Answer A) (f : A → Made → Answer B)
    (k : B → Made → Answer C) (y : B) (made : Made) → then_answer m f ≡ got y made
    → then_answer m (λ x made. then_answer (f x made) k) ≡ k y made
follows_is (got x last) f k y made is = ap (λ (n : Answer _). then_answer n k) is
follows_is (fails state) f k y made is = ap (λ (n : Answer _). then_answer n k) is

joined : {A B C : Type 0} (m : Answer A) (f : A → Made → Answer B) (k : B → Made → Answer C)
    → then_answer (then_answer m f) k ≡ then_answer m (λ x made. then_answer (f x made) k)
joined (got x last) f k = refl
joined (fails state) f k = refl

pub follows_stops : {A B C : Type 0} (m : Answer A) (f : A → Made → Answer B)
    (k : B → Made → Answer C) (r : Result C ScopeFail) (why : ScopeFail) (made last : Made)
    → IsErrAnd r (λ e. e ≡ why) → Meets {A = B} (then_answer m f) (Err why) made
    → Meets (then_answer m (λ x made. then_answer (f x made) k)) r last
follows_stops {A} {B} {C} m f k r why made last passed is =
    subst (λ (n : Answer C). Meets n r last) (joined m f k)
    (stops (then_answer m f) k r why made last passed is)

pub follows_goes : {A B C : Type 0} (m : Answer A) (f : A → Made → Answer B)
    (k : B → Made → Answer C) (r : Result C ScopeFail) (y : B) (made last : Made)
    → then_answer m f ≡ got y made → Meets (k y made) r last
    → Meets (then_answer m (λ x made. then_answer (f x made) k)) r last
follows_goes {A} {B} {C} m f k r y made last is meets =
    subst (λ (n : Answer C). Meets n r last) (sym (follows_is m f k y made is)) meets
