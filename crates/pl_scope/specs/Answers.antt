-- What a part means where it stands: something, with what has been made so far, or the SQLSTATE of
-- its first failing node in reading order.
use Rattle.std.specs.Prelude.{◌≡◌, ℕ, length, Result, Ok, Err}
use Rattle.pl_base.specs.declared.state.State.{State}
use Rattle.pl_names.specs.Names.{Around}
use Rattle.pl_scope.specs.declared.made.Made.{Made}
use Rattle.pl_typing.specs.Resolved.{Resolved}
use Rattle.pl_typing.specs.declared.fail.ScopeFail.{ScopeFail}
use Rattle.pl_typing.specs.declared.fail.ScopeFail.TheVariants.{State as Fails, Memory}

pub data Answer (A : Type 0) : Type 0 where
  got : A → Made → Answer A
  fails : State → Answer A

abbrev pub then_answer : {A B : Type 0} → Answer A → (A → Made → Answer B) → Answer B
then_answer (got x made) f = f x made
then_answer (fails state) f = fails state

-- over what stands around, and what has been made so far
abbrev pub Means : Type 0 → Type 0
Means A = Around → Made → Answer A

-- what stands further right is looked at only where nothing before it failed
infixl 10 ◌>>=◌
abbrev pub ◌>>=◌ : {A B : Type 0} → Means A → (A → Means B) → Means B
m >>= f = λ a made. then_answer (m a made) (λ x made. f x a made)

abbrev pub gives : {A : Type 0} → A → Means A
gives x = λ a made. got x made

abbrev pub settled : {A : Type 0} → Resolved A → Made → Answer A
settled (Ok x) made = got x made
settled (Err state) made = fails state

-- a step that makes nothing
abbrev pub step : {A : Type 0} → Resolved A → Means A
step r = λ a made. settled r made

-- a step that looks a name up
abbrev pub asks : {A : Type 0} → (Around → Resolved A) → Means A
asks f = λ a made. settled (f a) made

-- how many queries there are so far
abbrev pub queries_made : Means ℕ
queries_made = λ a made. got (length made.queries) made

-- read elsewhere
abbrev pub within : {A : Type 0} → (Around → Around) → Means A → Means A
within f m = λ a made. m (f a) made

-- the call has this answer, or memory is wanting
abbrev pub Meets : {A : Type 0} → Answer A → Result A ScopeFail → Made → Type 0
Meets answer (Ok x) made = answer ≡ got x made
Meets answer (Err (Fails state)) made = answer ≡ fails state
Meets answer (Err Memory) made = Unit {0}
