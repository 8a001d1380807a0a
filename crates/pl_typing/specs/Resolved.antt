-- What a tree means where it stands, or the SQLSTATE of its first failing node in reading order.
use Rattle.std.specs.Prelude.{◌≡◌, Result, Ok, Err}
use Rattle.pl_base.specs.declared.state.State.{State}
use Rattle.pl_typing.specs.declared.fail.ScopeFail.{ScopeFail}
use Rattle.pl_typing.specs.declared.fail.ScopeFail.TheVariants.{State as Fails, Memory}

abbrev pub Resolved : Type 0 → Type 0
Resolved A = Result A State

-- what stands further right is looked at only where nothing before it failed
infixl 10 ◌>>=◌
abbrev pub ◌>>=◌ : {A B : Type 0} → Resolved A → (A → Resolved B) → Resolved B
Ok a >>= f = f a
Err state >>= f = Err state

-- the call gives this, or memory is wanting
abbrev pub Gives : {A : Type 0} → Result A ScopeFail → Resolved A → Type 0
Gives (Ok a) meaning = meaning ≡ Ok a
Gives (Err (Fails state)) meaning = meaning ≡ Err state
Gives (Err Memory) meaning = Unit {0}
