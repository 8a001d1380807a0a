-- What an answer over what is kept of a state tells of the whole state.
use Rattle.std.proofs.Common.{sym, ap, Result, Ok, Err}
use Rattle.pl_base.specs.declared.state.State.{State}
use Rattle.pl_natural.specs.Kept.{ReadsKept, kept}
use Rattle.pl_value.specs.Answers.{Reads}
use Rattle.pl_value.specs.Reading.{Reading, got, fails}
use Rattle.pl_value.specs.declared.operand.Unsettled.{Unsettled}
use Rattle.pl_value.specs.declared.operand.Unsettled.TheVariants.{Fails, Memory}

module _ {V A : Type 0} where
  abbrev thing : A → Reading V A → A
  thing y (got x v) = x
  thing y (fails state v) = y

  abbrev why : State → Reading V A → State
  why state (got x v) = state
  why state (fails other v) = other

  abbrev behind : Reading V A → V
  behind (got x v) = v
  behind (fails state v) = v

module _ {W V A : Type 0} (keep : W → V) where
  pub told : (r : Reading W A) (result : Result A Unsettled) (v : V) → Reads (kept keep r) result v → ReadsKept keep r result v
  told (got y w) (Ok x) v reads = (w, ap (λ (z : A). got z w) (ap (thing y) reads), sym (ap behind reads))
  told (fails other w) (Ok x) v reads = absurd (cc)
  told (got y w) (Err (Fails state)) v reads = absurd (cc)
  told (fails other w) (Err (Fails state)) v reads = (w, ap (λ (z : State). fails z w) (ap (why other) reads), sym (ap behind reads))
  told r (Err Memory) v reads = tt
