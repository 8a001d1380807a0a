-- What follows from the value of a condition, and from a failure that is found.
use Rattle.std.proofs.Common.{◌≡◌, sym, ap, ◌∙◌, ℕ, List, [], ◌∷◌, Option, Some, Err}
use Rattle.pl_base.specs.declared.state.State.{State}
use Rattle.pl_base.specs.declared.value.Value.{Value}
use Rattle.pl_calc.specs.Logic.{truth_of}
use Rattle.pl_resolved.specs.declared.expression.RExpr.{RExpr}
use Rattle.pl_rules.specs.Rules.{Answers, failure_of, no_queries, truth_over}
use Rattle.pl_rules.specs.declared.rules.RuleFail.{RuleFail}
use Rattle.pl_rules.specs.declared.rules.RuleFail.TheVariants.{Broken, Evaluating, Unfit, Memory}
use Rattle.pl_value.specs.Frames.{Row}
use Rattle.pl_value.specs.Meaning.{value}
use Rattle.pl_value.specs.NoRoutines.{unknown}
use Rattle.pl_value.specs.Reading.{Reading, got, fails, settled, then_read}
use Rattle.pl_value.specs.declared.world.NoRoutines.{NoRoutines}

pub by_value : (name : List ℕ) (row : Row) (e : RExpr) (v : Value) (w : NoRoutines) (r : Option RuleFail)
    → value unknown no_queries e (row ∷ []) (record {}) ≡ got v w → r ≡ failure_of name (settled (truth_of v) w)
    → r ≡ failure_of name (truth_over row e)
by_value name row e v w r reads is =
    is ∙ sym (ap (λ (q : Reading NoRoutines Value). failure_of name (then_read q (λ v w. settled (truth_of v) w))) reads)

pub by_failure : (name : List ℕ) (row : Row) (e : RExpr) (state : State) (w : NoRoutines)
    → value unknown no_queries e (row ∷ []) (record {}) ≡ fails state w
    → let r : Option RuleFail = Some (Evaluating state) in r ≡ failure_of name (truth_over row e)
by_failure name row e state w reads =
    sym (ap (λ (q : Reading NoRoutines Value). failure_of name (then_read q (λ v w. settled (truth_of v) w))) reads)

pub refused : (A : Type 0) (fail : RuleFail) (failure : Option RuleFail) → failure ≡ Some fail
    → Answers {A = A} (Err fail) failure
refused A (Broken state rule) failure is = is
refused A (Evaluating state) failure is = is
refused A Unfit failure is = is
refused A Memory failure is = tt
