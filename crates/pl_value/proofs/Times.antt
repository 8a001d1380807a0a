-- An operator that is applied some more times.
use Rattle.std.proofs.Common.{◌≡◌, ◌<◌, refl, ap, ◌∙◌, ℕ, zero, suc, ◌-◌, arith, sym, subst, Result, Ok, Err}
use Rattle.pl_base.specs.declared.value.Value.{Value}
use Rattle.pl_base.specs.declared.operator.Operator.{Operator}
use Rattle.pl_calc.specs.Answer.{Answer, Gives}
use Rattle.pl_calc.specs.Operators.{unary_value}
use Rattle.pl_calc.specs.declared.answer.CalcFail.{CalcFail}
use Rattle.pl_calc.specs.declared.answer.CalcFail.TheVariants.{State as Fails, Memory}
use Rattle.pl_value.specs.Combined.{repeated, then_answer}

none_at : (op : Operator) (n : ℕ) (v : Value) → n ≡ 0 → repeated op n v ≡ Ok v
unfolding repeated
none_at op zero v is = refl
none_at op (suc n) v is = absurd (omega (arith, is))

once_at : (op : Operator) (n : ℕ) (v : Value) → 0 < n → repeated op n v ≡ then_answer (unary_value op v) (repeated op (n - 1))
unfolding repeated
once_at op zero v more = absurd (omega (arith, more))
once_at op (suc n) v more =
    let e : suc n - 1 ≡ n = omega arith in
    rw e refl

pub done : (op : Operator) (whole : Answer) (n : ℕ) (v : Value) → whole ≡ repeated op n v → n ≡ 0 → whole ≡ Ok v
done op whole n v is none = is ∙ none_at op n v none

pub goes_on : (op : Operator) (whole : Answer) (n : ℕ) (v made : Value) → whole ≡ repeated op n v → 0 < n → unary_value op v ≡ Ok made → whole ≡ repeated op (n - 1) made
goes_on op whole n v made is more gives = is ∙ (once_at op n v more ∙ ap (λ (a : Answer). then_answer a (repeated op (n - 1))) gives)

ends_at : (op : Operator) (whole : Answer) (n : ℕ) (v : Value) (fail : CalcFail) → whole ≡ repeated op n v → 0 < n → Gives (Err fail) (unary_value op v) → Gives (Err fail) whole
ends_at op whole n v (Fails state) is more gives = is ∙ (once_at op n v more ∙ ap (λ (a : Answer). then_answer a (repeated op (n - 1))) gives)
ends_at op whole n v Memory is more gives = tt

pub ends : (op : Operator) (whole : Answer) (n : ℕ) (v : Value) (fail : CalcFail) (r : Result Value CalcFail) → whole ≡ repeated op n v → 0 < n → Gives (Err fail) (unary_value op v) → r ≡ Err fail → Gives r whole
ends op whole n v fail r is more gives same = subst (λ (r : Result Value CalcFail). Gives r whole) (sym same) (ends_at op whole n v fail is more gives)
