use Rattle.std.proofs.Common.{◌≡◌, IfOk, List, ℕ, refl, rules, subst, sym}
use Rattle.pl_base.specs.Condition.{conditions}
use Rattle.pl_print.proofs.Names.{named, unnamed_in}
use Rattle.pl_engine.proofs.messages.name_text.Goals as goal

pub returns-in-Some : goal.returns-in-Some
returns-in-Some c =
    let P : List ℕ → Type 0 = λ name. IfOk c.from_slice.result (λ text. text ≡ name) in
    let written : P c.in-Some.name.now = search rules in
    subst P (sym (named c.args.state.code c.in-Some.name.now c.in-Some.ensures.named)) written

pub returns-in-None : goal.returns-in-None
returns-in-None c =
    let P : List ℕ → Type 0 = λ name. IfOk c.from_slice-in-None.result (λ text. text ≡ name) in
    let written : P c.args.state.code = search rules in
    subst P (sym (unnamed_in conditions c.args.state.code (c.in-None.ensures.unnamed.0 refl))) written
