use Rattle.std.proofs.Common.{◌∙◌, Result, Ok, Err, ap, subst, sym}
use Rattle.pl_bodies.specs.declared.statement.Body.{Body}
use Rattle.pl_routine.specs.pl_body_rules.Heading.{routine}
use Rattle.pl_define.specs.Bodies.{body_in}
use Rattle.pl_define.proofs.Bodies.{failing, told}
use Rattle.pl_routine_ddl.specs.pl_typing.Resolved.{Gives, Resolved}
use Rattle.pl_routine_ddl.specs.pl_typing.declared.fail.ScopeFail.{ScopeFail}
use Rattle.pl_define.proofs.body.read_text.Goals as goal

pub returns-in-Ok : goal.returns-in-Ok
returns-in-Ok c =
    told c.args.text.now (routine c.args.heading.now) (Ok c.in-Ok.body) c.in-Ok.ensures.exact
    ∙ ap (λ (b : Body). let m : Resolved Body = Ok b in m) (sym c.new.ensures)

pub returns-in-Err : goal.returns-in-Err
returns-in-Err c =
    let text = c.args.text.now in
    let r = routine c.args.heading.now in
    subst (λ (f : ScopeFail). let answer : Result Body ScopeFail = Err f in Gives answer (body_in text r)) (sym c.fail_of.ensures)
    (failing text r c.in-Err.fail c.in-Err.ensures.exact)
