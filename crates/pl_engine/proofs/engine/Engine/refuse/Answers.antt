use Rattle.std.proofs.Common.{◌∙◌, Err, Ok, Option, Result, Some, ap, subst, sym}
use Rattle.pl_base.specs.declared.state.State.{State}
use Rattle.pl_engine.proofs.Redefining.{checks, in_use, kept_back, left, live, lost, undone}
use Rattle.pl_engine.proofs.engine.Engine.refuse.Goals as goal
use Rattle.pl_engine.specs.Changing.{Defined}
use Rattle.pl_engine.specs.Engines.{world}
use Rattle.pl_world.specs.pl_journal.Definitions.{redefined}
use Rattle.pl_typing.specs.declared.fail.ScopeFail.{ScopeFail}
use Rattle.pl_world.specs.Commands.{checked, defining}
use Rattle.pl_world.specs.World.{World}

pub returns-in_err-mark-clause-is : goal.returns-in_err-mark-clause-is
returns-in_err-mark-clause-is c =
    let w = world c.args.self.now in
    lost (defining (Some c.args.definition.now) c.args.text w.changing w.database) c.from_residual.result c.from_residual.ensures c.in_err-mark.ensures.err.0

pub returns-in_err-mark-clause-keeps : goal.returns-in_err-mark-clause-keeps
returns-in_err-mark-clause-keeps c = c.in_err-mark.ensures.err.1

pub go_back-requires : goal.go_back-requires
go_back-requires c =
    let set = c.in_ok-mark.ensures in
    record { live = live c.args.self.now c.protect.new.self c.carry_out.new.self c.carry_out.new.self c.in_ok-mark.mark.at set.is set.keeps set.at c.carry_out.ensures.keeps }

pub returns-in-Ok-None-clause-is : goal.returns-in-Ok-None-clause-is
returns-in-Ok-None-clause-is c =
    let set = c.in_ok-mark.ensures in
    let w = world c.args.self.now in
    let d = c.args.definition.now in
    let done = subst (λ (n : Option State). let r : Result (Option State) ScopeFail = Ok n in Defined (redefined d c.args.text (world c.protect.new.self).database) r (world c.protect.new.self) (world c.carry_out.new.self)) c.in-Ok-None.field-0-is c.in-Ok-None.ensures.is in (
      ap (λ (x : World). checked (redefined d c.args.text x.database) d w.changing) (sym set.is)
          ∙ in_use d w.changing (redefined d c.args.text (world c.protect.new.self).database) (world c.protect.new.self) (world c.carry_out.new.self) c.requires.in_use done,
      undone c.args.self.now c.protect.new.self c.carry_out.new.self c.go_back.new.self c.in_ok-mark.mark.at set.is set.keeps set.at c.carry_out.ensures.keeps done.0 done.2 c.go_back.ensures.is,
    )

pub returns-in-Ok-None-clause-keeps : goal.returns-in-Ok-None-clause-keeps
returns-in-Ok-None-clause-keeps c =
    let set = c.in_ok-mark.ensures in
    kept_back c.args.self.now c.protect.new.self c.carry_out.new.self c.go_back.new.self c.in_ok-mark.mark.at set.is set.keeps set.at c.carry_out.ensures.keeps c.go_back.ensures.keeps

pub unprotect-requires : goal.unprotect-requires
unprotect-requires c =
    let set = c.in_ok-mark.ensures in
    record { live = live c.args.self.now c.protect.new.self c.carry_out.new.self c.carry_out.new.self c.in_ok-mark.mark.at set.is set.keeps set.at c.carry_out.ensures.keeps }

pub returns-in-Ok-Some-clause-is : goal.returns-in-Ok-Some-clause-is
returns-in-Ok-Some-clause-is c =
    let set = c.in_ok-mark.ensures in
    let w = world c.args.self.now in
    let d = c.args.definition.now in
    let r : Result (Option State) ScopeFail = Ok (Some c.in-Ok-Some.notice) in
    let done = subst (λ (n : Option State). let r : Result (Option State) ScopeFail = Ok n in Defined (redefined d c.args.text (world c.protect.new.self).database) r (world c.protect.new.self) (world c.carry_out.new.self)) c.in-Ok-Some.field-0-is c.in-Ok-Some.ensures.is in
    let here = left c.args.self.now c.protect.new.self c.carry_out.new.self c.unprotect.new.self c.in_ok-mark.mark.at set.is set.keeps set.at c.carry_out.ensures.keeps (redefined d c.args.text (world c.protect.new.self).database) r done c.unprotect.ensures.is in
    subst (λ (x : World). Defined (checked (redefined d c.args.text x.database) d w.changing) r w (world c.unprotect.new.self)) set.is
    (checks d w.changing (redefined d c.args.text (world c.protect.new.self).database) r w (world c.unprotect.new.self) (λ none. absurd cc) here)

pub returns-in-Ok-Some-clause-keeps : goal.returns-in-Ok-Some-clause-keeps
returns-in-Ok-Some-clause-keeps c =
    let set = c.in_ok-mark.ensures in
    kept_back c.args.self.now c.protect.new.self c.carry_out.new.self c.unprotect.new.self c.in_ok-mark.mark.at set.is set.keeps set.at c.carry_out.ensures.keeps c.unprotect.ensures.keeps

pub returns-in-Err-clause-is : goal.returns-in-Err-clause-is
returns-in-Err-clause-is c =
    let set = c.in_ok-mark.ensures in
    let w = world c.args.self.now in
    let d = c.args.definition.now in
    let r : Result (Option State) ScopeFail = Err c.in-Err.fail in
    let here = left c.args.self.now c.protect.new.self c.carry_out.new.self c.unprotect-in-Err.new.self c.in_ok-mark.mark.at set.is set.keeps set.at c.carry_out.ensures.keeps (redefined d c.args.text (world c.protect.new.self).database) r c.in-Err.ensures.is c.unprotect-in-Err.ensures.is in
    subst (λ (x : World). Defined (checked (redefined d c.args.text x.database) d w.changing) r w (world c.unprotect-in-Err.new.self)) set.is
    (checks d w.changing (redefined d c.args.text (world c.protect.new.self).database) r w (world c.unprotect-in-Err.new.self) (λ none. absurd cc) here)

pub returns-in-Err-clause-keeps : goal.returns-in-Err-clause-keeps
returns-in-Err-clause-keeps c =
    let set = c.in_ok-mark.ensures in
    kept_back c.args.self.now c.protect.new.self c.carry_out.new.self c.unprotect-in-Err.new.self c.in_ok-mark.mark.at set.is set.keeps set.at c.carry_out.ensures.keeps c.unprotect-in-Err.ensures.keeps
