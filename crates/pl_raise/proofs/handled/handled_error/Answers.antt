use Rattle.std.proofs.Common.{◌∙◌, List, Some, ap, slice_get, sym}
use Rattle.pl_base.specs.declared.fail.Fail.{Fail}
use Rattle.pl_raise.proofs.Newest.{newest_is}
use Rattle.pl_raise.proofs.handled.handled_error.Goals as goal

pub returns-in_ok-copy_fail-in-Some : goal.returns-in_ok-copy_fail-in-Some
returns-in_ok-copy_fail-in-Some c =
    ap (λ (f : Fail). Some f) c.in_ok-copy_fail-in-Some.ensures ∙ (c.in-Some.ensures.value ∙ (sym (newest_is c.handled.result.now) ∙ ap (λ (fs : List Fail). slice_get fs 0) c.handled.ensures))

pub returns-in-None : goal.returns-in-None
returns-in-None c =
    c.in-None.ensures.value ∙ (sym (newest_is c.handled.result.now) ∙ ap (λ (fs : List Fail). slice_get fs 0) c.handled.ensures)
