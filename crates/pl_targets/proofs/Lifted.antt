-- A step that makes nothing, as one that is read.
use Rattle.std.proofs.Common.{ap}
use Rattle.std.specs.Prelude.{Result, Ok, Err}
use Rattle.pl_scope.specs.Answers.{Meets, settled}
use Rattle.pl_scope.specs.declared.made.Made.{Made}
use Rattle.pl_assigning.specs.pl_typing.Resolved.{Resolved, Gives}
use Rattle.pl_assigning.specs.pl_typing.declared.fail.ScopeFail.{ScopeFail}
use Rattle.pl_assigning.specs.pl_typing.declared.fail.ScopeFail.TheVariants.{State as Fails, Memory}

pub lifted : {A : Type 0} (r : Result A ScopeFail) (m : Resolved A) (made : Made) → Gives r m
    → Meets (settled m made) r made
lifted (Ok x) m made gives = ap (λ (m : Resolved _). settled m made) gives
lifted (Err (Fails state)) m made gives = ap (λ (m : Resolved _). settled m made) gives
lifted (Err Memory) m made gives = gives
