use Rattle.std.proofs.Common.{◌∙◌, ap, sym, subst, ℕ, List, length, arith}
use Rattle.pl_cli.specs.Script.{IsFirst, IsFlaw}
use Rattle.pl_cli.proofs.Flaws.{past_limit, refused_early, refused_long}
use Rattle.pl_cli.proofs.reading.read_script.Goals as goal
use Rattle.pl_cli.proofs.reading.read_script.Goals.{in_default-first_flaw-via-in-Some+else-at-lt-MAX_SCRIPT, in_default-first_flaw-via-in-None+else-len-le-MAX_SCRIPT}

pub returns-in-Some-clause-read : goal.returns-in-Some-clause-read
returns-in-Some-clause-read g c left is =
    let taken = c.in_ok-bytes.ensures.read left (c.in-Ok.ensures.left ∙ is) in
    refused_early left _ c.in_ok-bytes.bytes.items c.in-Some.at taken (subst (λ (l : List ℕ). IsFirst (IsFlaw l) c.in-Some.at) c.deref.ensures.value c.in-Some.ensures) c.if-at-lt-MAX_SCRIPT.true

pub returns-in_default-first_flaw-clause-read : goal.returns-in_default-first_flaw-clause-read
returns-in_default-first_flaw-clause-read g c left is =
    let taken = c.in_ok-bytes.ensures.read left (c.in-Ok.ensures.left ∙ is) in
    let bytes = c.in_ok-bytes.bytes.items in
    elim c.in_default-first_flaw.branch [
      | in_default-first_flaw-via-in-Some+else-at-lt-MAX_SCRIPT w ↦ past_limit left _ bytes w.in-Some.at taken (subst (λ (l : List ℕ). IsFirst (IsFlaw l) w.in-Some.at) c.deref.ensures.value w.in-Some.ensures) w.if-at-lt-MAX_SCRIPT.false
      | in_default-first_flaw-via-in-None+else-len-le-MAX_SCRIPT w ↦ refused_long left _ bytes taken (λ k before flaw. w.in-None.ensures.1 k (subst (λ (l : List ℕ). IsFlaw l k) (sym c.deref.ensures.value) flaw)) (omega (arith, w.if-len-le-MAX_SCRIPT.false, w.len.ensures, c.deref.ensures.len, ap length c.deref.ensures.value))
    ]
