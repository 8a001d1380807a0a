use Rattle.std.proofs.Common.{subst}
use Rattle.pl_base.specs.Image.{Image}
use Rattle.pl_frames.specs.Header.{IsInspected}
use Rattle.pl_keeper.proofs.Opens.{inspected, counted, first_placed}
use Rattle.pl_keeper.proofs.areas.counting.Goals as goal

pub returns-clause-read : goal.returns-clause-read
returns-clause-read g c told =
    let a = g.D.Disk.view c.args.disk.now in
    let looks = c.inspect.ensures.looks in
    let now = looks.continues.told told in
    let of_a = inspected a.seen.a c.in_ok-a.a (c.in_ok-a.ensures.read told) in
    let of_b = inspected a.seen.b c.in_ok-b.b (subst (λ (i : Image). IsInspected i.b c.in_ok-b.b) (looks.images told).seen (c.in_ok-b.ensures.read now)) in
    counted a.seen c.in_ok-a.a c.in_ok-b.b c.greater.result of_a of_b c.greater.ensures

pub returns-clause-place : goal.returns-clause-place
returns-clause-place g c = first_placed c.in_ok-a.a c.in_ok-b.b c.greater.result c.greater.ensures
