use Rattle.std.proofs.Common.{◌≡◌, ◌<◌, length, arith, length-take}
use Rattle.pl_cli.proofs.Flaws.{first_end, first_zero, from_front, in_front, no_flaw}
use Rattle.pl_cli.proofs.reading.first_flaw.Goals as goal

pub returns-in-Some : goal.returns-in-Some
returns-in-Some c =
    let bytes = c.args.bytes.now in
    let end = c.text_end-end.result in
    let found = c.in-Some.ensures in
    let within : c.in-Some.at < end = omega (arith, found.0.high, length-take end bytes) in
    first_zero bytes end c.in-Some.at c.text_end-end.ensures.within c.text_end-end.ensures.least within (from_front bytes end c.in-Some.at within found.1)
    (λ k before zero. found.0.before k (omega arith) before (in_front bytes end k (omega (arith, before, within)) zero))

pub returns-in-None : goal.returns-in-None
returns-in-None c =
    let bytes = c.args.bytes.now in
    let end = c.text_end-end.result in
    first_end bytes end (c.text_end-end.ensures.ends c.if-end-bytes.true) c.text_end-end.ensures.least
    (λ k before zero. c.in-None.ensures k (omega arith) (omega (arith, before, length-take end bytes, c.text_end-end.ensures.within)) (in_front bytes end k before zero))

pub returns-in-None-2 : goal.returns-in-None-2
returns-in-None-2 c =
    let bytes = c.args.bytes.now in
    let end = c.text_end-end.result in
    let whole : end ≡ length bytes = omega (arith, c.if-end-bytes.false, c.text_end-end.ensures.within) in
    let text = c.text_end-end.ensures.text whole in (
      text,
      no_flaw bytes text
          (λ k before zero. c.in-None.ensures k (omega arith) (omega (arith, before, whole, length-take end bytes)) (in_front bytes end k (omega (arith, before, whole)) zero)),
    )
