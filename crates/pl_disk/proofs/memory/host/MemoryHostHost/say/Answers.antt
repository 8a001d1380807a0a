use Rattle.std.proofs.Common.{⊎_elim, Result, Ok, Err, refl, sym, arith, ap, drop, [], take-append-drop}
use Rattle.std.proofs.lemmas.List.{append-nil}
use Rattle.pl_disk.specs.Tally.{Tally}
use Rattle.pl_disk.specs.declared.device.Failed.{Failed}
use Rattle.pl_disk.proofs.Counted.{same_disk, same_say, rises}
use Rattle.pl_disk.proofs.Steps.{by_result, print_says, no_print_says}
use Rattle.pl_disk.proofs.memory.host.MemoryHostHost.say.Goals as goal

pub returns-then-count-gt0-clause-says : goal.returns-then-count-gt0-clause-says
returns-then-count-gt0-clause-says c =
    let h = c.args.self.now in
    let k = c.begin_saying.new.self in
    let lost : Result (Unit {0}) Failed = Err (record {}) in
    let more = ap (λ (t : Tally). t.say_faults) c.in_default.ensures.err in
    let disk = sym (ap (λ (t : Tally). t.disk_faults) c.in_default.ensures.err) in
    let say = c.in_default.ensures.no_fewer in
    ⊎_elim (λ did. print_says _ _ k c.print.ensures.rest refl _ c.print.ensures.files _ did c.args.text.now h.counts.disk_faults h.counts.say_faults lost disk say (λ err. rises h.counts.say_faults k.say_faults more) (drop c.part_of-count.result c.args.text.now, take-append-drop c.part_of-count.result c.args.text.now) tt)
    (λ nothing. no_print_says _ _ k c.print.ensures.rest refl c.print.ensures.files nothing c.args.text.now h.counts.disk_faults h.counts.say_faults lost refl disk say more)
    (by_result c.print.result c.print.ensures.prints c.print.ensures.nothing)

pub returns-in-Ok-print-clause-says : goal.returns-in-Ok-print-clause-says
returns-in-Ok-print-clause-says c =
    let h = c.args.self.now in
    let k = c.begin_saying.new.self in
    let fine : Result (Unit {0}) Failed = Ok tt in
    let same = same_say h.counts k _ c.in-Ok.ensures.ok in
    print_says _ _ k c.in-Ok-print.ensures.rest refl _ c.in-Ok-print.ensures.files _ c.in-Ok-print.ensures.prints c.args.text.now h.counts.disk_faults h.counts.say_faults fine (same_disk h.counts k _ c.in-Ok.ensures.ok) (omega (arith, same)) (λ err. cc err)
    ([], append-nil c.args.text.now) c.in-Ok-print.ensures.prints.printed
