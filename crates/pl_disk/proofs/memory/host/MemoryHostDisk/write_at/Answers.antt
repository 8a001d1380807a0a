use Rattle.std.proofs.Common.{⊎_elim, ◌≤◌, ℕ, List, length, take, length-take, Result, Ok, Err, refl, sym, arith, ap}
use Rattle.pl_disk.specs.Tally.{Tally}
use Rattle.pl_disk.specs.declared.device.Failed.{Failed}
use Rattle.pl_disk.proofs.Counted.{same_disk, same_say, rises}
use Rattle.pl_disk.proofs.Steps.{by_result, put_calls, put_synced, put_crash, no_put_calls, no_put_synced, no_put_crash}
use Rattle.pl_disk.proofs.memory.host.MemoryHostDisk.write_at.Goals as goal

length-take-within : (n : ℕ) (bytes : List ℕ) → length (take n bytes) ≤ length bytes
length-take-within n bytes = omega (arith, length-take n bytes)

pub returns-then-count-gt0-clause-call : goal.returns-then-count-gt0-clause-call
returns-then-count-gt0-clause-call c =
    let h = c.args.self.now in
    let k = c.begin.new.self in
    let lost : Result (Unit {0}) Failed = Err (record {}) in
    let more = ap (λ (t : Tally). t.disk_faults) c.in_default.ensures.err in
    let disk = c.in_default.ensures.no_fewer in
    let say = sym (ap (λ (t : Tally). t.say_faults) c.in_default.ensures.err) in
    ⊎_elim (λ did. put_calls _ _ k c.put.ensures.rest refl _ _ _ _ c.put.ensures.printed did h.counts.disk_faults h.counts.say_faults lost disk say (λ err. rises h.counts.disk_faults k.disk_faults more))
    (λ nothing. no_put_calls _ _ k c.put.ensures.rest refl c.put.ensures.printed nothing h.counts.disk_faults h.counts.say_faults lost disk say (λ err. rises h.counts.disk_faults k.disk_faults more))
    (by_result c.put.result c.put.ensures.put c.put.ensures.nothing)

pub returns-then-count-gt0-clause-synced : goal.returns-then-count-gt0-clause-synced
returns-then-count-gt0-clause-synced c =
    let k = c.begin.new.self in
    ⊎_elim (λ did. put_synced _ _ k c.put.ensures.rest refl _ _ _ _ c.put.ensures.printed did) (λ nothing. no_put_synced _ _ k c.put.ensures.rest refl c.put.ensures.printed nothing)
    (by_result c.put.result c.put.ensures.put c.put.ensures.nothing)

pub returns-then-count-gt0-clause-crash : goal.returns-then-count-gt0-clause-crash
returns-then-count-gt0-clause-crash c =
    let k = c.begin.new.self in
    let size = length c.args.bytes.now in
    ⊎_elim (λ did. put_crash _ _ k c.put.ensures.rest refl _ _ _ _ c.put.ensures.printed did size (length-take-within c.part_of-count.result c.args.bytes.now) c.requires)
    (λ nothing. no_put_crash _ _ k c.put.ensures.rest refl c.put.ensures.printed nothing c.args.area c.args.at size)
    (by_result c.put.result c.put.ensures.put c.put.ensures.nothing)

pub returns-in-Ok-put-clause-call : goal.returns-in-Ok-put-clause-call
returns-in-Ok-put-clause-call c =
    let h = c.args.self.now in
    let k = c.begin.new.self in
    let fine : Result (Unit {0}) Failed = Ok tt in
    let same = same_disk h.counts k _ c.in-Ok.ensures.ok in
    put_calls _ _ k c.in-Ok-put.ensures.rest refl _ _ _ _ c.in-Ok-put.ensures.printed c.in-Ok-put.ensures.put h.counts.disk_faults h.counts.say_faults fine (omega (arith, same)) (same_say h.counts k _ c.in-Ok.ensures.ok) (λ err. cc err)

pub returns-in-Ok-put-clause-synced : goal.returns-in-Ok-put-clause-synced
returns-in-Ok-put-clause-synced c =
    put_synced _ _ c.begin.new.self c.in-Ok-put.ensures.rest refl _ _ _ _ c.in-Ok-put.ensures.printed c.in-Ok-put.ensures.put

pub returns-in-Ok-put-clause-crash : goal.returns-in-Ok-put-clause-crash
returns-in-Ok-put-clause-crash c =
    put_crash _ _ c.begin.new.self c.in-Ok-put.ensures.rest refl _ _ _ _ c.in-Ok-put.ensures.printed c.in-Ok-put.ensures.put (length c.args.bytes.now) (omega arith) c.requires
