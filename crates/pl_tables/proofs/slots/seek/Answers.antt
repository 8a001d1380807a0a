use Rattle.std.proofs.Common.{ap, ◌≡◌, ◌≤◌, ◌+◌, ◌-◌, ◌/◌, refl, ℕ, Err, Result, Some, length, arith, inl, inr}
use Rattle.std.proofs.lemmas.Option.{slice_get_read}
use Rattle.std.proofs.lemmas.Bool.{cases_lt}
use Rattle.pl_tables.specs.declared.slots.Slot.{Slot}
use Rattle.pl_tables.specs.Slots.{id_at}
use Rattle.pl_tables.proofs.Living.{rising_mono, id_read, none_at}
use Rattle.pl_tables.proofs.slots.seek.Goals as goal

pub loop-low-preserved-then-found-id-2 : goal.loop-low-preserved-then-found-id-2
loop-low-preserved-then-found-id-2 c =
    let ss = c.args.slots.now in
    let middle = c.loop-low.low + (c.loop-low.high - c.loop-low.low) / 2 in
    let found = c.index-slots-middle.result in
    let has : id_at ss middle ≡ Some found.id = id_read ss middle found (slice_get_read ss (length ss) middle found refl (omega (arith, c.loop-low-test.true, c.loop-low.invariant.within)) c.index-slots-middle.is) in
    let e = ap (λ (s : Slot). s.id) c.index-slots-middle.is in
    record {
      below = λ at n lt is. (let h : n ≤ found.id = rising_mono 0 ss c.requires.0 at middle n found.id c.requires.1 (omega (arith, lt)) is has in omega (arith, h, e, c.if-found-id-2.true));
      above = c.loop-low.invariant.above;
      within = c.loop-low.invariant.within;
      ordered = omega (arith, c.loop-low-test.true);
    }

pub loop-low-preserved : goal.loop-low-preserved
loop-low-preserved c =
    let ss = c.args.slots.now in
    let middle = c.loop-low.low + (c.loop-low.high - c.loop-low.low) / 2 in
    let found = c.index-slots-middle.result in
    let has : id_at ss middle ≡ Some found.id = id_read ss middle found (slice_get_read ss (length ss) middle found refl (omega (arith, c.loop-low-test.true, c.loop-low.invariant.within)) c.index-slots-middle.is) in
    let e = ap (λ (s : Slot). s.id) c.index-slots-middle.is in
    record {
      below = c.loop-low.invariant.below;
      above = λ at n le is. (let h : found.id ≤ n = rising_mono 0 ss c.requires.0 middle at found.id n c.requires.1 le has is in omega (arith, h, e, c.if-found-id.false, c.if-found-id-2.false));
      within = omega (arith, c.loop-low-test.true, c.loop-low.invariant.within);
      ordered = omega (arith, c.loop-low-test.true);
    }

pub returns-clause-none : goal.returns-clause-none
returns-clause-none c place e =
    none_at c.args.slots.now c.args.id (λ at is.
    elim (cases_lt at c.loop-low.low) [
      | inl lt ↦ (let h = c.loop-low.invariant.below at c.args.id lt is in omega (arith, h))
      | inr le ↦ (let h = c.loop-low.invariant.above at c.args.id (omega (arith, le, c.loop-low-test.false)) is in omega (arith, h))
    ])

pub returns-clause-gap : goal.returns-clause-gap
returns-clause-gap c place e =
    let same : c.loop-low.low ≡ place = (let r : (let o : Result ℕ ℕ = Err c.loop-low.low in o ≡ Err place) = e in cc) in
    record {
      within = omega (arith, same, c.loop-low.invariant.ordered, c.loop-low.invariant.within);
      below = λ p n lt is. c.loop-low.invariant.below p n (omega (arith, lt, same)) is;
      above = λ p n le is. c.loop-low.invariant.above p n (omega (arith, le, same, c.loop-low-test.false)) is;
    }
