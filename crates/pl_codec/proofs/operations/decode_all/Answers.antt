use Rattle.std.proofs.Common.{ℕ, List, Option, sym, subst, arith}
use Rattle.pl_base.specs.declared.operation.Op.{Op}
use Rattle.pl_codec.specs.Reading.{op_front}
use Rattle.pl_codec.specs.Reads.{Reads, Takes}
use Rattle.pl_codec.specs.Spelling.{op_bytes, is_stored_op}
use Rattle.pl_codec.proofs.ReadSoFar.{Taken, Operations, nothing_taken, one_taken, no_operations, bad_operation, one_operation, all_operations}
use Rattle.pl_codec.proofs.operations.decode_all.Goals as goal

pub ops-init : goal.ops-init
ops-init c =
    let payload = c.args.payload.now in
    record {
      read = subst (λ (n : List ℕ). Operations payload c.new-ops.result.items n) (sym c.new-input.ensures) (subst (λ (l : List Op). Operations payload l payload) (sym c.new-ops.ensures.items) (no_operations payload));
      taken = subst (λ (n : List ℕ). Taken op_bytes is_stored_op payload c.new-ops.result.items n) (sym c.new-input.ensures)
          (subst (λ (l : List Op). Taken op_bytes is_stored_op payload l payload) (sym c.new-ops.ensures.items) (nothing_taken op_bytes is_stored_op payload));
    }

pub returns-in_default-clause-read : goal.returns-in_default-clause-read
returns-in_default-clause-read c =
    let none = subst (λ (o : Option Op). Reads (op_front c.ops.input) o c.read_op.new.input) c.in_default.is c.in_ok-op.ensures.read in
    sym (bad_operation c.args.payload.now c.ops.ops.items c.ops.input c.ops.invariant.read (omega (arith, c.left.ensures, c.ops-test.true)) none)

pub ops-preserved : goal.ops-preserved
ops-preserved c =
    let was = c.ops.invariant in
    let payload = c.args.payload.now in
    let ops = c.ops.ops.items in
    let left = c.ops.input in
    let now = c.read_op.new.input in
    let op = c.in-Some.op in
    let read = subst (λ (o : Option Op). Reads (op_front left) o now) c.in-Some.is c.in_ok-op.ensures.read in
    let taken = subst (λ (o : Option Op). Takes op_bytes is_stored_op left o now) c.in-Some.is c.in_ok-op.ensures.taken in
    record {
      read = subst (λ (l : List Op). Operations payload l now) (sym c.in_ok-push.ensures.items) (one_operation payload ops left op now was.read taken.0 read);
      taken = subst (λ (l : List Op). Taken op_bytes is_stored_op payload l now) (sym c.in_ok-push.ensures.items) (one_taken op_bytes is_stored_op payload ops left op now was.taken taken.0 taken.1);
    }

pub returns-clause-read : goal.returns-clause-read
returns-clause-read c =
    sym (all_operations c.args.payload.now c.ops.ops.items c.ops.input c.ops.invariant.read (omega (arith, c.left.ensures, c.ops-test.false)))
