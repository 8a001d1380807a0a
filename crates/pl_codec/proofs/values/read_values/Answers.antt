use Rattle.std.proofs.Common.{◌≡◌, ◌∙◌, ◌+◌, ◌++◌, ◌∷◌, [], List, Option, length, sym, ap, subst, arith, length-append}
use Rattle.pl_base.specs.declared.value.Value.{Value}
use Rattle.pl_codec.specs.Reading.{value_front}
use Rattle.pl_codec.specs.Reads.{Reads, Takes}
use Rattle.pl_codec.specs.Spelling.{value_bytes, is_stored_value}
use Rattle.pl_codec.proofs.ReadSoFar.{Taken, Values, nothing_taken, one_taken, no_values, bad_value, one_value, all_values}
use Rattle.pl_codec.proofs.values.read_values.Goals as goal

pub loop-turn-init : goal.loop-turn-init
loop-turn-init c =
    let none : c.from_vec-values.result ≡ [] = c.from_vec-values.ensures ∙ c.in_ok-with_capacity.ensures.items in
    record {
      size = ap length none;
      read = subst (λ (vs : List Value). Values c.args.input.now c.args.count vs c.args.input.now) (sym none) (no_values c.args.input.now c.args.count);
      taken = subst (λ (vs : List Value). Taken value_bytes is_stored_value c.args.input.now vs c.args.input.now) (sym none) (nothing_taken value_bytes is_stored_value c.args.input.now);
    }

pub returns-in_default-clause-read : goal.returns-in_default-clause-read
returns-in_default-clause-read c =
    let was = c.loop-turn.invariant in
    let none = subst (λ (o : Option Value). Reads (value_front c.loop-turn.input) o c.read_value.new.input) c.in_default.is c.in_ok-value.ensures.read in
    bad_value c.args.input.now c.args.count c.loop-turn.values c.loop-turn.input was.read (omega (arith, was.size, c.loop-turn-test.true)) none

pub loop-turn-preserved : goal.loop-turn-preserved
loop-turn-preserved c =
    let was = c.loop-turn.invariant in
    let old = c.args.input.now in
    let vs = c.loop-turn.values in
    let left = c.loop-turn.input in
    let now = c.read_value.new.input in
    let v = c.in-Some.value in
    let read = subst (λ (o : Option Value). Reads (value_front left) o now) c.in-Some.is c.in_ok-value.ensures.read in
    let taken = subst (λ (o : Option Value). Takes value_bytes is_stored_value left o now) c.in-Some.is c.in_ok-value.ensures.taken in
    record {
      size = ap length c.in_ok-push.ensures.ok ∙ (let n : length (vs ++ v ∷ []) ≡ c.loop-turn._turn + 1 = omega (arith, was.size, length-append vs (v ∷ [])) in n);
      read = subst (λ (l : List Value). Values old c.args.count l now) (sym c.in_ok-push.ensures.ok) (one_value old c.args.count vs left was.read (omega (arith, was.size, c.loop-turn-test.true)) v now read);
      taken = subst (λ (l : List Value). Taken value_bytes is_stored_value old l now) (sym c.in_ok-push.ensures.ok) (one_taken value_bytes is_stored_value old vs left v now was.taken taken.0 taken.1);
    }

pub returns-clause-read : goal.returns-clause-read
returns-clause-read c =
    let was = c.loop-turn.invariant in
    all_values c.args.input.now c.args.count c.loop-turn.values c.loop-turn.input was.read (let n : length c.loop-turn.values ≡ c.args.count = omega (arith, was.size, was.read.counted, c.loop-turn-test.false) in n)
