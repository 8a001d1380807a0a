use Rattle.std.proofs.Common.{◌≡◌, ◌<◌, ◌∙◌, List, ℕ, ap, arith, drop, false, length, sym, true}
use Rattle.std.proofs.lemmas.Grind.{common_steps}
use Rattle.pl_raise.proofs.Formats.{on_byte, on_double, on_single}
use Rattle.pl_raise.proofs.formatting.format.Goals as goal
use Rattle.pl_raise.specs.Texts.{starts_with_percent}

pub loop-left-preserved-then-byte-ne37 : goal.loop-left-preserved-then-byte-ne37
loop-left-preserved-then-byte-ne37 c =
    let lt : 0 < length c.loop-left.left.now = grind (arith, common_steps) in
    rw (c.in_ok-push.ensures.items, c.others-rest.ensures) (on_byte c.loop-left.left.now c.loop-left.next.now c.loop-left.made.items _ lt c.if-byte-ne37.true c.loop-left.invariant)

pub loop-left-preserved-then-starts_with_percent : goal.loop-left-preserved-then-starts_with_percent
loop-left-preserved-then-starts_with_percent c =
    let lt : 0 < length c.loop-left.left.now = grind (arith, common_steps) in
    let sign : starts_with_percent (drop 1 c.loop-left.left.now) ≡ true = ap (λ (t : List ℕ). starts_with_percent t) (sym c.others-rest.ensures) ∙ (sym c.starts_with_percent.ensures ∙ c.if-starts_with_percent.true) in
    rw (c.in_ok-push-2.ensures.items, c.others-left.ensures, c.others-rest.ensures) (on_double c.loop-left.left.now c.loop-left.next.now c.loop-left.made.items _ lt c.if-byte-ne37.false sign c.loop-left.invariant)

pub loop-left-preserved : goal.loop-left-preserved
loop-left-preserved c =
    let lt : 0 < length c.loop-left.left.now = grind (arith, common_steps) in
    let sign : starts_with_percent (drop 1 c.loop-left.left.now) ≡ false = ap (λ (t : List ℕ). starts_with_percent t) (sym c.others-rest.ensures) ∙ (sym c.starts_with_percent.ensures ∙ c.if-starts_with_percent.false) in
    rw (c.in_ok-extend_from_slice.ensures.items, c.first_text.ensures, c.others-rest.ensures, c.others-next.ensures) (on_single c.loop-left.left.now c.loop-left.next.now c.loop-left.made.items _ lt c.if-byte-ne37.false sign c.loop-left.invariant)
