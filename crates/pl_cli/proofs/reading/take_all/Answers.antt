use Rattle.std.proofs.Common.{◌≡◌, ◌≤◌, ◌++◌, ℕ, List, length, take, drop, ◌∙◌, ap, arith, append_assoc, take-append-drop, length-take}
use Rattle.std.proofs.lemmas.List.{take_at}
use Rattle.pl_cli.proofs.reading.take_all.Goals as goal

turn : (text buf old rest left new : List ℕ) (n : ℕ) → n ≤ length rest → buf ≡ take n rest ++ drop n old → new ≡ text ++ take n buf → text ++ rest ≡ left → new ++ drop n rest ≡ left
turn text buf old rest left new n short is grown whole =
    let moved : take n buf ≡ take n rest = ap (λ (l : List ℕ). take n l) is ∙ take_at (take n rest) (drop n old) n (omega (arith, length-take n rest, short)) in
    ap (λ (l : List ℕ). l ++ drop n rest) (grown ∙ ap (λ (l : List ℕ). text ++ l) moved) ∙ append_assoc text (take n rest) (drop n rest) ∙ ap (λ (l : List ℕ). text ++ l) (take-append-drop n rest) ∙ whole

pub turns-preserved : goal.turns-preserved
turns-preserved g c = record {
  attached = λ names is. c.take.ensures.attached names (c.turns.invariant.attached names is);
  is_attached = c.take.ensures.is_attached;
  faults = omega (arith, c.turns.invariant.faults, c.take.ensures.faults);
  read = λ left is.
      let was = c.turns.invariant.read left is in
      let moved = c.in-Ok.ensures.moved was.0 was.1 in
      (drop c.in-Ok.taken was.0, moved.2, turn c.turns.text.items _ _ was.0 left _ c.in-Ok.taken moved.0 moved.1 c.in_ok-extend_from_slice.ensures.items was.2);
}
