use Rattle.std.proofs.Common.{◌≢◌, ◌<◌, arith, rules}
use Rattle.std.proofs.lemmas.Int.{to_z-of_z}
use Rattle.std.specs.Int.{w32}
use Rattle.std.specs.Prelude.{FitsSigned, ◌+ℤ◌}
use Rattle.pl_loops.proofs.Counted.{next_fits, rest_fit}
use Rattle.pl_loops.proofs.ranges.Counting.next.Goals as goal

pub overflow_add-self : goal.overflow_add-self
overflow_add-self c =
    let s = c.args.self.now in
    let f : FitsSigned w32 s.first = search rules in
    let g : FitsSigned w32 s.step = search rules in
    let more : 1 < s.count = omega (arith, c.if-self-gt0.true) in
    rw (to_z-of_z w32 s.first f, to_z-of_z w32 s.step g) (next_fits s.first s.step s.count more c.requires.integers)

pub returns-then-self-gt0-clause-integers : goal.returns-then-self-gt0-clause-integers
returns-then-self-gt0-clause-integers c =
    let s = c.args.self.now in
    let f : FitsSigned w32 s.first = search rules in
    let g : FitsSigned w32 s.step = search rules in
    let more : 1 < s.count = omega (arith, c.if-self-gt0.true) in
    let some : s.count ≢ 0 = λ none. absurd (omega (arith, more, none)) in
    let both : FitsSigned w32 (s.first +ℤ s.step) = next_fits s.first s.step s.count more c.requires.integers in
    rw (to_z-of_z w32 s.first f, to_z-of_z w32 s.step g, to_z-of_z w32 (s.first +ℤ s.step) both) (rest_fit s.first s.step s.count some c.requires.integers)
