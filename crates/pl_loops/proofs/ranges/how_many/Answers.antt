use Rattle.std.proofs.Common.{◌≡◌, ◌∙◌, ◌+◌, ℕ, ℤ, true, ap, arith, of_z, to_z}
use Rattle.std.proofs.lemmas.Int.{ints, to_z-of_z}
use Rattle.std.specs.Int.{w32}
use Rattle.std.specs.Prelude.{◌-ℤ◌, int_le, nat_abs}
use Rattle.pl_loops.proofs.Counted.{how_many_some, plus_one}
use Rattle.pl_loops.proofs.ranges.how_many.Goals as goal

pub returns : goal.returns
returns c =
    let le : int_le c.args.low c.args.high ≡ true = grind (arith, ints, c.if-low-high.false) in
    let d : c.abs_diff.result ≡ nat_abs (c.args.high -ℤ c.args.low) = c.abs_diff.ensures
    ∙ (ap (λ (z : ℤ). nat_abs (z -ℤ (to_z w32 (of_z w32 c.args.low)))) (to_z-of_z w32 c.args.high c.ranges.high) ∙ ap (λ (z : ℤ). nat_abs (c.args.high -ℤ z)) (to_z-of_z w32 c.args.low c.ranges.low)) in
    ap (λ (n : ℕ). n + 1) c.from.ensures ∙ (plus_one _ ∙ how_many_some c.args.low c.args.high c.args.by c.abs_diff.result le d)
