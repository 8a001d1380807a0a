use Rattle.pl_engine.proofs.Joins.{lawful, answered, acted, becomes}
use Rattle.pl_engine.specs.Engines.{world}
use Rattle.pl_engine.specs.Texts.{do_bodies}
use Rattle.pl_loops.proofs.Counted.{are_integers_of, as_integers}
use Rattle.pl_loops.proofs.Opened.{over_next, positive_here, positive_not}
use Rattle.pl_loops.proofs.numbers.stepping.Goals as goal
use Rattle.pl_loops.specs.Ranges.{numbers_in}
use Rattle.pl_engine.specs.pl_world.Control.{numbers, over_numbers}
use Rattle.std.proofs.lemmas.Int.{to_z-of_z}
use Rattle.std.specs.Int.{w32}
use Rattle.pl_engine.specs.pl_world.Statements.{runner_for}
use Rattle.std.proofs.Common.{◌≡◌, ◌∙◌, ap, sym, rules, ℤ, List, of_z, to_z}

pub returns-then-by-le0-clause-is : goal.returns-then-by-le0-clause-is
returns-then-by-le0-clause-is g c =
    let law = lawful g.P.Port g.met.P.Port.none g.met.P.Port.joins g.met.P.Port.rises in
    let r = runner_for do_bodies c.args.runner.now.room in
    acted law (positive_not law r c.args.at c.args.engine.now c.args.port.now c.requires.fits c.args.by (over_next r c.args.at c.args.numbers.now.label c.args.numbers.now.variable c.args.numbers.now.is_reverse c.args.numbers.now.body.now c.args.first c.args.last) (search rules)) c.raise.ensures

pub returns-clause-is : goal.returns-clause-is
returns-clause-is g c =
    let law = lawful g.P.Port g.met.P.Port.none g.met.P.Port.joins g.met.P.Port.rises in
    let r = runner_for do_bodies c.args.runner.now.room in
    let way = positive_here law r c.args.at c.args.engine.now c.args.port.now c.requires.fits c.args.by (over_next r c.args.at c.args.numbers.now.label c.args.numbers.now.variable c.args.numbers.now.is_reverse c.args.numbers.now.body.now c.args.first c.args.last) (search rules) in
    let f = to_z-of_z w32 c.args.first c.ranges.first in
    let l = to_z-of_z w32 c.args.last c.ranges.last in
    let b = to_z-of_z w32 c.args.by c.ranges.by in
    let same : numbers_in c.range-counting.result ≡ numbers c.args.numbers.now.is_reverse c.args.first c.args.last c.args.by = c.range-counting.ensures
    ∙ (ap (λ (z : ℤ). numbers c.args.numbers.now.is_reverse z (to_z w32 (of_z w32 c.args.last)) (to_z w32 (of_z w32 c.args.by))) f
    ∙ (ap (λ (z : ℤ). numbers c.args.numbers.now.is_reverse c.args.first z (to_z w32 (of_z w32 c.args.by))) l ∙ ap (λ (z : ℤ). numbers c.args.numbers.now.is_reverse c.args.first c.args.last z) b)) in
    answered law _ _ _ (becomes law way (ap (λ (zs : List ℤ). over_numbers r c.args.at c.args.numbers.now.label c.args.numbers.now.variable c.args.numbers.now.body.now zs (world c.args.engine.now)) (sym same))) c.over.ensures.is

pub over-requires-clause-integers : goal.over-requires-clause-integers
over-requires-clause-integers g c =
    let f = to_z-of_z w32 c.args.first c.ranges.first in
    let l = to_z-of_z w32 c.args.last c.ranges.last in
    let b = to_z-of_z w32 c.args.by c.ranges.by in
    let same : numbers_in c.range-counting.result ≡ numbers c.args.numbers.now.is_reverse c.args.first c.args.last c.args.by = c.range-counting.ensures
    ∙ (ap (λ (z : ℤ). numbers c.args.numbers.now.is_reverse z (to_z w32 (of_z w32 c.args.last)) (to_z w32 (of_z w32 c.args.by))) f
    ∙ (ap (λ (z : ℤ). numbers c.args.numbers.now.is_reverse c.args.first z (to_z w32 (of_z w32 c.args.by))) l ∙ ap (λ (z : ℤ). numbers c.args.numbers.now.is_reverse c.args.first c.args.last z) b)) in
    as_integers _ _ same (are_integers_of c.args.numbers.now.is_reverse c.args.first c.args.last c.args.by (search rules) c.ranges.first c.ranges.last)
