use Rattle.std.proofs.Common.{◌∙◌, List, None, Ok, [], subst, sym}
use Rattle.pl_altering.proofs.taking.add_all.Goals as goal
use Rattle.pl_altering.specs.Settings.{ReadsOver}
use Rattle.pl_query.specs.Rows.{in_turn}
use Rattle.pl_value.specs.Frames.{Row}
use Rattle.pl_world.specs.Calls.{Within}
use Rattle.pl_world.specs.Changes.{writes}

pub returns-in-Ok : goal.returns-in-Ok
returns-in-Ok g c = λ s same none.
    subst (λ (made : List Row). ReadsOver {A = List Row} c.args.command.now (λ (x : Within). in_turn (writes s None) c.args.found [] x) (Ok made) c.args.calling.now c.add_each.new.calling) (sym (c.from_vec.ensures ∙ c.into_vec.ensures)) (c.in-Ok.ensures s same none)
