use Rattle.std.proofs.Common.{◌∙◌, List, refl, subst, sym}
use Rattle.pl_altering.proofs.taking.add_as_found.Goals as goal
use Rattle.pl_altering.specs.Ends.{done_from}
use Rattle.pl_natural.specs.Kept.{ReadsKept}
use Rattle.pl_querying.specs.pl_calling.Standing.{keep}
use Rattle.pl_querying.specs.pl_engine.Engines.{world}
use Rattle.pl_querying.specs.pl_engine.Texts.{do_bodies}
use Rattle.pl_value.specs.Frames.{Row}
use Rattle.pl_value.specs.Reading.{Reading}
use Rattle.pl_world.specs.Calls.{Within}
use Rattle.pl_world.specs.Changes.{setting}
use Rattle.pl_world.specs.Statements.{runner_for}
use Rattle.pl_world.specs.World.{World}

pub returns-clause-is : goal.returns-clause-is
returns-clause-is g c =
    let w : World = world c.args.engine.now in
    let r = runner_for do_bodies c.args.calls.now.room in
    let reads = c.add_all-answer.ensures (setting r c.args.at c.args.change.now w) refl c.requires.left.shows c.requires.left.behind (c.begin-calling.ensures ∙ c.requires.left.begins) in
    c.finish.ensures.is (done_from r c.args.at c.args.change.now w) c.args.calls.now.room c.args.engine.now (sym c.requires.begins) (subst (λ (v : World). g.P.Port.fits v.last c.args.port.now) (sym c.requires.begins) c.requires.fits)
    (subst (λ (q : Reading Within (List Row)). ReadsKept (keep c.args.at c.args.calls.now.room) q c.add_all-answer.result c.add_all-answer.new.calling) (sym c.requires.left.reads) reads)
