use Rattle.std.proofs.Common.{◌∙◌, ap, subst}
use Rattle.pl_base.specs.Image.{Image}
use Rattle.pl_keeper.specs.Batches.{spare_area}
use Rattle.pl_session.specs.pl_world.Opening.{opens}
use Rattle.pl_session.specs.Spare.{KeepsArea}
use Rattle.pl_cli.proofs.Covering.{not_settled}
use Rattle.pl_cli.proofs.Runs.{area_attached, area_not_attached, attached_start, attached_untouched}
use Rattle.pl_cli.proofs.program.start.Goals as goal

pub returns-then-is_err-clause-settled : goal.returns-then-is_err-clause-settled
returns-then-is_err-clause-settled g c told = not_settled (g.H.Disk.view c.args.host.now) (g.H.Disk.view c.attach.new.self) _ (c.attach.ensures.images told).synced

pub returns-clause-untouched : goal.returns-clause-untouched
returns-clause-untouched g c told damage is =
    attached_untouched _ _ _ _ _ told c.attach.ensures.call (c.attach.ensures.images told)
    (c.start.ensures.untouched (c.attach.ensures.call.continues.told told) damage (ap opens (c.attach.ensures.images told).seen ∙ is))

pub returns-clause-moments : goal.returns-clause-moments
returns-clause-moments g c = attached_start _ _ _ _ _ c.attach.ensures.call c.attach.ensures.images c.start.ensures.moments

pub returns-then-is_err-clause-spare : goal.returns-then-is_err-clause-spare
returns-then-is_err-clause-spare g c told = area_not_attached _ _ _ _ _ told c.attach.ensures.call (c.attach.ensures.images told)

pub returns-clause-spare : goal.returns-clause-spare
returns-clause-spare g c told =
    let keeps = c.attach.ensures.images told in
    area_attached _ _ _ _ _ _ told c.attach.ensures.call keeps
    (subst (λ (i : Image). KeepsArea (spare_area i) (g.H.Disk.view c.attach.new.self) (g.H.Disk.view c.start.new.host)) keeps.seen (c.start.ensures.spare (c.attach.ensures.call.continues.told told)))
