use Rattle.std.proofs.Common.{◌∙◌}
use Rattle.pl_frames.proofs.Header.{lay_written}
use Rattle.pl_frames.proofs.area.lay_header.Goals as goal

pub returns-clause-laid : goal.returns-clause-laid
returns-clause-laid g c told =
    lay_written c.args.area (g.D.Disk.view c.args.disk.now) (g.D.Disk.view c.write_synced.new.disk) c.args.generation c.deref.result.now (g.met.D.Disk.lawful c.args.disk.now told) (c.in_ok-write_synced.ensures.durable told) (c.in_ok-write_synced.ensures.written told) (c.deref.ensures.value ∙ c.in_ok-body.ensures) (c.requires.shut told)
