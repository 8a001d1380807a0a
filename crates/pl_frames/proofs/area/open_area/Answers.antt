use Rattle.pl_frames.proofs.Header.{open_runs, open_done}
use Rattle.pl_frames.proofs.area.open_area.Goals as goal

pub returns-clause-writes : goal.returns-clause-writes
returns-clause-writes g c = open_runs c.args.area _ _ c.requires.shut c.write_synced.ensures.writes

pub returns-in_err-write_synced-clause-writes : goal.returns-in_err-write_synced-clause-writes
returns-in_err-write_synced-clause-writes g c = open_runs c.args.area _ _ c.requires.shut c.write_synced.ensures.writes

pub returns-clause-opened : goal.returns-clause-opened
returns-clause-opened g c told = open_done c.args.area _ _ _ (c.in_ok-write_synced.ensures.durable told) (c.in_ok-write_synced.ensures.written told)
