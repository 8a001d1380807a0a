use Rattle.pl_cli.proofs.Chains.{always_opens, begins, joins}
use Rattle.pl_cli.proofs.chain.joins.Goals as goal

pub returns-clause-joins : goal.returns-clause-joins
returns-clause-joins g c first run earlier chain covers printed image left = joins g.H.Disk.view first run earlier chain covers printed image left

pub returns-clause-begins : goal.returns-clause-begins
returns-clause-begins g c first runs later chain image left = begins g.H.Disk.view first runs later chain image left

pub returns-clause-opens : goal.returns-clause-opens
returns-clause-opens g c first runs all printed image known = always_opens g.H.Disk.view first runs all printed image known
