use Rattle.std.proofs.Common.{rules}
use Rattle.pl_plans.proofs.plans.resolve.Goals as goal

pub returns-in-Some-clause-made : goal.returns-in-Some-clause-made
returns-in-Some-clause-made g c = c.find.ensures.made c.args.catalog.now.objects c.requires.made

pub returns-in_err-resolve-clause-made : goal.returns-in_err-resolve-clause-made
returns-in_err-resolve-clause-made g c = c.find.ensures.made c.args.catalog.now.objects c.requires.made

pub returns-in_err-made-clause-made : goal.returns-in_err-made-clause-made
returns-in_err-made-clause-made g c = c.find.ensures.made c.args.catalog.now.objects c.requires.made

pub returns-clause-made : goal.returns-clause-made
returns-clause-made g c = c.keep-kept.ensures c.args.catalog.now.objects (search rules) (c.find.ensures.made c.args.catalog.now.objects c.requires.made)
