use Rattle.std.proofs.Common.{arith, refl}
use Rattle.pl_cli.proofs.Flaws.{is_no_text, one_end}
use Rattle.pl_cli.proofs.reading.text_end.Goals as goal

pub returns-in-Ok-clause-least : goal.returns-in-Ok-clause-least
returns-in-Ok-clause-least c = λ k valid. absurd (is_no_text c.args.bytes.now k valid (c.in-Ok.ensures.exactly.0 refl))

pub returns-in-Err-clause-least : goal.returns-in-Err-clause-least
returns-in-Err-clause-least c = λ k valid. omega (arith, one_end c.args.bytes.now k c.in-Err.error.at valid c.in-Err.ensures.first)
