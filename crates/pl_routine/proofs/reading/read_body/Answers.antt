use Rattle.pl_routine.proofs.Answered.{only_of_text}
use Rattle.pl_routine.proofs.reading.read_body.Goals as goal

pub returns-in-Ok-clause-only : goal.returns-in-Ok-clause-only
returns-in-Ok-clause-only c =
    only_of_text c.args.text.now c.in-Ok.tokens.items c.as_slice.result.now c.read_tokens.result
    c.as_slice.ensures.value c.in-Ok.ensures.only c.read_tokens.ensures.only
