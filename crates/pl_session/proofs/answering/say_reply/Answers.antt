use Rattle.std.proofs.Common.{◌∙◌, ◌++◌, ap, subst}
use Rattle.pl_disk.specs.Disk.{Says}
use Rattle.pl_session.proofs.Ends.{reply_along, reply_failed}
use Rattle.pl_session.proofs.answering.say_reply.Goals as goal

pub returns-in-Ok-clause-moments : goal.returns-in-Ok-clause-moments
returns-in-Ok-clause-moments g c db all_open =
    let a = g.H.Disk.view c.args.host.now in
    let d = g.H.Disk.view c.say.new.self in
    reply_along a d c.args.answer.reply db c.say.result all_open
    (subst (λ l. Says l a d c.say.result) (c.as_slice.ensures ∙ c.requires.lines) c.say.ensures)

pub returns-in-Ok-clause-printed : goal.returns-in-Ok-clause-printed
returns-in-Ok-clause-printed g c told =
    let a = g.H.Disk.view c.args.host.now in
    c.in-Ok.ensures.whole told ∙ ap (λ l. a.printed ++ l) (c.as_slice.ensures ∙ c.requires.lines)

pub returns-in-Ok-clause-failed : goal.returns-in-Ok-clause-failed
returns-in-Ok-clause-failed g c = c.is_some.ensures ∙ reply_failed c.args.answer.reply

pub returns-clause-moments : goal.returns-clause-moments
returns-clause-moments g c db all_open =
    let a = g.H.Disk.view c.args.host.now in
    let d = g.H.Disk.view c.say.new.self in
    reply_along a d c.args.answer.reply db c.say.result all_open
    (subst (λ l. Says l a d c.say.result) (c.as_slice.ensures ∙ c.requires.lines) c.say.ensures)
