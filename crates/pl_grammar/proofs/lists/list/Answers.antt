use Rattle.std.proofs.Common.{◌∙◌, ◌++◌, ◌∷◌, [], ap}
use Rattle.pl_grammar.specs.Marks.{meant}
use Rattle.pl_grammar.proofs.ItemTurns.{listed_reads}
use Rattle.pl_grammar.proofs.lists.list.Goals as goal

pub returns : goal.returns
returns g c parser told =
    listed_reads (meant c.args.mark) parser c.args.tokens.now c.item.new.arg2 c.links_behind.new.tokens c.in_ok-item.field-0 c.push.new.self c.links_behind.result
    (told.reads _ _ _ c.in_ok-item.ensures) (c.in_ok-push.ensures.ok ∙ ap (λ l. l ++ c.in_ok-item.field-0 ∷ []) c.new-found.ensures) (c.links_behind.ensures parser told)
