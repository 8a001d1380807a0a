use Rattle.std.proofs.Common.{[], ◌≡◌, ◌+◌, ◌-◌, List, length, map, None, ap, sym, ◌∙◌, rules}
use Rattle.pl_grammar.specs.Marks.{meant}
use Rattle.pl_grammar.specs.Parser.{many_from}
use Rattle.pl_grammar.specs.declared.fail.Fail.TheVariants.{Syntax}
use Rattle.pl_grammar.proofs.ItemTurns.{many_ended, many_failed, many_went_on, many_done}
use Rattle.pl_grammar.proofs.lists.many.Goals as goal

pub returns-then-not-begins : goal.returns-then-not-begins
returns-then-not-begins g c parser told =
    many_ended (map meant c.args.marks.now) parser _ c.loop-turn._turn c.loop-turn.found c.loop-turn.tokens c.loop-turn-test.true (c.loop-turn.invariant parser told) c.if-not-begins.ensures

pub returns-in_err-item : goal.returns-in_err-item
returns-in_err-item g c parser told =
    let none : c.in_err-item.field-0.0 ≡ Syntax → parser c.loop-turn.tokens ≡ None = told.reads _ _ _ c.in_err-item.ensures in
    let fails : c.in_err-item.field-0.0 ≡ Syntax → many_from (map meant c.args.marks.now) parser (length c.args.tokens.now) [] c.args.tokens.now ≡ None =
    λ is. many_failed (map meant c.args.marks.now) parser _ c.loop-turn._turn c.loop-turn.found c.loop-turn.tokens c.loop-turn-test.true (c.loop-turn.invariant parser told) c.if-not-begins.ensures (none is) in
    search rules

pub loop-turn-preserved : goal.loop-turn-preserved
loop-turn-preserved g c parser told =
    let more = many_went_on (map meant c.args.marks.now) parser _ c.loop-turn._turn c.loop-turn.found c.loop-turn.tokens c.item.new.arg2 c.in_ok-item.field-0 c.loop-turn-test.true
    (c.loop-turn.invariant parser told) c.if-not-begins.ensures (told.reads _ _ _ c.in_ok-item.ensures) in
    more ∙ ap (λ (l : List _). many_from (map meant c.args.marks.now) parser (c.left-turn-end.result - (c.loop-turn._turn + 1)) l c.item.new.arg2) (sym c.in_ok-push.ensures.ok)

pub returns : goal.returns
returns g c parser told =
    many_done (map meant c.args.marks.now) parser _ c.loop-turn._turn c.loop-turn.found c.loop-turn.tokens c.loop-turn-test.false (c.loop-turn.invariant parser told)
