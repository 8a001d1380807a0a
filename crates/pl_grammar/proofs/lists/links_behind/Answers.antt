use Rattle.std.proofs.Common.{◌≡◌, ◌+◌, ◌-◌, List, length, None, ap, sym, ◌∙◌, rules}
use Rattle.pl_grammar.specs.Forms.{alone, by}
use Rattle.pl_grammar.specs.Marks.{meant}
use Rattle.pl_grammar.specs.Parser.{links_from}
use Rattle.pl_grammar.specs.declared.fail.Fail.TheVariants.{Syntax}
use Rattle.pl_grammar.proofs.ItemTurns.{links_ended, links_failed, links_went_on, links_done}
use Rattle.pl_grammar.proofs.lists.links_behind.Goals as goal

pub loop-turn-init : goal.loop-turn-init
loop-turn-init g c parser told = let n : length c.args.tokens.now ≡ c.left-turn-end.result = sym c.left-turn-end.ensures in search (rules, n)

pub returns-then-not-eat : goal.returns-then-not-eat
returns-then-not-eat g c parser told =
    let e = c.if-not-eat.ensures in
    links_ended (meant c.args.mark) parser _ c.loop-turn._turn c.loop-turn.found c.loop-turn.tokens c.eat.new.self c.loop-turn-test.true (c.loop-turn.invariant parser told) e.result e.new

pub returns-in_err-item : goal.returns-in_err-item
returns-in_err-item g c parser told =
    let e = c.if-not-eat.ensures in
    let none : c.in_err-item.field-0.0 ≡ Syntax → parser c.eat.new.self ≡ None = told.reads _ _ _ c.in_err-item.ensures in
    let fails : c.in_err-item.field-0.0 ≡ Syntax → links_from (by (meant c.args.mark)) parser alone (length c.args.tokens.now) c.args.found c.args.tokens.now ≡ None =
    λ is. links_failed (meant c.args.mark) parser _ c.loop-turn._turn c.loop-turn.found c.loop-turn.tokens c.eat.new.self c.loop-turn-test.true (c.loop-turn.invariant parser told) e.result e.new (none is) in
    search rules

pub loop-turn-preserved : goal.loop-turn-preserved
loop-turn-preserved g c parser told =
    let e = c.if-not-eat.ensures in
    let more = links_went_on (meant c.args.mark) parser _ c.loop-turn._turn c.loop-turn.found c.loop-turn.tokens c.eat.new.self c.item.new.arg2 c.in_ok-item.field-0 c.loop-turn-test.true
    (c.loop-turn.invariant parser told) e.result e.new (told.reads _ _ _ c.in_ok-item.ensures) in
    more ∙ ap (λ (l : List _). links_from (by (meant c.args.mark)) parser alone (c.left-turn-end.result - (c.loop-turn._turn + 1)) l c.item.new.arg2) (sym c.in_ok-push.ensures.ok)

pub returns : goal.returns
returns g c parser told = links_done (meant c.args.mark) parser _ c.loop-turn._turn c.loop-turn.found c.loop-turn.tokens c.loop-turn-test.false (c.loop-turn.invariant parser told)
