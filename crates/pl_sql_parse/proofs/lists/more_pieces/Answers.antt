use Rattle.std.proofs.Common.{◌≡◌, ◌+◌, ◌-◌, List, length, None, ap, sym, ◌∙◌, rules}
use Rattle.pl_grammar.specs.Forms.{alone, by}
use Rattle.pl_grammar.specs.Words.{COMMA}
use Rattle.pl_grammar.specs.Parser.{links_from}
use Rattle.pl_grammar.specs.declared.fail.Fail.TheVariants.{Syntax}
use Rattle.pl_grammar.proofs.ItemTurns.{links_ended, links_failed, links_went_on, links_done}
use Rattle.pl_sql_parse.proofs.lists.more_pieces.Goals as goal

pub loop-turn-init : goal.loop-turn-init
loop-turn-init g c = let n : length c.args.tokens.now ≡ c.left-turn-end.result = sym c.left-turn-end.ensures in search (rules, n)

pub returns-then-not-eat : goal.returns-then-not-eat
returns-then-not-eat g c =
    let e = c.if-not-eat.ensures in
    links_ended COMMA g.T.Piece.reader _ c.loop-turn._turn c.loop-turn.found c.loop-turn.tokens c.eat.new.self c.loop-turn-test.true c.loop-turn.invariant e.result e.new

pub returns-in_err-read : goal.returns-in_err-read
returns-in_err-read g c =
    let e = c.if-not-eat.ensures in
    let fails : c.in_err-read.field-0.0 ≡ Syntax → links_from (by COMMA) g.T.Piece.reader alone (length c.args.tokens.now) c.args.found c.args.tokens.now ≡ None =
    λ is. links_failed COMMA g.T.Piece.reader _ c.loop-turn._turn c.loop-turn.found c.loop-turn.tokens c.eat.new.self c.loop-turn-test.true c.loop-turn.invariant e.result e.new (c.in_err-read.ensures is) in
    search rules

pub loop-turn-preserved : goal.loop-turn-preserved
loop-turn-preserved g c =
    let e = c.if-not-eat.ensures in
    let more = links_went_on COMMA g.T.Piece.reader _ c.loop-turn._turn c.loop-turn.found c.loop-turn.tokens c.eat.new.self c.read.new.tokens c.in_ok-read.field-0 c.loop-turn-test.true
    c.loop-turn.invariant e.result e.new c.in_ok-read.ensures in
    more ∙ ap (λ (l : List _). links_from (by COMMA) g.T.Piece.reader alone (c.left-turn-end.result - (c.loop-turn._turn + 1)) l c.read.new.tokens) (sym c.in_ok-push.ensures.ok)

pub returns : goal.returns
returns g c = links_done COMMA g.T.Piece.reader _ c.loop-turn._turn c.loop-turn.found c.loop-turn.tokens c.loop-turn-test.false c.loop-turn.invariant
