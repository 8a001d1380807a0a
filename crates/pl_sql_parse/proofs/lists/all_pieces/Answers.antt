use Rattle.std.proofs.Common.{[], ◌≡◌, ◌+◌, ◌-◌, List, length, map, None, ap, sym, ◌∙◌, rules}
use Rattle.pl_grammar.specs.Marks.{meant}
use Rattle.pl_grammar.specs.Parser.{many_from}
use Rattle.pl_grammar.specs.declared.fail.Fail.TheVariants.{Syntax}
use Rattle.pl_grammar.proofs.ItemTurns.{many_ended, many_failed, many_went_on, many_done}
use Rattle.pl_sql_parse.proofs.lists.all_pieces.Goals as goal

pub returns-then-not-begins : goal.returns-then-not-begins
returns-then-not-begins g c =
    many_ended (map meant c.args.marks.now) g.T.Piece.reader _ c.loop-turn._turn c.loop-turn.found c.loop-turn.tokens c.loop-turn-test.true c.loop-turn.invariant c.if-not-begins.ensures

pub returns-in_err-read : goal.returns-in_err-read
returns-in_err-read g c =
    let fails : c.in_err-read.field-0.0 ≡ Syntax → many_from (map meant c.args.marks.now) g.T.Piece.reader (length c.args.tokens.now) [] c.args.tokens.now ≡ None =
    λ is. many_failed (map meant c.args.marks.now) g.T.Piece.reader _ c.loop-turn._turn c.loop-turn.found c.loop-turn.tokens c.loop-turn-test.true c.loop-turn.invariant c.if-not-begins.ensures (c.in_err-read.ensures is) in
    search rules

pub loop-turn-preserved : goal.loop-turn-preserved
loop-turn-preserved g c =
    let more = many_went_on (map meant c.args.marks.now) g.T.Piece.reader _ c.loop-turn._turn c.loop-turn.found c.loop-turn.tokens c.read.new.tokens c.in_ok-read.field-0 c.loop-turn-test.true
    c.loop-turn.invariant c.if-not-begins.ensures c.in_ok-read.ensures in
    more ∙ ap (λ (l : List _). many_from (map meant c.args.marks.now) g.T.Piece.reader (c.left-turn-end.result - (c.loop-turn._turn + 1)) l c.read.new.tokens) (sym c.in_ok-push.ensures.ok)

pub returns : goal.returns
returns g c = many_done (map meant c.args.marks.now) g.T.Piece.reader _ c.loop-turn._turn c.loop-turn.found c.loop-turn.tokens c.loop-turn-test.false c.loop-turn.invariant
