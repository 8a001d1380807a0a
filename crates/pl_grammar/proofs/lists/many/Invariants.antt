use Rattle.std.proofs.Common.{[], ◌≡◌, ◌-◌, length, map}
use Rattle.pl_grammar.specs.Marks.{meant}
use Rattle.pl_grammar.specs.Parser.{Parser, ReadBy, many_from}
use Rattle.pl_grammar.proofs.lists.many.Given as goal

abbrev pub invariant-loop-turn : goal.invariant-loop-turn
invariant-loop-turn g l =
    (parser : Parser g.row.T.Denot) → ReadBy parser (goal.F-post g l.fn.item)
    → many_from (map meant l.marks) parser (length l.fn.tokens) [] l.fn.tokens ≡ many_from (map meant l.marks) parser (l._turn-end - l._turn) l.found l.tokens
