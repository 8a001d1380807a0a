use Rattle.std.proofs.Common.{◌≡◌, ◌-◌, length}
use Rattle.pl_grammar.specs.Forms.{alone, by}
use Rattle.pl_grammar.specs.Marks.{meant}
use Rattle.pl_grammar.specs.Parser.{Parser, ReadBy, links_from}
use Rattle.pl_grammar.proofs.lists.links_behind.Given as goal

abbrev pub invariant-loop-turn : goal.invariant-loop-turn
invariant-loop-turn g l =
    (parser : Parser g.row.T.Denot) → ReadBy parser (goal.F-post g l.fn.item)
    → links_from (by (meant l.mark)) parser alone (length l.fn.tokens) l.fn.found l.fn.tokens ≡ links_from (by (meant l.mark)) parser alone (l._turn-end - l._turn) l.found l.tokens
