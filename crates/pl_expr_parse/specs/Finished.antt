-- The parts of the grammar as other grammars name them.
use Rattle.std.specs.Prelude.{suc, length}
use Rattle.pl_grammar.specs.Parser.{Parser}
use Rattle.pl_grammar.specs.Rule.{Given, SpelledBy}
use Rattle.pl_expr_parse.specs.Grammar.{Part, Tree, rule}
use Rattle.pl_expr_parse.specs.FirstFollow.{reads_part, firsts, follow_last, empty}

-- a part at the front of a list of tokens
unfoldable pub reads_front : (p : Part) → Parser (Tree p)
reads_front p ts = reads_part (suc (length ts)) p ts

abbrev pub finished : (p : Part) → Given (Tree p)
finished p = record { spells = SpelledBy rule p; reader = reads_front p; firsts = firsts p; follow_last = follow_last p; empty = empty p }
