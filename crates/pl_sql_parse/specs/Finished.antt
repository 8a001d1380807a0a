-- The parts of the grammar as other grammars name them.
use Rattle.pl_grammar.specs.Rule.{Given, SpelledBy}
use Rattle.pl_sql_parse.specs.Grammar.{Part, Tree, rule}
use Rattle.pl_sql_parse.specs.FirstFollow.{reads_part, firsts, follow_last, empty}

abbrev pub finished : (p : Part) → Given (Tree p)
finished p = record {
  spells = SpelledBy rule p;
  reader = reads_part p;
  firsts = firsts p;
  follow_last = follow_last p;
  empty = empty p;
}
