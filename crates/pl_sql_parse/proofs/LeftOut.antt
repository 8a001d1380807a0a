-- The words that the code looks for are those that are left out.
use Rattle.std.proofs.Common.{◌≡◌, refl}
use Rattle.std.specs.List.{list_any}
use Rattle.pl_grammar.specs.Marks.{Tokens, word, sees}
use Rattle.pl_sql_parse.specs.LeftOut.{left_out}
use Rattle.pl_sql_parse.specs.declared.left_out.TheConstants.{LEFT_OUT}

pub same_words : (ts : Tokens) → list_any (λ w. sees (word w.now) ts) LEFT_OUT ≡ list_any (λ w. sees (word w) ts) left_out
same_words ts = refl
